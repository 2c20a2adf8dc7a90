-- For laws of sessions: a session exists, and is unique.
use Rattle.std.proofs.Common.{
  ◌≡◌,
  ◌≢◌,
  ◌≤◌,
  ◌<◌,
  ◌+◌,
  ◌-◌,
  ◌^◌,
  ℕ,
  Bool,
  true,
  false,
  List,
  [],
  ◌∷◌,
  ◌++◌,
  Option,
  None,
  Some,
  Ok,
  Err,
  inl,
  inr,
  refl,
  sym,
  ap,
  subst,
  ◌∙◌,
  arith,
}
use Rattle.std.specs.Prelude.{◌*◌, ◌⊎◌, ◌||◌, min, IfSome, Result, codes}
use Rattle.std.specs.List.{concat, list_any}
use Rattle.std.specs.Io.KnownBytes.{Appends, Consumes, IsAtEnd}
use Rattle.std.proofs.lemmas.Bool.{false≢true}
use Rattle.nvme_spec.specs.Blocks.{Device, blocks_from}
use Rattle.nvme_spec.specs.Configuration.{Capacity, config_fault}
use Rattle.nvme_live.specs.SetUps.{SetUp, numbered_reason, with_line}
use Rattle.nvme_spec.specs.declared.config.ConfigFault.{ConfigFault}
use Rattle.nvme_spec.specs.declared.medium.MediumFault.{MediumFault}
use Rattle.nvme_subsys.specs.Looking.{Reads}
use Rattle.nvme_event.specs.declared.event.FleetEvent.{FleetEvent}
use Rattle.nvme_event.specs.Replies.{Reply}
use Rattle.nvme_fleet.specs.FleetStates.{Layers, fleet_in, opening_layers}
use Rattle.nvme_fleet.specs.Layers.{Run, Step}
use Rattle.nvme_fleet.specs.Unique.{HaveTicketsOnce}
use Rattle.nvme_mailbox.proofs.Determined.{step-counts}
use Rattle.nvme_fleet.proofs.Unique.{layers_run_is_unique, opening_has_tickets_once, tickets_stay_once}
use Rattle.nvme_transcript.specs.Transcript.{line_of}
use Rattle.nvme_grammar.specs.declared.line.Line.{Line}
use Rattle.nvme_grammar.specs.declared.line.Line.TheVariants.{Blank, Controller, Namespace, Attached, Start, Event}
use Rattle.live_text.specs.Faults.{refusal}
use Rattle.live_text.specs.declared.fault.Why.TheVariants.{BeforeStart, BehindStart}
use Rattle.live_text.specs.declared.looking.Looking.{Looking}
use Rattle.live_text.specs.declared.looking.Looking.TheVariants as look
use Rattle.nvme_lines.specs.LineTexts.{reading_text}
use Rattle.live_text.specs.declared.asking.Asked.{Asked}
use Rattle.live_text.specs.declared.asking.Asked.TheVariants.{Fails, Nothing, Looks, Parses, Sets, Does}
use Rattle.nvme_live.specs.Answers.{AnswersLine, LooksAtBlocks, Shows, ShowsBlocks, block_of}
use Rattle.live_text.specs.Asking.{asked}
use Rattle.nvme_live.specs.Keeping.{is_block_look}
use Rattle.nvme_live.specs.Saying.{with_feed}
use Rattle.nvme_live.specs.SessionLaws.{
  EndIsUnique,
  HasTicketsOnce,
  IsAnswered,
  LinesBeforeStartAreAnswered,
  LinesOfARunAreAnswered,
  SessionIsUnique,
  StartIsAnswered,
  asks_start,
  events_asked,
  failures_at,
  with_asked,
}
use Rattle.live_views.specs.Looks.{read_text}
use Rattle.nvme_live.specs.Looks.{shown_text}
use Rattle.live_views.specs.Showing.{early_text}
use Rattle.nvme_live.specs.Standings.{
  Standing,
  Setting,
  Running,
  Over,
  Session,
  SetsBy,
  Starts,
  Turn,
  refused_text,
  started_text,
}
use Rattle.nvme_live.specs.Taking.{TakesLines, session_lines}
use Rattle.nvme_live.proofs.InBytes.{known-answers, known-lines}
use Rattle.nvme_live.proofs.Kept.{looked-at, same-layers}
use Rattle.nvme_live.proofs.Lines.{lines_are_known}
use Rattle.nvme_live.proofs.Starting.{starts-device}

or-false : (a b : Bool) → (a || b) ≡ false → (a ≡ false) × (b ≡ false)
or-false true b e = absurd (false≢true (sym e))
or-false false b e = (refl, e)

-- The failure count never falls.
step-rises : (tells : Bool) (old new : Layers) (event : FleetEvent) (reply : Reply)
    → Step tells old event reply new → old.subsystem.device.failures ≤ new.subsystem.device.failures
unfolding fleet_in
step-rises tells old new event reply step = step-counts tells (fleet_in old) (fleet_in new) event reply step.mailboxes

same-rises : (a b : ℕ) → b ≡ a → a ≤ b
same-rises a b e = omega (arith, e)

abbrev failing : Layers → ℕ
failing l = l.subsystem.device.failures

shows-rises : (tells : Bool) (n : ℕ) (looking : Looking) (old new : Layers) (answer : List ℕ)
    → Shows tells n looking old answer new → old.subsystem.device.failures ≤ new.subsystem.device.failures
shows-rises tells n look.Help old new answer h = same-rises _ _ (ap failing h.1)
shows-rises tells n (look.HelpOn form) old new answer h = same-rises _ _ (ap failing h.1)
shows-rises tells n look.Namespaces old new answer h = same-rises _ _ (ap failing h.1)
shows-rises tells n look.Attached old new answer h = same-rises _ _ (ap failing h.1)
shows-rises tells n (look.Reservation m) old new answer h = same-rises _ _ (ap failing h.1)
shows-rises tells n (look.Driver k) old new answer h = same-rises _ _ (ap failing h.1)
shows-rises tells n (look.Window k address len) old new answer h = same-rises _ _ (ap failing h.1)
shows-rises tells n (look.Register k offset) old new answer h = same-rises _ _ (ap failing h.1)
shows-rises tells n (look.Registers k) old new answer h = same-rises _ _ (ap failing h.1)
shows-rises tells n (look.Queues k) old new answer h = same-rises _ _ (ap failing h.1)
shows-rises tells n (look.Fetched k) old new answer h = same-rises _ _ (ap failing h.1)
shows-rises tells n (look.Blocks m slba count) old new answer h =
    (looked-at tells n m slba count old new answer (block_of m slba count old) h).count

answered-rises : (tells : Bool) (n : ℕ) (q : Asked) (old new : Layers) (answer : List ℕ)
    → AnswersLine tells n q old answer new → old.subsystem.device.failures ≤ new.subsystem.device.failures
answered-rises tells n (Fails why) old new answer h = same-rises _ _ (ap failing h.1)
answered-rises tells n Nothing old new answer h = same-rises _ _ (ap failing h.1)
answered-rises tells n (Looks looking) old new answer h = shows-rises tells n looking old new answer h
answered-rises tells n (Parses says) old new answer h = same-rises _ _ (ap failing h.1)
answered-rises tells n (Sets says) old new answer h = same-rises _ _ (ap failing h.1)
answered-rises tells n (Does event) old new answer h = step-rises tells old new event h.reply h.step

stays-at : (d : Device) (c k : SetUp) (new : Standing) → new ≡ Setting k → failures_at d (Setting c) ≤ failures_at d new
stays-at d c k new e = same-rises _ _ (ap (failures_at d) e)

sets-rises : (size : Capacity) (d : Device) (n : ℕ) (c : SetUp) (line : Line) (answer : List ℕ) (new : Standing)
    → SetsBy size d n c line answer new → failures_at d (Setting c) ≤ failures_at d new
sets-rises size d n c Start answer new h = same-rises _ _
    (ap (λ (e : Device). e.failures) (starts-device (config_fault c.configuration size) size d n c answer new h))
sets-rises size d n c Blank answer new h = stays-at d c _ new h.1
sets-rises size d n c (Controller k) answer new h = stays-at d c _ new h.1
sets-rises size d n c (Namespace k) answer new h = stays-at d c _ new h.1
sets-rises size d n c (Attached k m) answer new h = stays-at d c _ new h.1
sets-rises size d n c (Event event) answer new h = stays-at d c _ new h.1

turn-rises : (tells : Bool) (size : Capacity) (d : Device) (n : ℕ) (old new : Standing) (q : Asked) (answer : List ℕ)
    → Turn tells size d n old q answer new → failures_at d old ≤ failures_at d new
turn-rises tells size d n (Setting c) new (Fails why) answer h = stays-at d c c new h.1
turn-rises tells size d n (Setting c) new Nothing answer h = stays-at d c c new h.1
turn-rises tells size d n (Setting c) new (Looks looking) answer h = stays-at d c c new h.1
turn-rises tells size d n (Setting c) new (Parses says) answer h = stays-at d c c new h.1
turn-rises tells size d n (Setting c) new (Sets says) answer h = sets-rises size d n c says answer new h
turn-rises tells size d n (Setting c) new (Does event) answer h = stays-at d c c new h.1
turn-rises tells size d n (Running old) new q answer (later, h, is) =
    let rises = answered-rises tells n q old later answer h in
    let same = ap (failures_at d) is in omega (arith, rises, same)
turn-rises tells size d n (Over k fault) new q answer h = absurd h

session-rises :
    (tells : Bool) (size : Capacity) (d : Device) (n : ℕ) (old new : Standing) (lines answers : List (List ℕ))
    → Session tells size d n old lines answers new → failures_at d old ≤ failures_at d new
session-rises tells size d n old new [] [] h = same-rises _ _ (ap (failures_at d) h)
session-rises tells size d n old new [] (answer ∷ answers) h = absurd h
session-rises tells size d n old new (line ∷ lines) [] h = absurd h
session-rises tells size d n old new (line ∷ lines) (answer ∷ answers) (mid, turn, rest) =
    let one = turn-rises tells size d n old mid (asked line) answer turn in
    let more = session-rises tells size d (n + 1) mid new lines answers rest in omega (arith, one, more)

-- Two equal answers of a line, with equal states after them.
abbrev Alike : {S : Type 0} → (a b : List ℕ) → (s t : S) → Type 0
Alike a b s t = (b ≡ a) × (t ≡ s)

alike : {S : Type 0} (a b x : List ℕ) (s t y : S) → (a ≡ x) × (s ≡ y) → (b ≡ x) × (t ≡ y) → Alike a b s t
alike a b x s t y h k = (k.0 ∙ sym h.0, k.1 ∙ sym h.1)

not-risen : (top f g : ℕ) → g ≡ f → f < top → min (f + 1) top ≤ g → ⊥
not-risen top f g same below risen = omega arith

module _
    (n : ℕ) (old new other : Layers) (a b : List ℕ) (x : new.subsystem.device.failures ≡ old.subsystem.device.failures)
    (y : other.subsystem.device.failures ≡ old.subsystem.device.failures)
    (below : old.subsystem.device.failures < 2 ^ 64 - 1) where
  module _ (m slba count first : ℕ) where
    read-well : (later : Layers) (answer : List ℕ) → later.subsystem.device.failures ≡ old.subsystem.device.failures
        → LooksAtBlocks true n m slba count first old answer later
        → (answer
        ≡ with_feed (read_text n m slba count (blocks_from old.subsystem.device.content first (512 * count)) (Ok tt)))
        × (later ≡ old)
    read-well later answer same h = by h.result h.reads h.says
      where
        by : (r : Result (Unit {0}) MediumFault) → Reads true first old.subsystem h.bytes r later.subsystem
            → answer ≡ with_feed (read_text n m slba count h.bytes r)
            → (answer ≡ with_feed
            (read_text n m slba count (blocks_from old.subsystem.device.content first (512 * count)) (Ok tt)))
            × (later ≡ old)
        by (Ok done) reads says = (
          says ∙ ap (λ bs. with_feed (read_text n m slba count bs (Ok tt)))
              (reads.read refl ∙ ap (blocks_from old.subsystem.device.content first) h.whole),
          same-layers true first old later h.bytes done refl reads h.drivers,
        )
        by (Err fault) reads says = absurd (not-risen (2 ^ 64 - 1) old.subsystem.device.failures
            later.subsystem.device.failures same below ((reads.count.failed refl).risen))

  blocks-alike : (m slba count : ℕ) (o : Option ℕ) → ShowsBlocks o true n m slba count old a new
      → ShowsBlocks o true n m slba count old b other → Alike a b new other
  blocks-alike m slba count None h k = alike a b _ new other old h k
  blocks-alike m slba count (Some first) h k =
      alike a b _ new other old (read-well m slba count first new a x h) (read-well m slba count first other b y k)

  shows-alike : (looking : Looking) → Shows true n looking old a new → Shows true n looking old b other
      → Alike a b new other
  shows-alike look.Help h k = alike a b _ new other old h k
  shows-alike (look.HelpOn form) h k = alike a b _ new other old h k
  shows-alike look.Namespaces h k = alike a b _ new other old h k
  shows-alike look.Attached h k = alike a b _ new other old h k
  shows-alike (look.Reservation m) h k = alike a b _ new other old h k
  shows-alike (look.Driver i) h k = alike a b _ new other old h k
  shows-alike (look.Window i address len) h k = alike a b _ new other old h k
  shows-alike (look.Register i offset) h k = alike a b _ new other old h k
  shows-alike (look.Registers i) h k = alike a b _ new other old h k
  shows-alike (look.Queues i) h k = alike a b _ new other old h k
  shows-alike (look.Fetched i) h k = alike a b _ new other old h k
  shows-alike (look.Blocks m slba count) h k = blocks-alike m slba count (block_of m slba count old) h k

  answered-alike : HaveTicketsOnce old → (q : Asked) → AnswersLine true n q old a new → AnswersLine true n q old b other
      → Alike a b new other
  answered-alike once (Fails why) h k = alike a b _ new other old h k
  answered-alike once Nothing h k = alike a b _ new other old h k
  answered-alike once (Looks looking) h k = shows-alike looking h k
  answered-alike once (Parses says) h k = alike a b _ new other old h k
  answered-alike once (Sets says) h k = alike a b _ new other old h k
  answered-alike once (Does event) h k =
      let same = layers_run_is_unique old new other (event ∷ []) (h.reply ∷ []) (k.reply ∷ []) once (new, h.step, refl)
      (other, k.step, refl) x y below in
      (k.says ∙ ap (line_of event) (same-head k.reply h.reply same.0) ∙ sym h.says, same.1)
    where
      same-head : (r s : Reply) → r ∷ [] ≡ s ∷ [] → r ≡ s
      same-head r s e = cc

starts-alike : (o : Option ConfigFault) (size : Capacity) (d : Device) (n : ℕ) (c : SetUp) (a b : List ℕ)
    (new other : Standing) → Starts o size d n c a new → Starts o size d n c b other → Alike a b new other
starts-alike None size d n c a b new other h k = alike a b _ new other _ h k
starts-alike (Some fault) size d n c a b new other h k = alike a b _ new other _ h k

sets-alike : (size : Capacity) (d : Device) (n : ℕ) (c : SetUp) (line : Line) (a b : List ℕ) (new other : Standing)
    → SetsBy size d n c line a new → SetsBy size d n c line b other → Alike a b new other
sets-alike size d n c Start a b new other h k =
    starts-alike (config_fault c.configuration size) size d n c a b new other h k
sets-alike size d n c Blank a b new other h k = alike a b _ new other _ h k
sets-alike size d n c (Controller i) a b new other h k = alike a b _ new other _ h k
sets-alike size d n c (Namespace i) a b new other h k = alike a b _ new other _ h k
sets-alike size d n c (Attached i m) a b new other h k = alike a b _ new other _ h k
sets-alike size d n c (Event event) a b new other h k = alike a b _ new other _ h k

turns-alike : (size : Capacity) (d : Device) (n : ℕ) (old new other : Standing) (q : Asked) (a b : List ℕ)
    → HasTicketsOnce old → Turn true size d n old q a new → Turn true size d n old q b other
    → failures_at d new ≡ failures_at d old → failures_at d other ≡ failures_at d old → failures_at d old < 2 ^ 64 - 1
    → Alike a b new other
turns-alike size d n (Setting c) new other (Fails why) a b once h k x y below = alike a b _ new other _ h k
turns-alike size d n (Setting c) new other Nothing a b once h k x y below = alike a b _ new other _ h k
turns-alike size d n (Setting c) new other (Looks looking) a b once h k x y below = alike a b _ new other _ h k
turns-alike size d n (Setting c) new other (Parses says) a b once h k x y below = alike a b _ new other _ h k
turns-alike size d n (Setting c) new other (Sets says) a b once h k x y below =
    sets-alike size d n c says a b new other h k
turns-alike size d n (Setting c) new other (Does event) a b once h k x y below = alike a b _ new other _ h k
turns-alike size d n (Running old) new other q a b once (later, h, is) (latter, k, also) x y below =
    let same = answered-alike n old later latter a b (sym (ap (failures_at d) is) ∙ x)
    (sym (ap (failures_at d) also) ∙ y) below once q h k in
    (same.0, also ∙ ap Running same.1 ∙ sym is)
turns-alike size d n (Over i fault) new other q a b once h k x y below = absurd h

-- Tickets stay unique.
shows-same : (n : ℕ) (old new : Layers) (answer : List ℕ)
    → new.subsystem.device.failures ≡ old.subsystem.device.failures → old.subsystem.device.failures < 2 ^ 64 - 1
    → (looking : Looking) → Shows true n looking old answer new → new ≡ old
shows-same n old new answer x below look.Help h = h.1
shows-same n old new answer x below (look.HelpOn form) h = h.1
shows-same n old new answer x below look.Namespaces h = h.1
shows-same n old new answer x below look.Attached h = h.1
shows-same n old new answer x below (look.Reservation m) h = h.1
shows-same n old new answer x below (look.Driver i) h = h.1
shows-same n old new answer x below (look.Window i address len) h = h.1
shows-same n old new answer x below (look.Register i offset) h = h.1
shows-same n old new answer x below (look.Registers i) h = h.1
shows-same n old new answer x below (look.Queues i) h = h.1
shows-same n old new answer x below (look.Fetched i) h = h.1
shows-same n old new answer x below (look.Blocks m slba count) h = by (block_of m slba count old) h
  where
    by : (o : Option ℕ) → ShowsBlocks o true n m slba count old answer new → new ≡ old
    by None k = k.1
    by (Some first) k = (read-well n old new new answer answer x x below m slba count first new answer x k).1

answered-once : (n : ℕ) (q : Asked) (old new : Layers) (answer : List ℕ) → AnswersLine true n q old answer new
    → new.subsystem.device.failures ≡ old.subsystem.device.failures → old.subsystem.device.failures < 2 ^ 64 - 1
    → HaveTicketsOnce old → HaveTicketsOnce new
answered-once n (Fails why) old new answer h x below once = subst HaveTicketsOnce (sym h.1) once
answered-once n Nothing old new answer h x below once = subst HaveTicketsOnce (sym h.1) once
answered-once n (Looks looking) old new answer h x below once =
    subst HaveTicketsOnce (sym (shows-same n old new answer x below looking h)) once
answered-once n (Parses says) old new answer h x below once = subst HaveTicketsOnce (sym h.1) once
answered-once n (Sets says) old new answer h x below once = subst HaveTicketsOnce (sym h.1) once
answered-once n (Does event) old new answer h x below once =
    tickets_stay_once true old new (event ∷ []) (h.reply ∷ []) (new, h.step, refl) once

starts-once : (o : Option ConfigFault) (size : Capacity) (d : Device) (n : ℕ) (c : SetUp) (answer : List ℕ)
    (new : Standing) → Starts o size d n c answer new → HasTicketsOnce new
starts-once None size d n c answer new h = subst HasTicketsOnce (sym h.1) (opening_has_tickets_once c.configuration d)
starts-once (Some fault) size d n c answer new h = subst HasTicketsOnce (sym h.1) tt

set-once : (c : SetUp) (new : Standing) → new ≡ Setting c → HasTicketsOnce new
set-once c new e = subst HasTicketsOnce (sym e) tt

sets-once : (size : Capacity) (d : Device) (n : ℕ) (c : SetUp) (line : Line) (answer : List ℕ) (new : Standing)
    → SetsBy size d n c line answer new → HasTicketsOnce new
sets-once size d n c Start answer new h = starts-once (config_fault c.configuration size) size d n c answer new h
sets-once size d n c Blank answer new h = set-once _ new h.1
sets-once size d n c (Controller i) answer new h = set-once _ new h.1
sets-once size d n c (Namespace i) answer new h = set-once _ new h.1
sets-once size d n c (Attached i m) answer new h = set-once _ new h.1
sets-once size d n c (Event event) answer new h = set-once _ new h.1

turn-once : (size : Capacity) (d : Device) (n : ℕ) (old new : Standing) (q : Asked) (answer : List ℕ)
    → HasTicketsOnce old → Turn true size d n old q answer new → failures_at d new ≡ failures_at d old
    → failures_at d old < 2 ^ 64 - 1 → HasTicketsOnce new
turn-once size d n (Setting c) new (Fails why) answer once h x below = set-once c new h.1
turn-once size d n (Setting c) new Nothing answer once h x below = set-once c new h.1
turn-once size d n (Setting c) new (Looks looking) answer once h x below = set-once c new h.1
turn-once size d n (Setting c) new (Parses says) answer once h x below = set-once c new h.1
turn-once size d n (Setting c) new (Sets says) answer once h x below = sets-once size d n c says answer new h
turn-once size d n (Setting c) new (Does event) answer once h x below = set-once c new h.1
turn-once size d n (Running old) new q answer once (later, h, is) x below =
    subst HasTicketsOnce (sym is) (answered-once n q old later answer h (sym (ap (failures_at d) is) ∙ x) below once)
turn-once size d n (Over i fault) new q answer once h x below = absurd h

between : (a b c : ℕ) → a ≤ b → b ≤ c → c ≡ a → b ≡ a
between a b c x y e = omega (arith, x, y, e)

pub session_is_unique : SessionIsUnique
session_is_unique size d n old new other [] [] [] once h k x y below = (refl, k ∙ sym h)
session_is_unique size d n old new other [] [] (b ∷ others) once h k x y below = absurd k
session_is_unique size d n old new other [] (a ∷ answers) others once h k x y below = absurd h
session_is_unique size d n old new other (line ∷ lines) [] others once h k x y below = absurd h
session_is_unique size d n old new other (line ∷ lines) (a ∷ answers) [] once h k x y below = absurd k
session_is_unique size d n old new other (line ∷ lines) (a ∷ answers) (b ∷ others) once (mid, turn, rest)
    (another, return, remains) x y below =
    let one = turn-rises true size d n old mid (asked line) a turn in
    let two = turn-rises true size d n old another (asked line) b return in
    let more = session-rises true size d (n + 1) mid new lines answers rest in
    let again = session-rises true size d (n + 1) another other lines others remains in
    let calm = between _ _ _ one more x in
    let same =
    turns-alike size d n old mid another (asked line) a b once turn return calm (between _ _ _ two again y) below in
    let later = session_is_unique size d (n + 1) mid new other lines answers others
    (turn-once size d n old mid (asked line) a once turn calm below) rest
    (subst (λ (s : Standing). Session true size d (n + 1) s lines others other) same.1 remains) (x ∙ sym calm)
    (y ∙ sym calm) (subst (λ i. i < 2 ^ 64 - 1) (sym calm) below) in
    (λ i. same.0 i ∷ later.0 i, later.1)

-- Known input.
still-known : (lines : List (List ℕ)) (text : List ℕ) (v : Option (List ℕ))
    → TakesLines (Some text) lines v → IsAtEnd v → v ≡ Some []
still-known [] text v h end = at-end v text h end
  where
    at-end : (v : Option (List ℕ)) (text : List ℕ) → v ≡ Some text → IsAtEnd v → v ≡ Some []
    at-end None text e end = absurd (cc)
    at-end (Some rest) text e end = ap Some end
still-known (line ∷ lines) text v (None, taken, rest) end = absurd (lost taken.taken)
  where
    lost : Consumes (Some text) None (line ++ 10 ∷ [])
        ⊎ ((line ≢ []) × Consumes (Some text) None line × IfSome (Some text) (λ _. IsAtEnd None)) → ⊥
    lost (inl h) = h
    lost (inr h) = h.1
still-known (line ∷ lines) text v (Some mid, taken, rest) end = still-known lines mid v rest end

written : (before bytes : List ℕ) (after : Option (List ℕ)) → Appends (Some before) after bytes
    → after ≡ Some (before ++ bytes)
written before bytes None h = absurd h
written before bytes (Some after) h = ap Some h

pub end_is_unique : EndIsUnique
end_is_unique size d n old new other text before left right after another once h k x y below =
    let taken = known-lines h.conversed.lines (Some text) h.end h.conversed.taken in
    let other-taken = known-lines k.conversed.lines (Some text) k.end k.conversed.taken in
    let mine : h.conversed.lines ≡ session_lines text = lines_are_known text h.conversed.lines (subst
    (TakesLines (Some text) h.conversed.lines) (still-known h.conversed.lines text h.end taken h.ended.0) taken) in
    let theirs : k.conversed.lines ≡ session_lines text =
    lines_are_known text k.conversed.lines (subst (TakesLines (Some text) k.conversed.lines)
    (still-known k.conversed.lines text k.end other-taken k.ended.0) other-taken) in
    let same = session_is_unique size d n old new other h.conversed.lines h.conversed.answers k.conversed.answers once
    h.conversed.went
    (subst (λ ls. Session true size d n old ls k.conversed.answers other) (theirs ∙ sym mine) k.conversed.went)
    x y below in (
      same.1,
      written before (concat k.conversed.answers) another
          (known-answers k.conversed.answers (Some before) another k.conversed.sent)
          ∙ ap (λ rs. Some (before ++ concat rs)) same.0
          ∙ sym (written before (concat h.conversed.answers) after
          (known-answers h.conversed.answers (Some before) after h.conversed.sent)),
    )

-- There is an answer.
settles-somehow : (tells : Bool) (size : Capacity) (d : Device) (n : ℕ) (c : SetUp) (q : Asked) → asks_start q ≡ false
    → (later : SetUp) × (answer : List ℕ) × Turn tells size d n (Setting c) q answer (Setting later)
settles-somehow tells size d n c (Fails why) none = (c, with_feed (refusal n why), (refl, refl))
settles-somehow tells size d n c Nothing none = (c, with_feed (codes "ok"), (refl, refl))
settles-somehow tells size d n c (Looks looking) none = (c, with_feed (early_text n looking), (refl, refl))
settles-somehow tells size d n c (Parses says) none = (c, with_feed (reading_text says), (refl, refl))
settles-somehow tells size d n c (Does event) none = (c, with_feed (refusal n BehindStart), (refl, refl))
settles-somehow tells size d n c (Sets Blank) none = (with_line n c Blank, with_feed (codes "ok"), (refl, refl))
settles-somehow tells size d n c (Sets (Controller k)) none =
    (with_line n c (Controller k), with_feed (codes "ok"), (refl, refl))
settles-somehow tells size d n c (Sets (Namespace k)) none =
    (with_line n c (Namespace k), with_feed (codes "ok"), (refl, refl))
settles-somehow tells size d n c (Sets (Attached k m)) none =
    (with_line n c (Attached k m), with_feed (codes "ok"), (refl, refl))
settles-somehow tells size d n c (Sets (Event event)) none =
    (with_line n c (Event event), with_feed (codes "ok"), (refl, refl))
settles-somehow tells size d n c (Sets Start) none = absurd (false≢true (sym none))

pub lines_before_start_are_answered : LinesBeforeStartAreAnswered
lines_before_start_are_answered tells size d n c [] none = (c, ([], refl))
lines_before_start_are_answered tells size d n c (line ∷ lines) none =
    let each = or-false (asks_start (asked line)) (list_any (λ l. asks_start (asked l)) lines) none in
    let (mid, answer, turn) = settles-somehow tells size d n c (asked line) each.0 in
    let (later, (answers, rest)) = lines_before_start_are_answered tells size d (n + 1) mid lines each.1 in
    (later, (answer ∷ answers, (Setting mid, turn, rest)))

pub start_is_answered : StartIsAnswered
start_is_answered tells size d n c line asks = by (asked line) refl asks
  where
    starts : (o : Option ConfigFault) → (new : Standing) × (answer : List ℕ) × Starts o size d n c answer new
    starts None = (Running (opening_layers c.configuration d), with_feed started_text, (refl, refl))
    starts (Some fault) = (Over n fault, with_feed (refused_text n fault (numbered_reason c size)), (refl, refl))

    by : (q : Asked) → asked line ≡ q → asks_start q ≡ true
        → (new : Standing) × IsAnswered tells size d n (Setting c) (line ∷ []) new
    by (Fails why) e so = absurd (false≢true so)
    by Nothing e so = absurd (false≢true so)
    by (Looks looking) e so = absurd (false≢true so)
    by (Parses says) e so = absurd (false≢true so)
    by (Does event) e so = absurd (false≢true so)
    by (Sets Blank) e so = absurd (false≢true so)
    by (Sets (Controller k)) e so = absurd (false≢true so)
    by (Sets (Namespace k)) e so = absurd (false≢true so)
    by (Sets (Attached k m)) e so = absurd (false≢true so)
    by (Sets (Event event)) e so = absurd (false≢true so)
    by (Sets Start) e so =
        let (new, answer, h) = starts (config_fault c.configuration size) in
        (new, (answer ∷ [], (new, subst (λ (q : Asked). Turn tells size d n (Setting c) q answer new) (sym e) h, refl)))

shows-somehow : (tells : Bool) (n : ℕ) (looking : Looking) (l : Layers) → is_block_look (Looks looking) ≡ false
    → (answer : List ℕ) × Shows tells n looking l answer l
shows-somehow tells n look.Help l none = (with_feed (shown_text n look.Help l), (refl, refl))
shows-somehow tells n (look.HelpOn form) l none = (with_feed (shown_text n (look.HelpOn form) l), (refl, refl))
shows-somehow tells n look.Namespaces l none = (with_feed (shown_text n look.Namespaces l), (refl, refl))
shows-somehow tells n look.Attached l none = (with_feed (shown_text n look.Attached l), (refl, refl))
shows-somehow tells n (look.Reservation m) l none = (with_feed (shown_text n (look.Reservation m) l), (refl, refl))
shows-somehow tells n (look.Driver k) l none = (with_feed (shown_text n (look.Driver k) l), (refl, refl))
shows-somehow tells n (look.Window k address len) l none =
    (with_feed (shown_text n (look.Window k address len) l), (refl, refl))
shows-somehow tells n (look.Register k offset) l none =
    (with_feed (shown_text n (look.Register k offset) l), (refl, refl))
shows-somehow tells n (look.Registers k) l none = (with_feed (shown_text n (look.Registers k) l), (refl, refl))
shows-somehow tells n (look.Queues k) l none = (with_feed (shown_text n (look.Queues k) l), (refl, refl))
shows-somehow tells n (look.Fetched k) l none = (with_feed (shown_text n (look.Fetched k) l), (refl, refl))
shows-somehow tells n (look.Blocks m slba count) l none = absurd (false≢true (sym none))

module _ (tells : Bool) (size : Capacity) (d : Device) (n : ℕ) (old last : Layers) (line : List ℕ)
    (lines : List (List ℕ)) where
  silently : (later : IsAnswered tells size d (n + 1) (Running old) lines (Running last)) (q : Asked)
      → asked line ≡ q → (answer : List ℕ) → AnswersLine tells n q old answer old
      → IsAnswered tells size d n (Running old) (line ∷ lines) (Running last)
  silently (answers, rest) q e answer h = (
    answer ∷ answers,
    (Running old, (old, subst (λ (r : Asked). AnswersLine tells n r old answer old) (sym e) h, refl), rest),
  )

-- a line before others, by its kind
module _ (tells : Bool) (size : Capacity) (d : Device) (n : ℕ) (last : Layers) (line : List ℕ) (lines : List (List ℕ))
    (later : (old : Layers) (replies : List Reply) → Run tells old (events_asked lines) replies last
    → IsAnswered tells size d (n + 1) (Running old) lines (Running last)) where
  asked-somehow : (old : Layers) (q : Asked) → asked line ≡ q → (replies : List Reply)
      → is_block_look q ≡ false → Run tells old (with_asked q (events_asked lines)) replies last
      → IsAnswered tells size d n (Running old) (line ∷ lines) (Running last)
  asked-somehow old (Fails why) e replies plain ran = silently tells size d n old last line lines
      (later old replies ran) (Fails why) e (with_feed (refusal n why)) (refl, refl)
  asked-somehow old Nothing e replies plain ran =
      silently tells size d n old last line lines (later old replies ran) Nothing e
      (with_feed (codes "ok")) (refl, refl)
  asked-somehow old (Looks looking) e replies plain ran =
      let shows = shows-somehow tells n looking old plain in
      silently tells size d n old last line lines (later old replies ran) (Looks looking) e shows.0 shows.1
  asked-somehow old (Parses says) e replies plain ran = silently tells size d n old last line lines
      (later old replies ran) (Parses says) e (with_feed (reading_text says)) (refl, refl)
  asked-somehow old (Sets says) e replies plain ran = silently tells size d n old last line lines
      (later old replies ran) (Sets says) e (with_feed (refusal n BeforeStart)) (refl, refl)
  asked-somehow old (Does event) e [] plain ran = absurd ran
  asked-somehow old (Does event) e (reply ∷ replies) plain (mid, step, rest) =
      let more = later mid replies rest in (
        line_of event reply ∷ more.0,
        (
          Running mid,
          (
            mid,
            subst (λ (q : Asked). AnswersLine tells n q old (line_of event reply) mid) (sym e)
                (record { reply = reply; step = step; says = refl }),
            refl,
          ),
          more.1,
        ),
      )

pub lines_of_a_run_are_answered : LinesOfARunAreAnswered
lines_of_a_run_are_answered tells size d n old last [] [] none ran = ([], ap Running ran)
lines_of_a_run_are_answered tells size d n old last [] (reply ∷ replies) none ran = absurd ran
lines_of_a_run_are_answered tells size d n old last (line ∷ lines) replies none ran =
    let each = or-false (is_block_look (asked line)) (list_any (λ l. is_block_look (asked l)) lines) none in
    asked-somehow tells size d n last line lines
    (λ mid later run. lines_of_a_run_are_answered tells size d (n + 1) mid last lines later each.1 run) old
    (asked line) refl replies each.0 ran
