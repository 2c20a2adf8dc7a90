-- Statements of laws: each session has answers, and they are unique except for faults of the medium.
use Rattle.std.specs.Prelude.{◌≡◌, ◌<◌, ◌-◌, ◌^◌, ℕ, Bool, true, false, List, [], ◌∷◌, ◌++◌, Option, Some}
use Rattle.std.specs.List.{All, concat, list_any}
use Rattle.nvme_spec.specs.Blocks.{Device}
use Rattle.nvme_spec.specs.Configuration.{Capacity}
use Rattle.nvme_spec.specs.MediumCalls.{MediumCall}
use Rattle.nvme_subsys.specs.OverMedium.{OverMedium}
use Rattle.nvme_live.specs.SetUps.{SetUp}
use Rattle.nvme_event.specs.declared.event.FleetEvent.{FleetEvent}
use Rattle.nvme_event.specs.Replies.{Reply}
use Rattle.nvme_fleet.specs.FleetStates.{Layers}
use Rattle.nvme_fleet.specs.Layers.{Run}
use Rattle.nvme_fleet.specs.Unique.{HaveTicketsOnce}
use Rattle.nvme_grammar.specs.Script.{is_start}
use Rattle.live_text.specs.declared.asking.Asked.{Asked}
use Rattle.live_text.specs.declared.asking.Asked.TheVariants.{Fails, Nothing, Looks, Parses, Sets, Does}
use Rattle.nvme_live.specs.AnswerCalls.{TurnOver}
use Rattle.live_text.specs.Asking.{asked}
use Rattle.nvme_live.specs.Conversations.{Ends, EndsBy, alone}
use Rattle.nvme_live.specs.Keeping.{is_block_look}
use Rattle.nvme_live.specs.Lives.{device_in}
use Rattle.nvme_live.specs.SessionScripts.{text_of}
use Rattle.nvme_live.specs.Standings.{LineByLine, Over, Running, Session, Setting, Standing, TurnOf}
use Rattle.script_text.specs.Writing.{Sending}
use Rattle.nvme_live.specs.Streams.{AddsKnown, LineCall, ReadsBy, SendsBy, TakesKnown}
use Rattle.nvme_live.specs.Taking.{IsOfLine}
use Rattle.nvme_program.specs.declared.fault.ScriptFault.{ScriptFault}
use Rattle.script_text.specs.Streams.{WriteCall}

-- A session over a medium, by exactly its calls, is one of its states alone, with the same answers.
abbrev pub SessionsStandAlone : {M : Type 0} → (M → MediumCall → M → Type 0) → Bool → Type 0
SessionsStandAlone {M} step tells =
    (size : Capacity) (d : Device) (n : ℕ) (old new : OverMedium Standing M) (lines answers : List (List ℕ))
    → LineByLine (TurnOver step tells size d) n old lines answers new
    → Session tells size d n old.state lines answers new.state

abbrev pub EndsStandAlone : {M R W : Type 0} → (M → MediumCall → M → Type 0) → Bool → (R → LineCall → R → Type 0)
    → (W → Sending → W → Type 0) → Type 0
EndsStandAlone {M} {R} {W} step tells Reads Sends =
    (size : Capacity) (d : Device) (n : ℕ) (old new : OverMedium Standing M) (unread left : R) (before after : W)
    → Ends (TurnOver step tells size d) Reads Sends n old new unread left before after
    → Ends (TurnOf tells size d) Reads Sends n old.state new.state unread left before after

-- A session over streams, by their calls, line by line, is one of their known bytes: with the same lines and answers,
-- and the same end.
abbrev pub EndsInBytes : {R W : Type 0} → (R → LineCall → R → Type 0) → (R → Option (List ℕ))
    → (W → WriteCall → W → Type 0) → (W → Bool → W → Type 0) → (W → Option (List ℕ)) → Type 0
EndsInBytes {R} {W} read remaining write flush contents =
    (tells : Bool) (size : Capacity) (d : Device) (n : ℕ) (old new : Standing) (unread left : R) (before after : W)
    → Ends (TurnOf tells size d) (ReadsBy read remaining) (SendsBy write flush contents) n old new unread left
    before after
    → Ends (TurnOf tells size d) TakesKnown AddsKnown n old new (remaining unread) (remaining left)
    (contents before) (contents after)

abbrev pub FailuresInBytes : {R W : Type 0} → (R → LineCall → R → Type 0) → (R → Option (List ℕ))
    → (W → WriteCall → W → Type 0) → (W → Bool → W → Type 0) → (W → Option (List ℕ)) → Type 0
FailuresInBytes {R} {W} read remaining write flush contents =
    (fault : ScriptFault) (tells : Bool) (size : Capacity) (d : Device) (n : ℕ) (old new : Standing) (unread left : R)
    (before after : W)
    → EndsBy fault (TurnOf tells size d) (ReadsBy read remaining) (SendsBy write flush contents) alone n old new
    unread left before after
    → EndsBy fault (TurnOf tells size d) TakesKnown AddsKnown alone n old new (remaining unread) (remaining left)
    (contents before) (contents after)

-- the number of failed calls of the medium, in this state of a session
abbrev pub failures_at : Device → Standing → ℕ
failures_at d standing = (device_in d standing).failures

-- a ticket is in at most one slot of a driver, as it is from each opening on
abbrev pub HasTicketsOnce : Standing → Type 0
HasTicketsOnce (Setting s) = Unit {0}
HasTicketsOnce (Running l) = HaveTicketsOnce l
HasTicketsOnce (Over k fault) = Unit {0}

-- Over a medium that reveals its content, without faults, lines have one list of answers, and one end.
abbrev pub SessionIsUnique : Type 0
SessionIsUnique =
    (size : Capacity) (d : Device) (n : ℕ) (old new other : Standing) (lines answers others : List (List ℕ))
    → HasTicketsOnce old → Session true size d n old lines answers new
    → Session true size d n old lines others other
    → failures_at d new ≡ failures_at d old → failures_at d other ≡ failures_at d old
    → failures_at d old < 2 ^ 64 - 1 → (others ≡ answers) × (other ≡ new)

-- So known bytes of input, read to their end, have one end, and one list of written bytes.
abbrev pub EndIsUnique : Type 0
EndIsUnique =
    (size : Capacity) (d : Device) (n : ℕ) (old new other : Standing) (text before : List ℕ)
    (left right after another : Option (List ℕ)) → HasTicketsOnce old
    → Ends (TurnOf true size d) TakesKnown AddsKnown n old new (Some text) left (Some before) after
    → Ends (TurnOf true size d) TakesKnown AddsKnown n old other (Some text) right (Some before) another
    → failures_at d new ≡ failures_at d old → failures_at d other ≡ failures_at d old
    → failures_at d old < 2 ^ 64 - 1 → (other ≡ new) × (another ≡ after)

-- Lines that are answered are a session over known bytes: read whole, each with its line feed, and to the end; and its
-- answers are what is written.
abbrev pub AnsweredLinesAreASession : Type 0
AnsweredLinesAreASession =
    (tells : Bool) (size : Capacity) (d : Device) (n : ℕ) (old new : Standing) (lines answers : List (List ℕ))
    (before : List ℕ) → All IsOfLine lines → Session tells size d n old lines answers new
    → Ends (TurnOf tells size d) TakesKnown AddsKnown n old new (Some (text_of lines)) (Some []) (Some before)
    (Some (before ++ concat answers))

-- lines have answers, from one state to another
abbrev pub IsAnswered : Bool → Capacity → Device → ℕ → Standing → List (List ℕ) → Standing → Type 0
IsAnswered tells size d n old lines new = (answers : List (List ℕ)) × Session tells size d n old lines answers new

abbrev pub asks_start : Asked → Bool
asks_start (Sets line) = is_start line
asks_start (Fails why) = false
asks_start Nothing = false
asks_start (Looks looking) = false
asks_start (Parses line) = false
asks_start (Does event) = false

-- Before `start` each list of lines has answers, and `start` has one, whatever the medium.
abbrev pub LinesBeforeStartAreAnswered : Type 0
LinesBeforeStartAreAnswered =
    (tells : Bool) (size : Capacity) (d : Device) (n : ℕ) (s : SetUp) (lines : List (List ℕ))
    → list_any (λ line. asks_start (asked line)) lines ≡ false
    → (later : SetUp) × IsAnswered tells size d n (Setting s) lines (Setting later)

abbrev pub StartIsAnswered : Type 0
StartIsAnswered =
    (tells : Bool) (size : Capacity) (d : Device) (n : ℕ) (s : SetUp) (line : List ℕ)
    → asks_start (asked line) ≡ true
    → (new : Standing) × IsAnswered tells size d n (Setting s) (line ∷ []) new

-- the events of lines
abbrev pub with_asked : Asked → List FleetEvent → List FleetEvent
with_asked (Does event) events = event ∷ events
with_asked (Fails why) events = events
with_asked Nothing events = events
with_asked (Looks looking) events = events
with_asked (Parses line) events = events
with_asked (Sets line) events = events

abbrev pub events_asked : List (List ℕ) → List FleetEvent
events_asked [] = []
events_asked (line ∷ lines) = with_asked (asked line) (events_asked lines)

-- After `start` each list of lines without a query of blocks is answered, for each run of their events.
abbrev pub LinesOfARunAreAnswered : Type 0
LinesOfARunAreAnswered =
    (tells : Bool) (size : Capacity) (d : Device) (n : ℕ) (old last : Layers) (lines : List (List ℕ))
    (replies : List Reply) → list_any (λ line. is_block_look (asked line)) lines ≡ false
    → Run tells old (events_asked lines) replies last
    → IsAnswered tells size d n (Running old) lines (Running last)
