-- Proof of the law `completions_stand`: a completion that was posted stays in its queue.
use Rattle.std.proofs.Common.{
  ◌≡◌,
  ◌≢◌,
  ◌⊎◌,
  inl,
  inr,
  ℕ,
  zero,
  suc,
  ◌+◌,
  ◌≤◌,
  ◌==◌,
  nat_lt,
  Bool,
  true,
  false,
  List,
  [],
  ◌∷◌,
  length,
  take,
  slice_range,
  Option,
  None,
  Some,
  Ok,
  Err,
  refl,
  sym,
  ap,
  subst,
  ◌∙◌,
  arith,
}
use Rattle.std.specs.Prelude.{if◌then◌else◌, slice_get, slice_set, slice_index_or, option_map, nat_le}
use Rattle.std.proofs.lemmas.Bool.{cases_Bool, leb-true, cases_lt, false≢true, eqb-false}
use Rattle.std.proofs.lemmas.Option.{none-some, same_Some}
use Rattle.nvme_wire.specs.Submission.{opcode}
use Rattle.nvme_wire.specs.declared.status.Status.{Status}
use Rattle.nvme_spec.specs.declared.command.AdminCommand.{AdminCommand}
use Rattle.nvme_spec.specs.declared.outcome.Outcome.{Outcome}
use Rattle.nvme_spec.specs.declared.queues.Queues.{Queues}
use Rattle.nvme_spec.specs.declared.queues.QueueChange.{QueueChange}
use Rattle.nvme_spec.specs.declared.queues.QueueChange.TheVariants.{Keep, MakeCq, MakeSq, DropCq, DropSq}
use Rattle.nvme_spec.specs.declared.registers.RegEffect.{RegEffect}
use Rattle.nvme_spec.specs.declared.registers.RegEffect.TheVariants.{Nothing, Enable, Disable, Shutdown, SqTail, CqHead}
use Rattle.nvme_spec.specs.declared.verdict.Verdict.{Verdict}
use Rattle.nvme_spec.specs.declared.verdict.Verdict.TheVariants.{Allowed, Denied}
use Rattle.nvme_spec.specs.Blocks.{Device}
use Rattle.nvme_spec.specs.Bytes.{with_bytes}
use Rattle.nvme_spec.specs.Memory.{window_size}
use Rattle.nvme_spec.specs.Queues.{CompletionTail, ahead, slot_of, after_post, after_head_doorbell}
use Rattle.nvme_spec.specs.Registers.{after_write}
use Rattle.nvme_spec.specs.Rules.{Judgement}
use Rattle.nvme_spec.specs.World.{World}
use Rattle.nvme_spec.specs.Commands as io
use Rattle.nvme_spec.specs.AdminCommands as admin
use Rattle.nvme_spec.specs.AdminRules.{admin_judgement}
use Rattle.nvme_spec.specs.AdminEffects.{admin_execution, execution_by, data_out}
use Rattle.nvme_spec.specs.DataRules.{data_addresses}
use Rattle.nvme_spec.specs.ExistingQueues.{has_completion_queue}
use Rattle.nvme_spec.specs.QueueChanges.{Suits}
use Rattle.nvme_spec.specs.IoData.{io_verdict}
use Rattle.nvme_spec.specs.Execution.{Scene, ExecutesBy}
use Rattle.nvme_spec.proofs.Passing.{has-passed}
use Rattle.nvme_machine.specs.declared.event.Event.{Event}
use Rattle.nvme_machine.specs.declared.event.Event.TheVariants.{Store, Write32, Fetch, Execute}
use Rattle.nvme_machine.specs.declared.fetched.FetchedCommand.{FetchedCommand}
use Rattle.nvme_machine.specs.declared.seen.Executed.TheVariants.{Posted}
use Rattle.nvme_machine.specs.declared.seen.Seen.TheVariants.{Stored, Outside, Executed}
use Rattle.nvme_machine.specs.Controllers.{
  Controller,
  SubmissionQueue,
  CompletionQueue,
  QueuePair,
  queues_of,
  completion_at,
  open_pair,
  with_head,
  with_marks,
  fetchable,
  fetched_from,
  reaction,
  taking_effect,
  after_store,
  after_write32,
  after_fetch,
  after_posting,
  after_queue_change,
  completion_slot,
  completion_of,
}
use Rattle.nvme_machine.specs.CommandExecutions.{CommandExecution, CommandComesTo, CommandComesToAs}
use Rattle.nvme_machine.specs.Subsystems.{
  Subsystem,
  controller_at,
  controller_of,
  scene_of,
  after_completion,
  after_execution,
  replaced,
}
use Rattle.nvme_machine.specs.Preempted.{change_of}
use Rattle.nvme_machine.specs.Windows.{HasItsWindow}
use Rattle.nvme_machine.specs.Posted.{
  IsUnread,
  PostedEntry,
  entry_address,
  StandsUnread,
  PostedIsUnread,
  Overlaps,
  is_touched,
  addresses_of,
  TakesByWrite,
  TakesEntry,
  UnreadStands,
  UnreadStandsOverRuns,
}
use Rattle.nvme_machine.proofs.Denials.{completion}
use Rattle.nvme_machine.proofs.Everywhere.{step-keeps}
use Rattle.nvme_machine.proofs.Others.{executed-at, at-marked, replaced-same, same_place, survives}
use Rattle.nvme_machine.proofs.Windows.{
  keeps_its_window,
  answer-window,
  change-suits,
  IsOpen,
  is-open,
  slot-inside,
  length-entry,
}
use Rattle.nvme_machine.proofs.Preempted.{change-is}
use Rattle.nvme_machine.proofs.Slots.{
  unread-next,
  posted-unread,
  untouched-take,
  scattered-apart,
  overlaps-or,
  stored-apart,
  stored-there,
}
use Rattle.nvme_machine.proofs.StepCases.{reaction_of}
use Rattle.nvme_machine.proofs.Wirings.{set-other, is-there, unused-at}

-- it is in the window of controller j
abbrev Stands : PostedEntry → Option Controller → Type 0
Stands e o = (d : Controller) × (o ≡ Some d) × StandsUnread e d

-- the same queues over a window with the same bytes there
over-window : (e : PostedEntry) (c d : Controller) → d.completion ≡ c.completion
    → slice_range d.window (entry_address e) (entry_address e + 16)
    ≡ slice_range c.window (entry_address e) (entry_address e + 16) → StandsUnread e c → StandsUnread e d
over-window e c d queues bytes u = record {
  found_in = u.found_in;
  at = ap (λ xs. slice_index_or xs e.queue None) queues ∙ u.at;
  base = u.base;
  unread = u.unread;
  stands = bytes ∙ u.stands;
}

-- an entry is in the window
inside-window : (e : PostedEntry) (c : Controller) → HasItsWindow c → StandsUnread e c
    → entry_address e + 16 ≤ length c.window
inside-window e c p u =
    let x = u.found_in in
    let lies = p.completion e.queue x u.at in
    let place = lies.0 in
    let unread = u.unread in
    omega (arith, place.inside, unread.inside, u.base, p.window)

-- Stores, fetches and marks.

store-it : (address : ℕ) (bytes : List ℕ) (c : Controller) (e : PostedEntry) → HasItsWindow c → StandsUnread e c
    → StandsUnread e (after_store address bytes c).controller ⊎ Overlaps address (length bytes) e
unfolding after_store
store-it address bytes c e p u = elim (overlaps-or address (length bytes) e) [
  | inl over ↦ inr over
  | inr apart ↦ inl (by apart (nat_le (address + length bytes) window_size) refl)
]
  where
    by : (entry_address e + 16 ≤ address) ⊎ (address + length bytes ≤ entry_address e) → (b : Bool)
        → nat_le (address + length bytes) window_size ≡ b
        → StandsUnread e (if b then reaction (record c { window = with_bytes c.window address bytes }) Stored
        else reaction c Outside).controller
    by apart true is =
        let fits = leb-true _ _ is in
        over-window e c (record c { window = with_bytes c.window address bytes }) refl
        (stored-apart c.window address bytes e (omega (arith, fits, p.window)) apart) u
    by apart false is = u

fetch-it : (q : ℕ) (c : Controller) (o : Option SubmissionQueue) (e : PostedEntry)
    → StandsUnread e c → StandsUnread e (fetched_from q c o).controller
fetch-it q c None e u = u
fetch-it q c (Some s) e u = over-window e c (fetched_from q c (Some s)).controller refl refl u

fetches : (q : ℕ) (c : Controller) (e : PostedEntry) → StandsUnread e c → StandsUnread e (after_fetch q c).controller
unfolding after_fetch
fetches q c e u = fetch-it q c (fetchable c q) e u

marked-too : (e : PostedEntry) (n : ℕ) (c : Controller) → StandsUnread e c → StandsUnread e (with_marks n c)
marked-too e n c u = over-window e c (with_marks n c) refl refl u

-- Register writes.

mapped-same : {A : Type 0} (f : A → A) (xs : List (Option A)) (q : ℕ) (x : A) → slice_index_or xs q None ≡ Some x
    → slice_index_or (slice_set xs q (option_map f (slice_index_or xs q None))) q None ≡ Some (f x)
mapped-same f [] q x h = absurd (none-some _ h)
mapped-same f (o ∷ xs) zero x h = ap (option_map f) h
mapped-same f (o ∷ xs) (suc q) x h = mapped-same f xs q x h

-- a head doorbell leaves a slot unread, or shows that it is consumed
head-rings : (v slot : ℕ) (q : CompletionTail)
    → IsUnread q slot → IsUnread (after_head_doorbell q v) slot ⊎ (IsUnread (after_head_doorbell q v) slot → ⊥)
head-rings v slot q u = by (nat_lt v q.size)
  where
    by : (b : Bool) → IsUnread (if b then record q { unread = ahead q.size (slot_of q.size q.posted) v } else q) slot
        ⊎ (IsUnread (if b then record q { unread = ahead q.size (slot_of q.size q.posted) v } else q) slot → ⊥)
    by true = elim (cases_lt (ahead q.size (slot_of q.size q.posted) v) (ahead q.size (slot_of q.size q.posted) slot)) [
      | inl past ↦ inr (λ still. omega (arith, past, still.unread))
      | inr within ↦ inl (record { inside = u.inside; posted = u.posted; unread = omega (arith, within) })
    ]
    by false = inl u

effect-it : (effect : RegEffect) (c : Controller) (e : PostedEntry)
    → StandsUnread e c → StandsUnread e (taking_effect effect c) ⊎ TakesByWrite c e effect
unfolding taking_effect
effect-it Nothing c e u = inl u
effect-it Enable c e u = inr tt
effect-it Disable c e u = inr tt
effect-it Shutdown c e u = inl u
effect-it (SqTail q v) c e u = inl (over-window e c (taking_effect (SqTail q v) c) refl refl u)
effect-it (CqHead q v) c e u = elim (same_place q e.queue) [
  | inl same ↦ elim (head-rings v e.slot u.found_in.tail u.unread) [
    | inl still ↦ inl (record {
      found_in = with_head v u.found_in;
      at = ap
          (λ n. slice_index_or (slice_set c.completion n (option_map (with_head v) (completion_at c n))) e.queue None)
          same ∙ mapped-same (with_head v) c.completion e.queue u.found_in u.at;
      base = u.base;
      unread = still;
      stands = u.stands;
    })
    | inr gone ↦ inr (same, record { found_in = u.found_in; at = u.at; consumed = gone })
  ]
  | inr other ↦ inl (record {
    found_in = u.found_in;
    at = set-other c.completion q e.queue (option_map (with_head v) (completion_at c q))
        (λ same. other (sym same)) ∙ u.at;
    base = u.base;
    unread = u.unread;
    stands = u.stands;
  })
]

write-it : (offset v : ℕ) (c : Controller) (e : PostedEntry) → StandsUnread e c
    → StandsUnread e (after_write32 offset v c) ⊎ TakesByWrite c e (after_write c.registers offset v).effect
unfolding after_write32
write-it offset v c e u = elim (effect-it (after_write c.registers offset v).effect (record c {
  registers = (after_write c.registers offset v).registers;
}) e (over-window e c (record c { registers = (after_write c.registers offset v).registers }) refl refl u)) [
  | inl still ↦ inl still
  | inr taken ↦ inr (by (after_write c.registers offset v).effect taken)
]
  where
    by : (effect : RegEffect)
        → TakesByWrite (record c { registers = (after_write c.registers offset v).registers }) e effect
        → TakesByWrite c e effect
    by Nothing t = t
    by Enable t = tt
    by Disable t = tt
    by Shutdown t = t
    by (SqTail q w) t = t
    by (CqHead q w) t = (t.0, record { found_in = t.1.found_in; at = t.1.at; consumed = t.1.consumed })

-- Executions: the data.

admin-apart : (w : World) (k : ℕ) (e window : List ℕ) (j : Judgement) (o : Option AdminCommand) (x : PostedEntry)
    → is_touched (data_addresses (admin.data_length_of o e) window e) x ≡ false
    → entry_address x + 16 ≤ length window
    → slice_range (execution_by j o w k e window).window (entry_address x) (entry_address x + 16)
    ≡ slice_range window (entry_address x) (entry_address x + 16)
admin-apart w k e window (Err d) o x clear fits = refl
admin-apart w k e window (Ok u) None x clear fits = refl
admin-apart w k e window (Ok u) (Some command) x clear fits =
    scattered-apart window (data_addresses (admin.data_length command e) window e) (data_out w k command e) x clear fits

io-apart : (v : Verdict) (tells : Bool) (k : ℕ) (t : FetchedCommand) (s left : Scene) (o : Outcome) (x : PostedEntry)
    → io_verdict s.world k t.entry t.marked s.window ≡ v → ExecutesBy v tells k t.entry s left o
    → is_touched (data_addresses (io.data_length_of (io.command_of (opcode t.entry)) t.entry) s.window t.entry) x
    ≡ false → entry_address x + 16 ≤ length s.window
    → slice_range left.window (entry_address x) (entry_address x + 16)
    ≡ slice_range s.window (entry_address x) (entry_address x + 16)
io-apart (Denied number why) tells k t s left o x is h clear fits =
    ap (λ (y : Scene). slice_range y.window (entry_address x) (entry_address x + 16)) h.0
io-apart (Allowed plan) tells k t s left o x is h clear fits =
    let p = has-passed s.world k t.entry t.marked s.window plan is in
    let own : is_touched (data_addresses (io.data_length plan.kind t.entry) s.window t.entry) x ≡ false =
    ap (λ c. is_touched (data_addresses (io.data_length_of c t.entry) s.window t.entry) x) (sym p.named) ∙ clear in
    let places : List ℕ =
    take (length h.returned) (data_addresses (io.data_length plan.kind t.entry) s.window t.entry) in
    ap (λ w. slice_range w (entry_address x) (entry_address x + 16)) h.window
    ∙ scattered-apart s.window places h.returned x
    (untouched-take (data_addresses (io.data_length plan.kind t.entry) s.window t.entry) (length h.returned) x own) fits

data-apart : (tells : Bool)
    (w : World) (d : Device) (k : ℕ) (c : Controller) (t : FetchedCommand) (a : CommandExecution) (x : PostedEntry)
    → CommandComesTo tells (queues_of c) k t (record { world = w; window = c.window; device = d }) a
    → is_touched (addresses_of c t) x ≡ false → entry_address x + 16 ≤ length c.window
    → slice_range a.left.window (entry_address x) (entry_address x + 16)
    ≡ slice_range c.window (entry_address x) (entry_address x + 16)
unfolding CommandComesTo admin_execution
data-apart tells w d k c t a x h clear fits = by (t.queue == 0) h clear
  where
    by : (b : Bool) → CommandComesToAs b tells (queues_of c) k t (record { world = w; window = c.window; device = d }) a
        → is_touched
        (if b then data_addresses (admin.data_length_of (admin.command_of (opcode t.entry)) t.entry) c.window t.entry
        else data_addresses (io.data_length_of (io.command_of (opcode t.entry)) t.entry) c.window t.entry) x ≡ false
        → slice_range a.left.window (entry_address x) (entry_address x + 16)
        ≡ slice_range c.window (entry_address x) (entry_address x + 16)
    by true g free =
        ap (λ (y : CommandExecution). slice_range y.left.window (entry_address x) (entry_address x + 16)) g
        ∙ admin-apart w k t.entry c.window (admin_judgement w (queues_of c) k t.entry c.window)
        (admin.command_of (opcode t.entry)) x free fits
    by false g free =
        io-apart (io_verdict w k t.entry t.marked c.window) tells k t
        (record { world = w; window = c.window; device = d }) a.left a.outcome x refl g.1 free fits

-- The completion.

set-there : {A : Type 0} (xs : List (Option A)) (q : ℕ) (x y : A) → slice_index_or xs q None ≡ Some x
    → slice_index_or (slice_set xs q (Some y)) q None ≡ Some y
set-there [] q x y h = absurd (none-some _ h)
set-there (o ∷ xs) zero x y h = refl
set-there (o ∷ xs) (suc q) x y h = set-there xs q x y h

-- what does not touch a completion
abbrev Beside : CompletionQueue → PostedEntry → Type 0
Beside x e = (entry_address e + 16 ≤ completion_slot x) ⊎ (completion_slot x + 16 ≤ entry_address e)

written-beside : (c : Controller) (t : FetchedCommand) (p : QueuePair) (why : Status) (first : ℕ) (e : PostedEntry)
    → HasItsWindow c → IsOpen c t p → Beside p.completion e
    → slice_range (with_bytes c.window (completion_slot p.completion) (completion_of t p why first)) (entry_address e)
    (entry_address e + 16) ≡ slice_range c.window (entry_address e) (entry_address e + 16)
written-beside c t p why first e placed opened beside =
    let inside = slot-inside p.completion (placed.completion p.submission.cqid p.completion opened.completion) in
    let long = length-entry t p why first in
    stored-apart c.window (completion_slot p.completion) (completion_of t p why first) e
    (omega (arith, inside, long, placed.window)) (elim beside [
      | inl before ↦ inl (omega (arith, before))
      | inr behind ↦ inr (omega (arith, behind, long))
    ])

-- in its own queue
posts-here : (i : ℕ) (t : FetchedCommand) (p : QueuePair) (why : Status) (first : ℕ) (c : Controller) (e : PostedEntry)
    → HasItsWindow c → IsOpen c t p → StandsUnread e c → p.submission.cqid ≡ e.queue
    → StandsUnread e (after_posting i t p why first c)
unfolding after_posting
posts-here i t p why first c e placed opened u same =
    let x : CompletionQueue = p.completion in
    let here : x ≡ u.found_in = same_Some _ _ (sym opened.completion ∙ ap (λ n. completion_at c n) same ∙ u.at) in
    let lies = placed.completion p.submission.cqid x opened.completion in
    let unread : IsUnread x.tail e.slot = subst (λ (y : CompletionQueue). IsUnread y.tail e.slot) (sym here) u.unread in
    let base : x.base ≡ e.base = ap (λ (y : CompletionQueue). y.base) here ∙ u.base in
    let next = unread-next x.tail e.slot lies.1 opened.room unread in
    record {
      found_in = record x { tail = after_post x.tail };
      at = ap (λ n.
          slice_index_or (slice_set c.completion n (Some (record x { tail = after_post x.tail }))) e.queue None) same
          ∙ set-there c.completion e.queue u.found_in (record x { tail = after_post x.tail }) u.at;
      base = base;
      unread = next.0;
      stands =
          written-beside c t p why first e placed opened (elim (cases_lt (slot_of x.tail.size x.tail.posted) e.slot) [
            | inl before ↦ inr (omega (arith, before, base))
            | inr behind ↦ inl (omega (arith, behind, base, next.1))
          ]) ∙ u.stands;
    }

-- in another
posts-there : (i : ℕ) (t : FetchedCommand) (p : QueuePair) (why : Status) (first : ℕ) (c : Controller) (e : PostedEntry)
    → HasItsWindow c → IsOpen c t p → StandsUnread e c → p.submission.cqid ≢ e.queue
    → Beside p.completion e → StandsUnread e (after_posting i t p why first c)
unfolding after_posting
posts-there i t p why first c e placed opened u other beside = record {
  found_in = u.found_in;
  at = set-other c.completion p.submission.cqid e.queue
      (Some (record p.completion { tail = after_post p.completion.tail })) (λ same. other (sym same)) ∙ u.at;
  base = u.base;
  unread = u.unread;
  stands = written-beside c t p why first e placed opened beside ∙ u.stands;
}

posts : (i : ℕ) (t : FetchedCommand) (p : QueuePair) (why : Status) (first : ℕ) (c : Controller) (e : PostedEntry)
    → HasItsWindow c → IsOpen c t p → StandsUnread e c
    → StandsUnread e (after_posting i t p why first c)
    ⊎ ((p.submission.cqid ≢ e.queue) × Overlaps (completion_slot p.completion) 16 e)
posts i t p why first c e placed opened u = elim (same_place p.submission.cqid e.queue) [
  | inl same ↦ inl (posts-here i t p why first c e placed opened u same)
  | inr other ↦ elim (overlaps-or (completion_slot p.completion) 16 e) [
    | inl over ↦ inr (other, over)
    | inr apart ↦ inl (posts-there i t p why first c e placed opened u other apart)
  ]
]

-- The change of the queues.

changes : (change : QueueChange) (queues : Queues) (c : Controller) (e : PostedEntry)
    → Suits queues change → has_completion_queue queues e.queue ≡ true → StandsUnread e c
    → StandsUnread e (after_queue_change change c) ⊎ (change ≡ DropCq e.queue)
unfolding after_queue_change
changes Keep queues c e suits there u = inl u
changes (MakeSq qid size at to) queues c e suits there u =
    inl (over-window e c (after_queue_change (MakeSq qid size at to) c) refl refl u)
changes (DropSq qid) queues c e suits there u = inl (over-window e c (after_queue_change (DropSq qid) c) refl refl u)
changes (MakeCq qid size at) queues c e suits there u =
    let other : e.queue ≢ qid =
    λ same. false≢true (sym suits.2 ∙ ap (has_completion_queue queues) (sym same) ∙ there) in
    inl (record {
      found_in = u.found_in;
      at = set-other c.completion qid e.queue _ other ∙ u.at;
      base = u.base;
      unread = u.unread;
      stands = u.stands;
    })
changes (DropCq qid) queues c e suits there u = elim (same_place qid e.queue) [
  | inl same ↦ inr (ap DropCq same)
  | inr other ↦ inl (record {
    found_in = u.found_in;
    at = set-other c.completion qid e.queue None (λ same. other (sym same)) ∙ u.at;
    base = u.base;
    unread = u.unread;
    stands = u.stands;
  })
]

-- the whole execution
open-over : (c : Controller) (window : List ℕ) (t : FetchedCommand) (p : QueuePair)
    → IsOpen c t p → IsOpen (record c { window = window }) t p
open-over c window t p o = record { submission = o.submission; completion = o.completion; room = o.room }

has-window-over : (c : Controller) (window : List ℕ) → length window ≡ length c.window → HasItsWindow c
    → HasItsWindow (record c { window = window })
has-window-over c window size p =
    record { window = size ∙ p.window; registers = p.registers; submission = p.submission; completion = p.completion }

abbrev Takes : Subsystem → ℕ → Controller → FetchedCommand → QueuePair → PostedEntry → Type 0
Takes s k c t p e = (is_touched (addresses_of c t) e ≡ true)
    ⊎ ((p.submission.cqid ≢ e.queue) × Overlaps (completion_slot p.completion) 16 e)
    ⊎ (change_of s k c t ≡ DropCq e.queue)

finishes : (tells : Bool) (s : Subsystem) (k i : ℕ) (c : Controller) (t : FetchedCommand) (p : QueuePair)
    (a : CommandExecution) (e : PostedEntry) → open_pair c t ≡ Some p
    → CommandComesTo tells (queues_of c) k t (scene_of s c) a → HasItsWindow c → StandsUnread e c
    → StandsUnread e (after_completion i t p a c) ⊎ Takes s k c t p e
unfolding after_completion
finishes tells s k i c t p a e room answers placed u = elim (cases_Bool (is_touched (addresses_of c t) e)) [
  | inl touched ↦ inr (inl touched)
  | inr clear ↦ (
      let size = answer-window tells (queues_of c) k t (scene_of s c) a answers in
      let d : Controller = record c { window = a.left.window } in
      let opened = open-over c a.left.window t p (is-open c t p room) in
      let bytes = data-apart tells s.world s.device k c t a e answers clear (inside-window e c placed u) in
      let here : StandsUnread e d = over-window e c d refl bytes u in
      elim (posts i t p a.outcome.status a.outcome.dw0 d e (has-window-over c a.left.window size placed) opened here) [
        | inl posted ↦
            elim (changes a.change (queues_of c) (after_posting i t p a.outcome.status a.outcome.dw0 d) e (change-suits
            tells s.world s.device k c t a answers) (is-there c.completion e.queue u.found_in u.at) posted) [
              | inl stands ↦ inl stands
              | inr drops ↦ inr (inr (inr (sym (change-is tells s k c t a answers) ∙ drops)))
            ]
        | inr over ↦ inr (inr (inl over))
      ])
]

-- Steps.

at-new : (old new : Subsystem) (k : ℕ) (c : Controller) (i : ℕ) (t : FetchedCommand) (p : QueuePair)
    (a : CommandExecution) (e : PostedEntry) → new ≡ after_execution old k c i t p a → controller_at old k ≡ Some c
    → StandsUnread e (after_completion i t p a c) → Stands e (controller_at new k)
unfolding controller_at
at-new old new k c i t p a e leaves at u =
    let end : Controller = after_completion i t p a c in
    let m = at-marked (StandsUnread e) (marked-too e) a.left.world a.outcome.marks (replaced old.controllers k end) k
    (end, replaced-same old.controllers k c end at, u) in
    (m.0, executed-at old new k c i t p a k leaves ∙ m.1, m.2)

reacted : (s : Subsystem) (event : Event) (j : ℕ) (c : Controller) (e : PostedEntry) → HasItsWindow c
    → StandsUnread e c → controller_of event ≡ j
    → StandsUnread e (reaction_of event c).controller ⊎ TakesEntry s j c e event
reacted s (Store k address bytes) j c e placed u same = elim (store-it address bytes.now c e placed u) [
  | inl stands ↦ inl stands
  | inr over ↦ inr (same, over)
]
reacted s (Write32 k offset v) j c e placed u same = elim (write-it offset v c e u) [
  | inl stands ↦ inl stands
  | inr taken ↦ inr (same, taken)
]
reacted s (Fetch k q) j c e placed u same = inl (fetches q c e u)
reacted s event j c e placed u same = inl u

executed : (tells : Bool) (s : Subsystem) (event : Event) (k i j : ℕ) (c : Controller) (t : FetchedCommand)
    (p : QueuePair) (a : CommandExecution) (e : PostedEntry) → event ≡ Execute k i → k ≡ j
    → slice_get c.fetched i ≡ Some t → open_pair c t ≡ Some p
    → CommandComesTo tells (queues_of c) k t (scene_of s c) a → HasItsWindow c → StandsUnread e c
    → StandsUnread e (after_completion i t p a c) ⊎ TakesEntry s j c e event
executed tells s event k i j c t p a e is same found room answers placed u =
    elim (finishes tells s k i c t p a e room answers placed u) [
      | inl stands ↦ inl stands
      | inr takes ↦ inr (subst (TakesEntry s j c e) (sym is)
          (same, record { command = t; pair = p; found = found; room = room; takes = takes }))
    ]

pub unread_stands : UnreadStands
unread_stands tells old new event seen step placed j c e at u =
    survives (StandsUnread e) (TakesEntry old j c e event) tells old new event seen step j c at (record {
      marks = marked-too e;
      stays = u;
      reacts = reacted old event j c e (placed j c at) u;
      finishes = λ k i t p a is same found room answers.
          executed tells old event k i j c t p a e is same found room answers (placed j c at) u;
      cycles = λ is. inr (subst (TakesEntry old j c e) (sym is) tt);
    })

pub unread_stands_over_runs : UnreadStandsOverRuns
unread_stands_over_runs tells old new [] [] j e run placed c at u = (c, ap (λ s. controller_at s j) run ∙ at, u)
unread_stands_over_runs tells old new [] (x ∷ later) j e run placed c at u = absurd run
unread_stands_over_runs tells old new (event ∷ events) [] j e run placed c at u = absurd run
unread_stands_over_runs tells old new (event ∷ events) (x ∷ later) j e run placed c at u =
    let mid : Subsystem = run.0 in
    elim (unread_stands tells old mid event x run.1 placed j c e at u) [
      | inl s ↦ unread_stands_over_runs tells mid new events later j e run.3
          (step-keeps HasItsWindow keeps_its_window tells old mid event x run.1 placed) s.0 s.1 s.2
      | inr taken ↦ absurd (run.2 c at taken)
    ]

-- The posted entry.

used : (c : Controller) (t : FetchedCommand) (p : QueuePair) (a : CommandExecution)
    → IsOpen c t p → Suits (queues_of c) a.change → a.change ≡ DropCq p.submission.cqid → ⊥
used c t p a opened suits drops =
    let s : Suits (queues_of c) (DropCq p.submission.cqid) = subst (Suits (queues_of c)) drops suits in
    eqb-false p.submission.cqid p.submission.cqid
    (unused-at p.submission.cqid c.submission t.queue p.submission s.2 opened.submission) refl

new-entry : (i : ℕ) (t : FetchedCommand) (p : QueuePair) (why : Status) (first : ℕ) (c : Controller)
    → HasItsWindow c → IsOpen c t p
    → StandsUnread (record {
      queue = p.submission.cqid;
      base = p.completion.base;
      slot = slot_of p.completion.tail.size p.completion.tail.posted;
      bytes = completion_of t p why first;
    }) (after_posting i t p why first c)
unfolding after_posting
new-entry i t p why first c placed opened =
    let x : CompletionQueue = p.completion in
    let lies = placed.completion p.submission.cqid x opened.completion in
    let inside = slot-inside x lies in
    record {
      found_in = record x { tail = after_post x.tail };
      at = set-there c.completion p.submission.cqid x (record x { tail = after_post x.tail }) opened.completion;
      base = refl;
      unread = posted-unread x.tail lies.1;
      stands = stored-there c.window (completion_slot x) (completion_of t p why first) (length-entry t p why first)
          (omega (arith, inside, placed.window));
    }

pub posted_is_unread : PostedIsUnread
unfolding after_completion
posted_is_unread tells old new k i c t p outcome step waits placed =
    let done = completion tells old new k i c t p (Executed (Posted outcome)) step waits in
    let a : CommandExecution = done.execution in
    let gives : Executed (Posted outcome) ≡ Executed (Posted a.outcome) = done.gives in
    let same : a.outcome ≡ outcome = cc in
    let whole = placed k c waits.at in
    let size = answer-window tells (queues_of c) k t (scene_of old c) a done.comes_to in
    let d : Controller = record c { window = a.left.window } in
    let own = is-open c t p waits.room in
    let opened = open-over c a.left.window t p own in
    let entry = new-entry i t p a.outcome.status a.outcome.dw0 d (has-window-over c a.left.window size whole) opened in
    let e : PostedEntry = record {
      queue = p.submission.cqid;
      base = p.completion.base;
      slot = slot_of p.completion.tail.size p.completion.tail.posted;
      bytes = completion_of t p a.outcome.status a.outcome.dw0;
    } in
    subst (λ (o : Outcome). Stands (record {
      queue = p.submission.cqid;
      base = p.completion.base;
      slot = slot_of p.completion.tail.size p.completion.tail.posted;
      bytes = completion_of t p o.status o.dw0;
    }) (controller_at new k)) same
    (elim (changes a.change (queues_of c) (after_posting i t p a.outcome.status a.outcome.dw0 d) e
    (change-suits tells old.world old.device k c t a done.comes_to)
    (is-there c.completion p.submission.cqid p.completion own.completion) entry) [
      | inl stands ↦ at-new old new k c i t p a e done.leaves waits.at stands
      | inr drops ↦ absurd (used c t p a own (change-suits tells old.world old.device k c t a done.comes_to) drops)
    ])
