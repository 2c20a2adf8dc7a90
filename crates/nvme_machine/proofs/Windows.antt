-- Proof of the law `windows_keep_their_bytes`, and for other crates: windows keep their length, and queues are inside.
use Rattle.std.proofs.Common.{
  ◌≡◌,
  inl,
  inr,
  ℕ,
  zero,
  suc,
  ◌+◌,
  ◌<◌,
  ◌≤◌,
  ◌==◌,
  nat_lt,
  Bool,
  true,
  false,
  List,
  [],
  ◌∷◌,
  length,
  map,
  Option,
  None,
  Some,
  Ok,
  Err,
  refl,
  sym,
  ap,
  subst,
  ◌∙◌,
  arith,
}
use Rattle.std.specs.Prelude.{if◌then◌else◌, slice_get, slice_index_or, option_map, nat_le, IfSome}
use Rattle.std.proofs.lemmas.List.{length-replicate}
use Rattle.std.proofs.lemmas.Bool.{leb-true, ltb-true}
use Rattle.std.proofs.lemmas.Option.{none-some, same_Some}
use Rattle.nvme_wire.specs.Completion.{completion_entry}
use Rattle.nvme_wire.specs.Submission.{opcode}
use Rattle.nvme_wire.specs.declared.status.Status.{Status}
use Rattle.nvme_spec.specs.declared.command.AdminCommand.{AdminCommand}
use Rattle.nvme_spec.specs.declared.config.ControllerConfig.{ControllerConfig}
use Rattle.nvme_spec.specs.declared.queues.Queues.{Queues}
use Rattle.nvme_spec.specs.declared.queues.QueueChange.{QueueChange}
use Rattle.nvme_spec.specs.declared.queues.QueueChange.TheVariants.{Keep, MakeCq, MakeSq, DropCq, DropSq}
use Rattle.nvme_spec.specs.declared.registers.RegEffect.{RegEffect}
use Rattle.nvme_spec.specs.declared.registers.RegEffect.TheVariants.{Nothing, Enable, Disable, Shutdown, SqTail, CqHead}
use Rattle.nvme_spec.specs.declared.registers.AdminQueues.{AdminQueues}
use Rattle.nvme_spec.specs.Blocks.{Device}
use Rattle.nvme_spec.specs.Bytes.{with_bytes}
use Rattle.nvme_spec.specs.Memory.{window_size, zeros}
use Rattle.nvme_spec.specs.World.{World}
use Rattle.nvme_spec.specs.Rules.{Judgement}
use Rattle.nvme_spec.specs.AdminCommands.{command_of}
use Rattle.nvme_spec.specs.AdminRules.{admin_judgement}
use Rattle.nvme_spec.specs.AdminEffects.{admin_execution, execution_by}
use Rattle.nvme_spec.specs.Execution.{Scene}
use Rattle.nvme_spec.specs.Queues.{
  SubmissionHead,
  FitsSubmissionHead,
  empty_submission_head,
  after_fetch as fetched_one,
  CompletionTail,
  IsQueueSize,
  FitsCompletionTail,
  completion_room,
  empty_completion_tail,
  after_post,
  slot_of,
  ahead,
}
use Rattle.nvme_spec.specs.QueueChanges.{Suits}
use Rattle.nvme_spec.specs.RegisterLaws.{IsQueuePlace, IsConsistent, ArePlaced}
use Rattle.nvme_spec.specs.Registers as register
use Rattle.nvme_spec.proofs.Fencing.{execution_keeps_the_rest}
use Rattle.nvme_spec.proofs.QueueChanges.{admin_changes_suit}
use Rattle.nvme_spec.proofs.QueueLaws.{submission_head_stays, completion_tail_stays, entry_is_inside}
use Rattle.nvme_spec.proofs.RegisterLaws.{begins_consistent, stays_consistent}
use Rattle.nvme_spec.proofs.Splices.{length-with_bytes}
use Rattle.nvme_spec.proofs.TransferLaws.{length-with_scattered}
use Rattle.nvme_machine.specs.declared.fetched.FetchedCommand.{FetchedCommand}
use Rattle.nvme_machine.specs.declared.seen.Seen.TheVariants.{Stored, Outside}
use Rattle.nvme_machine.specs.Controllers.{
  Controller,
  SubmissionQueue,
  CompletionQueue,
  QueuePair,
  new_controller,
  no_submission_queues,
  no_completion_queues,
  queues_of,
  completion_at,
  submission_at,
  pair_of,
  if_room,
  open_pair,
  with_tail,
  with_head,
  with_admin_queues,
  admin_submission_queue,
  admin_completion_queue,
  taking_effect,
  fetchable,
  fetched_from,
  reaction,
  after_store,
  after_write32,
  after_fetch,
  after_posting,
  after_queue_change,
  completion_slot,
  completion_of,
  with_marks,
}
use Rattle.nvme_machine.specs.CommandExecutions.{CommandExecution, CommandComesTo, CommandComesToAs}
use Rattle.nvme_machine.specs.Subsystems.{opening, controller_at, after_completion}
use Rattle.nvme_machine.specs.Windows.{
  SubmitsInside,
  LiesInside,
  HasItsWindow,
  OpeningHasItsWindows,
  WindowsKeepTheirLength,
}
use Rattle.nvme_machine.proofs.Everywhere.{Keeps, run-keeps}
use Rattle.nvme_machine.proofs.Staying.{changing}
use Rattle.nvme_machine.proofs.Wirings.{set-either, mapped-back, first-alone, none-alone, fetchable-at}

-- the same queues
same-queues : (c d : Controller) → length d.window ≡ window_size → d.registers ≡ c.registers
    → d.submission ≡ c.submission → d.completion ≡ c.completion → HasItsWindow c → HasItsWindow d
same-queues c d window registers submission completion p = record {
  window = window;
  registers = subst IsConsistent (sym registers) p.registers;
  submission = λ q x is. p.submission q x (ap (λ xs. slice_index_or xs q None) (sym submission) ∙ is);
  completion = λ q x is. p.completion q x (ap (λ xs. slice_index_or xs q None) (sym completion) ∙ is);
}

-- the same completion queues, if the submission queues are inside too
same-completion : (c d : Controller) → d.window ≡ c.window → d.registers ≡ c.registers → d.completion ≡ c.completion
    → ((q : ℕ) → (x : SubmissionQueue) → submission_at d q ≡ Some x → SubmitsInside x) → HasItsWindow c → HasItsWindow d
same-completion c d window registers completion submission p = record {
  window = ap length window ∙ p.window;
  registers = subst IsConsistent (sym registers) p.registers;
  submission = submission;
  completion = λ q x is. p.completion q x (ap (λ xs. slice_index_or xs q None) (sym completion) ∙ is);
}

stored : (address : ℕ) (bytes : List ℕ) (c : Controller)
    → HasItsWindow c → HasItsWindow (after_store address bytes c).controller
unfolding after_store
stored address bytes c p = by (nat_le (address + length bytes) window_size) refl
  where
    by : (b : Bool) → nat_le (address + length bytes) window_size ≡ b
        → HasItsWindow (if b then reaction (record c { window = with_bytes c.window address bytes }) Stored
        else reaction c Outside).controller
    by true e =
        let fits = leb-true _ _ e in
        let size = p.window in
        same-queues c (record c { window = with_bytes c.window address bytes })
        (length-with_bytes c.window address bytes (omega (arith, fits, size)) ∙ size) refl refl refl p
    by false e = p

fetched-inside : (s : SubmissionQueue) → SubmitsInside s → SubmitsInside (record s { head = fetched_one s.head })
fetched-inside s p = (p.0, submission_head_stays.1 s.head p.1)

took : (q : ℕ) (c : Controller) (o : Option SubmissionQueue) → fetchable c q ≡ o → HasItsWindow c
    → HasItsWindow (fetched_from q c o).controller
took q c None is p = p
took q c (Some s) is p =
    same-completion c (fetched_from q c (Some s)).controller refl refl refl
    (λ m x h. elim (set-either c.submission q m (Some (record s { head = fetched_one s.head })) x h) [
      | inl new ↦ subst SubmitsInside (same_Some _ _ new) (fetched-inside s (p.submission q s (fetchable-at c q s is)))
      | inr old ↦ p.submission m x old
    ]) p

-- Register writes.

none-completes : (q : ℕ) (x : CompletionQueue) → slice_index_or no_completion_queues q None ≡ Some x → ⊥
none-completes zero x h = none-some _ h
none-completes (suc zero) x h = none-some _ h
none-completes (suc (suc zero)) x h = none-some _ h
none-completes (suc (suc (suc zero))) x h = none-some _ h
none-completes (suc (suc (suc (suc zero)))) x h = none-some _ h
none-completes (suc (suc (suc (suc (suc q))))) x h = none-some _ h

none-submits : (q : ℕ) (s : SubmissionQueue) → slice_index_or no_submission_queues q None ≡ Some s → ⊥
none-submits q s h = none-alone q s h

empty-head-fits : (size : ℕ) → IsQueueSize size → FitsSubmissionHead (empty_submission_head size)
empty-head-fits size fits = record { size = fits; fetched = omega (arith, fits.0); waiting = omega (arith, fits.0) }

placed-submission : (at size to : ℕ)
    → IsQueuePlace at size 64 → SubmitsInside (record { base = at; cqid = to; head = empty_submission_head size })
placed-submission at size to p = (p, empty-head-fits size p.size)

empty-fits : (size : ℕ) → IsQueueSize size → FitsCompletionTail (empty_completion_tail size)
empty-fits size fits = record { size = fits; posted = omega (arith, fits.0); unread = omega (arith, fits.0) }

placed-queue : (at size : ℕ)
    → IsQueuePlace at size 16 → LiesInside (record { base = at; tail = empty_completion_tail size })
placed-queue at size p = (p, empty-fits size p.size)

enabled : (o : Option AdminQueues) (c : Controller) → length c.window ≡ window_size → IsConsistent c.registers
    → IfSome o ArePlaced → HasItsWindow (with_admin_queues o c)
enabled None c window registers p = record {
  window = window;
  registers = registers;
  submission = λ q x h. absurd (none-submits q x h);
  completion = λ q x h. absurd (none-completes q x h);
}
enabled (Some a) c window registers p = record {
  window = window;
  registers = registers;
  submission = λ q x h. subst SubmitsInside (first-alone (admin_submission_queue a) q x h)
      (placed-submission a.sq_base a.sq_size 0 p.submission);
  completion = λ q x h.
      subst LiesInside (first-alone (admin_completion_queue a) q x h) (placed-queue a.cq_base a.cq_size p.completion);
}

size-if : (b : Bool) (q : CompletionTail) (n : ℕ) → (if b then record q { unread = n } else q).size ≡ q.size
size-if true q n = refl
size-if false q n = refl

heard : (v : ℕ) (x : CompletionQueue) → LiesInside x → LiesInside (with_head v x)
heard v x p = (
  subst (λ n. IsQueuePlace x.base n 16)
      (sym (size-if (nat_lt v x.tail.size) x.tail (ahead x.tail.size (slot_of x.tail.size x.tail.posted) v))) p.0,
  completion_tail_stays.0 x.tail v p.1,
)

head-size-if : (b : Bool) (q : SubmissionHead) (n : ℕ) → (if b then record q { waiting = n } else q).size ≡ q.size
head-size-if true q n = refl
head-size-if false q n = refl

told : (v : ℕ) (s : SubmissionQueue) → SubmitsInside s → SubmitsInside (with_tail v s)
told v s p = (
  subst (λ n. IsQueuePlace s.base n 64)
      (sym (head-size-if (nat_lt v s.head.size) s.head (ahead s.head.size v s.head.fetched))) p.0,
  submission_head_stays.0 s.head v p.1,
)

effects : (effect : RegEffect) (c : Controller) → HasItsWindow c → HasItsWindow (taking_effect effect c)
unfolding taking_effect
effects Nothing c p = p
effects Shutdown c p = p
effects Disable c p = record {
  window = p.window;
  registers = p.registers;
  submission = λ q x h. absurd (none-submits q x h);
  completion = λ q x h. absurd (none-completes q x h);
}
effects Enable c p = let r = p.registers in enabled (register.admin_queues c.registers) c p.window r r.queues
effects (SqTail q v) c p = same-completion c (taking_effect (SqTail q v) c) refl refl refl
    (λ m x h. (let z = mapped-back (with_tail v) c.submission q m x h in elim z.2 [
      | inl same ↦ subst SubmitsInside (sym same) (p.submission m z.0 z.1)
      | inr rung ↦ subst SubmitsInside (sym rung) (told v z.0 (p.submission m z.0 z.1))
    ])) p
effects (CqHead q v) c p = record {
  window = p.window;
  registers = p.registers;
  submission = p.submission;
  completion = λ m x h. (let z = mapped-back (with_head v) c.completion q m x h in elim z.2 [
    | inl same ↦ subst LiesInside (sym same) (p.completion m z.0 z.1)
    | inr rung ↦ subst LiesInside (sym rung) (heard v z.0 (p.completion m z.0 z.1))
  ]);
}

wrote-it : (offset v : ℕ) (c : Controller) → HasItsWindow c → HasItsWindow (after_write32 offset v c)
unfolding after_write32
wrote-it offset v c p =
    effects (register.after_write c.registers offset v).effect
    (record c { registers = (register.after_write c.registers offset v).registers })
    (record {
      window = p.window;
      registers = stays_consistent c.registers offset v p.registers;
      submission = p.submission;
      completion = p.completion;
    })

fetched-it : (q : ℕ) (c : Controller) → HasItsWindow c → HasItsWindow (after_fetch q c).controller
unfolding after_fetch
fetched-it q c p = took q c (fetchable c q) refl p

-- Executions.

-- an answer keeps the window's length
admin-window : (w : World) (k : ℕ) (e window : List ℕ) (j : Judgement) (o : Option AdminCommand)
    → length (execution_by j o w k e window).window ≡ length window
admin-window w k e window (Err d) o = refl
admin-window w k e window (Ok u) None = refl
admin-window w k e window (Ok u) (Some command) = length-with_scattered window _ _

pub answer-window : (tells : Bool) (queues : Queues) (k : ℕ) (t : FetchedCommand) (s : Scene) (a : CommandExecution)
    → CommandComesTo tells queues k t s a → length a.left.window ≡ length s.window
unfolding CommandComesTo admin_execution
answer-window tells queues k t s a h = by (t.queue == 0) h
  where
    by : (b : Bool) → CommandComesToAs b tells queues k t s a → length a.left.window ≡ length s.window
    by true g = ap (λ (x : CommandExecution). length x.left.window) g ∙ admin-window s.world k t.entry s.window
        (admin_judgement s.world queues k t.entry s.window) (command_of (opcode t.entry))
    by false g = let r = execution_keeps_the_rest tells k t.entry t.marked s a.left a.outcome g.1 in r.window

-- what is known of a change of the queues
pub change-suits :
    (tells : Bool) (w : World) (d : Device) (k : ℕ) (c : Controller) (t : FetchedCommand) (a : CommandExecution)
    → CommandComesTo tells (queues_of c) k t (record { world = w; window = c.window; device = d }) a
    → Suits (queues_of c) a.change
change-suits tells w d k c t a h =
    elim (changing tells (record { world = w; window = c.window; device = d }) (queues_of c) k t a h) [
      | inl keeps ↦ subst (Suits (queues_of c)) (sym keeps) tt
      | inr admin ↦ subst (Suits (queues_of c)) (sym admin.1) (admin_changes_suit w (queues_of c) k t.entry c.window)
    ]

-- the queues of a command are its controller's, and the completion queue has room
pub record IsOpen (c : Controller) (t : FetchedCommand) (p : QueuePair) : Type 0 where
  pub submission : submission_at c t.queue ≡ Some p.submission
  pub completion : completion_at c p.submission.cqid ≡ Some p.completion
  pub room : 0 < completion_room p.completion.tail

room-of : (o : Option QueuePair) (p : QueuePair)
    → if_room o ≡ Some p → (o ≡ Some p) × (0 < completion_room p.completion.tail)
room-of None p h = absurd (none-some _ h)
room-of (Some x) p h = by (nat_lt 0 (completion_room x.completion.tail)) refl h
  where
    by : (b : Bool) → nat_lt 0 (completion_room x.completion.tail) ≡ b → (if b then Some x else None) ≡ Some p
        → (Some x ≡ Some p) × (0 < completion_room p.completion.tail)
    by true e g =
        (g, subst (λ (y : QueuePair). 0 < completion_room y.completion.tail) (same_Some _ _ g) (ltb-true _ _ e))
    by false e g = absurd (none-some _ g)

with-completion : (s : SubmissionQueue) (o : Option CompletionQueue) (p : QueuePair)
    → option_map (λ (x : CompletionQueue). record { submission = s; completion = x }) o ≡ Some p
    → (p.submission ≡ s) × (o ≡ Some p.completion)
with-completion s None p h = absurd (none-some _ h)
with-completion s (Some x) p h =
    let same = same_Some _ _ h in
    (sym (ap (λ (y : QueuePair). y.submission) same), ap (λ (y : QueuePair). Some y.completion) same)

pair-parts : (c : Controller) (o : Option SubmissionQueue) (p : QueuePair)
    → pair_of c o ≡ Some p → (o ≡ Some p.submission) × (completion_at c p.submission.cqid ≡ Some p.completion)
pair-parts c None p h = absurd (none-some _ h)
pair-parts c (Some s) p h =
    let r = with-completion s (completion_at c s.cqid) p h in
    (ap Some (sym r.0), ap (λ (x : SubmissionQueue). completion_at c x.cqid) r.0 ∙ r.1)

pub is-open : (c : Controller) (t : FetchedCommand) (p : QueuePair) → open_pair c t ≡ Some p → IsOpen c t p
unfolding open_pair
is-open c t p h =
    let r = room-of (pair_of c (submission_at c t.queue)) p h in
    let parts = pair-parts c (submission_at c t.queue) p r.0 in
    record { submission = parts.0; completion = parts.1; room = r.1 }

-- a completion has 16 bytes
pub length-entry : (t : FetchedCommand) (p : QueuePair) (why : Status) (first : ℕ)
    → length (completion_of t p why first) ≡ 16
unfolding completion_entry
length-entry t p why first = refl

-- a completion is in the window
pub slot-inside : (x : CompletionQueue) → LiesInside x → completion_slot x + 16 ≤ window_size
slot-inside x p =
    let place = p.0 in
    let size = place.size in
    let entry = entry_is_inside x.base 16 x.tail.size x.tail.posted (omega (arith, size.0)) in
    let inside = place.inside in
    omega (arith, entry, inside)

posted-queue : (x : CompletionQueue) → LiesInside x → 0 < completion_room x.tail
    → LiesInside (record x { tail = after_post x.tail })
posted-queue x p room = (p.0, completion_tail_stays.1 x.tail p.1 room)

posts : (i : ℕ) (t : FetchedCommand) (p : QueuePair) (why : Status) (first : ℕ) (c : Controller)
    → IsOpen c t p → HasItsWindow c → HasItsWindow (after_posting i t p why first c)
unfolding after_posting
posts i t p why first c opened placed =
    let at = placed.completion p.submission.cqid p.completion opened.completion in
    record {
      window = (let size = placed.window in let inside = slot-inside p.completion at in
          length-with_bytes c.window (completion_slot p.completion) (completion_of t p why first)
          (omega (arith, size, inside, length-entry t p why first)) ∙ size);
      registers = placed.registers;
      submission = placed.submission;
      completion = λ q x h. elim (set-either c.completion p.submission.cqid q
          (Some (record p.completion { tail = after_post p.completion.tail })) x h) [
            | inl new ↦ subst LiesInside (same_Some _ _ new) (posted-queue p.completion at opened.room)
            | inr old ↦ placed.completion q x old
          ];
    }

changes : (change : QueueChange) (queues : Queues) (c : Controller) → Suits queues change → HasItsWindow c
    → HasItsWindow (after_queue_change change c)
unfolding after_queue_change
changes Keep queues c suits p = p
changes (MakeSq qid size at to) queues c suits p =
    same-completion c (after_queue_change (MakeSq qid size at to) c) refl refl refl (λ q x h. elim (set-either
    c.submission qid q (Some (record { base = at; cqid = to; head = empty_submission_head size })) x h) [
      | inl new ↦ subst SubmitsInside (same_Some _ _ new) (placed-submission at size to suits.1)
      | inr old ↦ p.submission q x old
    ]) p
changes (DropSq qid) queues c suits p =
    same-completion c (after_queue_change (DropSq qid) c) refl refl refl
    (λ q x h. elim (set-either c.submission qid q None x h) [
      | inl none ↦ absurd (none-some _ none)
      | inr old ↦ p.submission q x old
    ]) p
changes (MakeCq qid size at) queues c suits p = record {
  window = p.window;
  registers = p.registers;
  submission = p.submission;
  completion = λ q x h.
      elim (set-either c.completion qid q (Some (record { base = at; tail = empty_completion_tail size })) x h) [
        | inl new ↦ subst LiesInside (same_Some _ _ new) (placed-queue at size suits.1)
        | inr old ↦ p.completion q x old
      ];
}
changes (DropCq qid) queues c suits p = record {
  window = p.window;
  registers = p.registers;
  submission = p.submission;
  completion = λ q x h. elim (set-either c.completion qid q None x h) [
    | inl none ↦ absurd (none-some _ none)
    | inr old ↦ p.completion q x old
  ];
}

-- the same queues over another window of the same length
over-window : (c : Controller) (window : List ℕ) → length window ≡ length c.window → HasItsWindow c
    → HasItsWindow (record c { window = window })
over-window c window size p = same-queues c (record c { window = window }) (size ∙ p.window) refl refl refl p

open-over : (c : Controller) (window : List ℕ) (t : FetchedCommand) (p : QueuePair)
    → IsOpen c t p → IsOpen (record c { window = window }) t p
open-over c window t p o = record { submission = o.submission; completion = o.completion; room = o.room }

finishes : (tells : Bool) (w : World) (d : Device) (k i : ℕ) (c : Controller) (t : FetchedCommand) (p : QueuePair)
    (a : CommandExecution) → open_pair c t ≡ Some p
    → CommandComesTo tells (queues_of c) k t (record { world = w; window = c.window; device = d }) a → HasItsWindow c
    → HasItsWindow (after_completion i t p a c)
unfolding after_completion
finishes tells w d k i c t p a room answers placed =
    let size = answer-window tells (queues_of c) k t (record { world = w; window = c.window; device = d }) a answers in
    changes a.change
    (queues_of c) (after_posting i t p a.outcome.status a.outcome.dw0 (record c { window = a.left.window }))
    (change-suits tells w d k c t a answers)
    (posts i t p a.outcome.status a.outcome.dw0 (record c { window = a.left.window })
    (open-over c a.left.window t p (is-open c t p room)) (over-window c a.left.window size placed))

pub keeps_its_window : Keeps HasItsWindow
keeps_its_window = record {
  marks = λ n c p. same-queues c (with_marks n c) p.window refl refl refl p;
  store = λ address bytes c p. stored address bytes c p;
  write = λ offset v c p. wrote-it offset v c p;
  fetch = λ q c p. fetched-it q c p;
  cycle = λ c p. record {
    window = p.window;
    registers = begins_consistent;
    submission = λ q x h. absurd (none-submits q x h);
    completion = λ q x h. absurd (none-completes q x h);
  };
  finish = λ tells w d k i c t p a room answers placed. finishes tells w d k i c t p a room answers placed;
}

pub windows_keep_their_length : WindowsKeepTheirLength
windows_keep_their_length tells old new events seen run placed =
    run-keeps HasItsWindow keeps_its_window tells old new events seen run placed

pub length-zeros : length zeros ≡ window_size
unfolding zeros
length-zeros = length-replicate {A = ℕ} window_size 0

new-has-its-window : (k : ℕ) → HasItsWindow (new_controller k)
new-has-its-window k = record {
  window = length-zeros;
  registers = begins_consistent;
  submission = λ q x h. absurd (none-submits q x h);
  completion = λ q x h. absurd (none-completes q x h);
}

all-new : (ks : List ControllerConfig) (i : ℕ) (d : Controller)
    → slice_get (map (λ (k : ControllerConfig). new_controller k.cntlid) ks) i ≡ Some d → HasItsWindow d
all-new [] i d h = absurd (none-some _ h)
all-new (k ∷ ks) zero d h = subst HasItsWindow (same_Some _ _ h) (new-has-its-window k.cntlid)
all-new (k ∷ ks) (suc i) d h = all-new ks i d h

pub opening_has_its_windows : OpeningHasItsWindows
unfolding opening controller_at
opening_has_its_windows c m zero d h = absurd (none-some _ h)
opening_has_its_windows c m (suc i) d h = all-new c.controllers i d h
