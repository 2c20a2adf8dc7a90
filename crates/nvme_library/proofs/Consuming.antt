-- For `nvmesim_complete`: a fetched command ends with its completion, which its host consumes.
use Rattle.std.proofs.Common.{
  ◌≡◌,
  ◌≢◌,
  inl,
  inr,
  ℕ,
  ◌+◌,
  ◌<◌,
  ◌≤◌,
  ◌^◌,
  true,
  List,
  length,
  slice_range,
  Option,
  None,
  Some,
  refl,
  sym,
  ap,
  subst,
  ◌∙◌,
  arith,
}
use Rattle.std.specs.Prelude.{slice_get, option_map}
use Rattle.std.proofs.lemmas.Bool.{eqb-false, false≢true, le-leb}
use Rattle.std.proofs.lemmas.Nat.{mod_below}
use Rattle.nvme_wire.specs.declared.status.Status.{Status}
use Rattle.nvme_spec.specs.declared.outcome.Marks.{Marks}
use Rattle.nvme_spec.specs.declared.outcome.Outcome.{Outcome}
use Rattle.nvme_spec.specs.declared.queues.QueueChange.{QueueChange}
use Rattle.nvme_spec.specs.declared.queues.QueueChange.TheVariants.{Keep, MakeCq, MakeSq, DropCq, DropSq}
use Rattle.nvme_spec.specs.declared.registers.RegEffect.{RegEffect}
use Rattle.nvme_spec.specs.declared.registers.RegEffect.TheVariants.{CqHead}
use Rattle.nvme_spec.specs.ExistingQueues.{has_completion_queue}
use Rattle.nvme_spec.specs.Memory.{window_size}
use Rattle.nvme_spec.specs.Queues.{after_post}
use Rattle.nvme_spec.specs.QueueChanges.{Suits}
use Rattle.nvme_spec.specs.RegisterLaws.{IsConsistent}
use Rattle.nvme_spec.specs.Registers.{Registers, after_write, is_ready}
use Rattle.nvme_spec.proofs.RegisterEffects.{effects_tell}
use Rattle.nvme_machine.specs.declared.bare.BareExecuted.TheVariants as executed
use Rattle.nvme_machine.specs.declared.bare.BareOutcome.{BareOutcome}
use Rattle.nvme_machine.specs.declared.bare.BareSeen.{BareSeen}
use Rattle.nvme_machine.specs.declared.bare.BareSeen.TheVariants as bare
use Rattle.nvme_machine.specs.declared.event.Event.TheVariants.{Execute}
use Rattle.nvme_machine.specs.declared.fetched.FetchedCommand.{FetchedCommand}
use Rattle.nvme_machine.specs.declared.seen.Executed.TheVariants.{Posted}
use Rattle.nvme_machine.specs.declared.seen.Seen.{Seen}
use Rattle.nvme_machine.specs.declared.seen.Seen.TheVariants.{Executed}
use Rattle.nvme_machine.specs.Bare.{outcome_with, seen_of, seen_with}
use Rattle.nvme_machine.specs.Controllers.{
  Controller,
  CompletionQueue,
  QueuePair,
  after_posting,
  after_queue_change,
  after_write32,
  completion_at,
  completion_of,
  completion_slot,
  open_pair,
  queues_of,
  taking_effect,
  with_head,
  with_marks,
  wrote,
}
use Rattle.nvme_machine.specs.CommandExecutions.{CommandExecution}
use Rattle.nvme_machine.specs.Runs.{Waits}
use Rattle.nvme_machine.specs.Subsystems.{
  Subsystem,
  Step,
  ExecutesAt,
  ExecutesOne,
  ExecutesOver,
  Completes as Posts,
  after_completion,
  after_execution,
  controller_at,
  numbered,
  replaced,
}
use Rattle.nvme_machine.proofs.Others.{executed-at, marks-numbered}
use Rattle.nvme_machine.proofs.Posted.{posted_is_unread}
use Rattle.nvme_machine.proofs.Staying.{replaced-same}
use Rattle.nvme_machine.proofs.Windows.{IsOpen, change-suits, is-open, slot-inside}
use Rattle.nvme_machine.proofs.Wirings.{is-there, set-other, unused-at}
use Rattle.nvme_library.specs.declared.completing.Completed.{Completed}
use Rattle.nvme_library.specs.declared.turn.Reply.{Reply}
use Rattle.nvme_library.specs.Answers as told
use Rattle.nvme_library.specs.Completing.{
  AnswersIn,
  AnswersOne,
  AnswersOver,
  CompletesBy,
  Consumes,
  Consuming,
  IsCompleted,
  completed_by,
  reply_at,
}
use Rattle.nvme_library.specs.Events.{Executing}
use Rattle.nvme_library.specs.Holding.{Inside}
use Rattle.nvme_library.specs.Looking.{LoadsFrom, LoadsIf}
use Rattle.nvme_library.specs.Turns.{
  head_doorbell,
  next_slot,
  reply_for,
  reply_from,
  reply_of,
  reply_to,
  reply_with,
  tail_of,
}
use Rattle.nvme_library.specs.Whole.{IsWhole, AreWhole}
use Rattle.nvme_library.proofs.Taking.{reacted, writes-whole}
use Rattle.nvme_library.proofs.Rings.{head-after, mapped-there, next-of, set-there, there-below}
use Rattle.nvme_library.proofs.Whole.{step_keeps_whole}

-- The completion queue after a completion was posted.

record IsPosted (c : Controller) (p : QueuePair) (d : Controller) : Type 0 where
  pub registers : d.registers ≡ c.registers
  pub queue : completion_at d p.submission.cqid
      ≡ Some (record p.completion { tail = after_post p.completion.tail })

posts : (i : ℕ) (t : FetchedCommand) (p : QueuePair) (why : Status) (first : ℕ) (c : Controller) (window : List ℕ)
    → IsOpen c t p → IsPosted c p (after_posting i t p why first (record c { window = window }))
unfolding after_posting
posts i t p why first c window opened = record {
  registers = refl;
  queue = set-there c.completion p.submission.cqid p.completion
      (record p.completion { tail = after_post p.completion.tail }) opened.completion;
}

changes : (change : QueueChange) (c d : Controller) (t : FetchedCommand) (p : QueuePair) → Suits (queues_of c) change
    → IsOpen c t p → IsPosted c p d → IsPosted c p (after_queue_change change d)
unfolding after_queue_change
changes Keep c d t p suits opened h = h
changes (MakeSq qid size at to) c d t p suits opened h = record { registers = h.registers; queue = h.queue }
changes (DropSq qid) c d t p suits opened h = record { registers = h.registers; queue = h.queue }
changes (MakeCq qid size at) c d t p suits opened h =
    let there = is-there c.completion p.submission.cqid p.completion opened.completion in
    let other : p.submission.cqid ≢ qid =
    λ same. false≢true (sym suits.2 ∙ ap (has_completion_queue (queues_of c)) (sym same) ∙ there) in
    record { registers = h.registers; queue = set-other d.completion qid p.submission.cqid _ other ∙ h.queue }
changes (DropCq qid) c d t p suits opened h =
    let other : p.submission.cqid ≢ qid = eqb-false p.submission.cqid qid
    (unused-at qid c.submission t.queue p.submission suits.2 opened.submission) in
    record { registers = h.registers; queue = set-other d.completion qid p.submission.cqid None other ∙ h.queue }

-- it is at the controller of the new state
record PostedAt (s : Subsystem) (k : ℕ) (c : Controller) (p : QueuePair) : Type 0 where
  pub left : Controller
  pub at : controller_at s k ≡ Some left
  pub posted : IsPosted c p left

at-new : (old new : Subsystem) (k : ℕ) (c : Controller) (i : ℕ) (t : FetchedCommand) (p : QueuePair)
    (a : CommandExecution) → new ≡ after_execution old k c i t p a → controller_at old k ≡ Some c
    → IsPosted c p (after_completion i t p a c) → PostedAt new k c p
unfolding controller_at
at-new old new k c i t p a leaves at h =
    let end : Controller = after_completion i t p a c in
    let new_at = executed-at old new k c i t p a k leaves in
    let stood : numbered (replaced old.controllers k end) k ≡ Some end = replaced-same old.controllers k c end at in
    elim (marks-numbered a.left.world a.outcome.marks (replaced old.controllers k end) k) [
      | inl kept ↦ record { left = end; at = new_at ∙ kept ∙ stood; posted = h }
      | inr marked ↦ record {
        left = with_marks a.outcome.marks.nsid end;
        at = new_at ∙ marked.marked ∙ ap (option_map (with_marks a.outcome.marks.nsid)) stood;
        posted = record { registers = h.registers; queue = h.queue };
      }
    ]

finishes : (old new : Subsystem) (k : ℕ) (c : Controller) (i : ℕ) (t : FetchedCommand) (p : QueuePair) (seen : Seen)
    → controller_at old k ≡ Some c → IsOpen c t p → Posts true old k c i t p seen new → PostedAt new k c p
unfolding after_completion
finishes old new k c i t p seen at opened h =
    let a : CommandExecution = h.execution in
    at-new old new k c i t p a h.leaves at (changes a.change c
    (after_posting i t p a.outcome.status a.outcome.dw0 (record c { window = a.left.window })) t p
    (change-suits true old.world old.device k c t a h.comes_to) opened
    (posts i t p a.outcome.status a.outcome.dw0 c a.left.window opened))

-- The head doorbell.

rung-effect : (r : Registers) (cqid v : ℕ) → IsConsistent r → is_ready r.state ≡ true → cqid ≤ 4 → v < 2 ^ 16
    → (after_write r (head_doorbell cqid) v).effect ≡ CqHead cqid v
rung-effect r cqid v fits ready few small =
    let tells = effects_tell r (head_doorbell cqid) v fits in
    (tells.head cqid v).1 (refl, few, omega (arith, small), ready)

head-by : (effect : RegEffect) (r : Registers) (d : Controller) (cqid v : ℕ) (x y : CompletionQueue)
    → effect ≡ CqHead cqid v → completion_at d cqid ≡ Some x → with_head v x ≡ y
    → completion_at (taking_effect effect (record d { registers = r })) cqid ≡ Some y
unfolding taking_effect
head-by effect r d cqid v x y is at same =
    ap (λ e. completion_at (taking_effect e (record d { registers = r })) cqid) is
    ∙ mapped-there (with_head v) d.completion cqid x at ∙ ap (λ q. Some q) same

consumed-is : (c d : Controller) (p : QueuePair) → IsWhole c → completion_at c p.submission.cqid ≡ Some p.completion
    → IsPosted c p d → is_ready c.registers.state ≡ true
    → completion_at (after_write32 (head_doorbell p.submission.cqid)
    (next_slot p.completion.tail.size (tail_of p.completion)) d) p.submission.cqid
    ≡ Some (record p.completion { tail = record (after_post p.completion.tail) { unread = 0 } })
unfolding after_write32
consumed-is c d p whole at posted ready =
    let x : CompletionQueue = p.completion in
    let cqid : ℕ = p.submission.cqid in
    let v : ℕ = next_slot x.tail.size (tail_of x) in
    let lies = whole.window.completion cqid x at in
    let size = lies.1.size in
    let next = next-of x.tail.size (tail_of x) size.0 (mod_below x.tail.posted x.tail.size (omega (arith, size.0))) in
    let below = next.below in
    let there = there-below c.completion cqid x at in
    let fits = subst IsConsistent (sym posted.registers) whole.window.registers in
    let effect = rung-effect d.registers cqid v fits
    (ap (λ (r : Registers). is_ready r.state) posted.registers ∙ ready) (omega (arith, there, whole.completion))
    (omega (arith, below, size.1)) in
    head-by (after_write d.registers (head_doorbell cqid) v).effect
    (after_write d.registers (head_doorbell cqid) v).registers d cqid v
    (record x { tail = after_post x.tail }) (record x { tail = record (after_post x.tail) { unread = 0 } }) effect
    posted.queue (ap (λ q. record x { tail = q }) (head-after x.tail lies.1))

-- The completion is loaded.

posted-of : (m : Marks) (seen : BareSeen) (o : Outcome) → seen_with m seen ≡ Executed (Posted o)
    → (b : BareOutcome) × (seen ≡ bare.Executed (executed.Posted b))
posted-of m (bare.Executed (executed.Posted b)) o h = (b, refl)
posted-of m other o h = absurd (cc)

-- all bytes loaded from a completion queue's next slot exist
loaded-is : (k : ℕ) (s : Subsystem) (d : Controller) (x : CompletionQueue) (before left bytes : List ℕ) (answer : ℕ)
    → controller_at s k ≡ Some d → completion_slot x + 16 ≤ window_size → length before ≡ 16
    → slice_range d.window (completion_slot x) (completion_slot x + 16) ≡ bytes
    → LoadsFrom (controller_at s k) (completion_slot x) before answer left → left ≡ bytes
loaded-is k s d x before left bytes answer at fits long stands h =
    let from : LoadsFrom (Some d) (completion_slot x) before answer left =
    subst (λ o. LoadsFrom o (completion_slot x) before answer left) at h in
    let within = le-leb (completion_slot x + length before) window_size (omega (arith, fits, long)) in
    let loads : LoadsIf true d.window (completion_slot x) before answer left =
    subst (λ b. LoadsIf b d.window (completion_slot x) before answer left) within from in
    loads.1 ∙ ap (λ n. slice_range d.window (completion_slot x) (completion_slot x + n)) long ∙ stands

pub same-controllers : (s t : Subsystem) (k : ℕ) → t.controllers ≡ s.controllers → controller_at t k ≡ controller_at s k
unfolding controller_at
same-controllers s t k same = ap (λ cs. numbered cs k) same

-- A fetched command whose completion can be posted is completed. The state from which its host consumes the completion
-- may differ from that after the execution in its medium.
completed : (k i : ℕ) (c : Controller) (t : FetchedCommand) (p : QueuePair) (base done mid new : Inside)
    (seen : BareSeen) (result : Completed) (before left : List ℕ) → AreWhole base.state
    → controller_at base.state k ≡ Some c → slice_get c.fetched i ≡ Some t → open_pair c t ≡ Some p
    → length before ≡ 16 → Executing k i base seen done → mid.state.controllers ≡ done.state.controllers
    → Consumes seen (Some (reply_with p.submission p.completion)) k mid before left new
    → result ≡ completed_by seen (Some (reply_with p.submission p.completion))
    → IsCompleted k c t p result left new.state
completed k i c t p base done mid new seen result before left whole at found room long e same consumes result_is =
    let x = p.completion in
    let reply : Reply = reply_with p.submission x in
    let opened = is-open c t p room in
    let all : Seen = seen_with e.marks seen in
    let here : ExecutesAt (Some c) true base.state k i all done.state =
    subst (λ o. ExecutesAt o true base.state k i all done.state) at e.executes in
    let one : ExecutesOne (Some t) true base.state k c i all done.state =
    subst (λ o. ExecutesOne o true base.state k c i all done.state) found here in
    let over : Posts true base.state k c i t p all done.state =
    subst (λ o. ExecutesOver o true base.state k c i t all done.state) room one in
    let posted = posted-of e.marks seen over.execution.outcome over.gives in
    let o : BareOutcome = posted.0 in
    let why : Outcome = outcome_with e.marks o in
    let step : Step true base.state (Execute k i) (Executed (Posted why)) done.state =
    subst (λ u. ExecutesAt (controller_at base.state k) true base.state k i (seen_with e.marks u) done.state)
    posted.1 e.executes in
    let waits : Waits base.state k i c t p = record { at = at; found = found; room = room } in
    let stands = posted_is_unread true base.state done.state k i c t p why step waits
    (λ j c₁ at₁. (let w = whole j c₁ at₁ in w.window)) in
    let placed = whole k c at in
    let lies = placed.window.completion p.submission.cqid x opened.completion in
    let there = same-controllers done.state mid.state k same in
    let consuming : Consuming k reply mid before left new =
    subst (λ u. Consumes u (Some reply) k mid before left new) posted.1 consumes in
    let bytes : left ≡ completion_of t p o.status o.dw0 = loaded-is k mid.state stands.0 x before left
    (completion_of t p o.status o.dw0) consuming.loads.0 (there ∙ stands.1) (slot-inside x lies) long
    stands.2.stands consuming.loads.1 in
    let result_of : result ≡ record { answer = told.posted o; head = reply.head; cqid = reply.cqid } =
    result_is ∙ ap (λ u. completed_by u (Some reply)) posted.1 in
    let queue = finishes base.state done.state k c i t p all at opened over in
    let rings = reacted mid.state new.state k queue.left (wrote (head_doorbell reply.cqid) reply.head)
    (seen_of consuming.rings.0) (there ∙ queue.at) consuming.rings.1.0 in
    record {
      posted = ap (λ (r : Completed). r.answer.what) result_of;
      queue = ap (λ (r : Completed). r.cqid) result_of;
      head = ap (λ (r : Completed). r.head) result_of;
      bytes = subst (λ (r : Completed). left
          ≡ completion_of t p (record { sct = r.answer.sct; sc = r.answer.sc }) r.answer.value) (sym result_of) bytes;
      consumed = record {
        left = after_write32 (head_doorbell reply.cqid) reply.head queue.left;
        at = rings.at;
        consumed = λ ready. consumed-is c queue.left p placed opened.completion queue.posted ready;
      };
    }

-- The place of the completion.

reply-is : (c : Controller) (i : ℕ) (t : FetchedCommand) (p : QueuePair) → slice_get c.fetched i ≡ Some t
    → IsOpen c t p → reply_of c i ≡ Some (reply_with p.submission p.completion)
reply-is c i t p found opened =
    ap (reply_for c) found ∙ ap (reply_to c) opened.submission ∙ ap (reply_from p.submission) opened.completion

over-it : (o : Option QueuePair) (k i : ℕ) (c : Controller) (t : FetchedCommand) (base done mid new : Inside)
    (seen : BareSeen) (result : Completed) (before left : List ℕ) → AreWhole base.state
    → controller_at base.state k ≡ Some c → slice_get c.fetched i ≡ Some t → open_pair c t ≡ o
    → length before ≡ 16 → Executing k i base seen done → mid.state.controllers ≡ done.state.controllers
    → Consumes seen (reply_of c i) k mid before left new → result ≡ completed_by seen (reply_of c i)
    → AnswersOver o k c t result left new
over-it None k i c t base done mid new seen result before left whole at found room long e same consumes is = tt
over-it (Some p) k i c t base done mid new seen result before left whole at found room long e same consumes is =
    let reply = reply-is c i t p found (is-open c t p room) in
    completed k i c t p base done mid new seen result before left whole at found room long e same
    (subst (λ r. Consumes seen r k mid before left new) reply consumes) (is ∙ ap (completed_by seen) reply)

one-it : (o : Option FetchedCommand) (k i : ℕ) (c : Controller) (base done mid new : Inside)
    (seen : BareSeen) (result : Completed) (before left : List ℕ) → AreWhole base.state
    → controller_at base.state k ≡ Some c → slice_get c.fetched i ≡ o
    → length before ≡ 16 → Executing k i base seen done → mid.state.controllers ≡ done.state.controllers
    → Consumes seen (reply_of c i) k mid before left new → result ≡ completed_by seen (reply_of c i)
    → AnswersOne o k c result left new
one-it None k i c base done mid new seen result before left whole at found long e same consumes is = tt
one-it (Some t) k i c base done mid new seen result before left whole at found long e same consumes is =
    over-it (open_pair c t) k i c t base done mid new seen result before left whole at found refl long e same consumes
    is

-- a fetched command is completed, if its completion queue has room
pub consumed_is_completed : (o : Option Controller) (k i : ℕ) (base done mid new : Inside) (seen : BareSeen)
    (result : Completed) (before left : List ℕ) → AreWhole base.state → controller_at base.state k ≡ o
    → length before ≡ 16 → Executing k i base seen done → mid.state.controllers ≡ done.state.controllers
    → Consumes seen (reply_at o i) k mid before left new → result ≡ completed_by seen (reply_at o i)
    → AnswersIn o k i result left new
consumed_is_completed None k i base done mid new seen result before left whole at long e same consumes is = tt
consumed_is_completed (Some c) k i base done mid new seen result before left whole at long e same consumes is =
    one-it (slice_get c.fetched i) k i c base done mid new seen result before left whole at refl long e same consumes
    is

pub completes_and_answers : (k i : ℕ) (old new : Inside) (result : Completed) (before left : List ℕ)
    → AreWhole old.state → length before ≡ 16 → CompletesBy (Executing k i) k i old result before left new
    → AnswersIn (controller_at old.state k) k i result left new
completes_and_answers k i old new result before left whole long h = consumed_is_completed (controller_at old.state k) k
    i old h.executed h.executed new h.seen result before left whole refl long h.executes refl h.consumes h.result_is

-- All controllers stay whole.

pub executes-whole : (k i : ℕ) (old new : Inside) (seen : BareSeen) → Executing k i old seen new → AreWhole old.state
    → AreWhole new.state
executes-whole k i old new seen e all =
    step_keeps_whole true old.state new.state (Execute k i) (seen_with e.marks seen) e.executes all

pub consumes-whole : (seen : BareSeen) (reply : Option Reply) (k : ℕ) (old new : Inside) (before left : List ℕ)
    → Consumes seen reply k old before left new → AreWhole old.state → AreWhole new.state
consumes-whole (bare.Executed (executed.Posted o)) (Some reply) k old new before left h all =
    writes-whole old.state new.state k (head_doorbell reply.cqid) reply.head (seen_of h.rings.0) h.rings.1.0 all
consumes-whole seen other k old new before left h all = subst (λ s. AreWhole s.state) (sym h.1) all

pub completes_whole : (k i : ℕ) (old new : Inside) (result : Completed) (before left : List ℕ)
    → CompletesBy (Executing k i) k i old result before left new → AreWhole old.state → AreWhole new.state
completes_whole k i old new result before left h all =
    consumes-whole h.seen (reply_at (controller_at old.state k) i) k h.executed new before left h.consumes
    (executes-whole k i old h.executed h.seen h.executes all)
