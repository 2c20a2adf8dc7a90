-- For `nvmesim_submit`: a host's turn ends with the completion of its command.
use Rattle.std.proofs.Common.{
  ◌≡◌,
  ℕ,
  ◌<◌,
  ◌==◌,
  Bool,
  true,
  false,
  List,
  [],
  length,
  Option,
  None,
  Some,
  Result,
  Ok,
  Err,
  refl,
  sym,
  ap,
  subst,
  ◌∙◌,
  arith,
}
use Rattle.std.specs.Prelude.{slice_get}
use Rattle.std.proofs.lemmas.Bool.{lt-ltb}
use Rattle.std.proofs.lemmas.Nat.{mod_below}
use Rattle.std.proofs.lemmas.Option.{same_Some}
use Rattle.nvme_wire.specs.Completion.{completion_entry}
use Rattle.nvme_wire.specs.Submission.{cid}
use Rattle.nvme_spec.specs.Queues.{completion_room, phase_tag}
use Rattle.nvme_machine.specs.declared.fetched.FetchedCommand.{FetchedCommand}
use Rattle.nvme_machine.specs.Controllers.{
  Controller,
  SubmissionQueue,
  CompletionQueue,
  QueuePair,
  completion_at,
  open_pair,
  pair_with,
  submission_at,
}
use Rattle.nvme_machine.specs.Subsystems.{Subsystem, controller_at, with_controller}
use Rattle.nvme_machine.proofs.Staying.{replaced-same}
use Rattle.nvme_library.specs.declared.answer.Answer.{Answer}
use Rattle.nvme_library.specs.declared.completing.Completed.{Completed}
use Rattle.nvme_library.specs.declared.placing.Placed.{Placed}
use Rattle.nvme_library.specs.declared.turn.Turn.{Turn}
use Rattle.nvme_library.specs.Completing.{AnswersIn, AnswersOne, AnswersOver, IsCompleted}
use Rattle.nvme_library.specs.Holding.{Inside}
use Rattle.nvme_library.specs.Placing.{IsTaken, TakesBy, TakesTo}
use Rattle.nvme_library.specs.Submitting.{AnswersAt, AnswersBy, Finishes, IsAnswered, SubmitsTo}
use Rattle.nvme_library.specs.Turns.{head_of, place_of, tail_of, turn_beside, turn_of}
use Rattle.nvme_library.specs.Whole.{IsWhole, AreWhole}
use Rattle.nvme_library.proofs.Consuming.{completes_and_answers, completes_whole}
use Rattle.nvme_library.proofs.Taking.{placed_is_taken, places_whole}
use Rattle.nvme_library.proofs.Rings.{got-last, none-unread, set-there}
use Rattle.nvme_library.proofs.Turning.{HasTurn, has-turn}

open-is : (c : Controller) (t : FetchedCommand) (s : SubmissionQueue) (x : CompletionQueue)
    → submission_at c t.queue ≡ Some s → completion_at c s.cqid ≡ Some x → 0 < completion_room x.tail
    → open_pair c t ≡ Some (pair_with s x)
unfolding open_pair
open-is c t s x at to room = rw (at, to, lt-ltb 0 (completion_room x.tail) room) refl

with-there : (s : Subsystem) (k : ℕ) (c d : Controller) → controller_at s k ≡ Some c
    → controller_at (with_controller s k d) k ≡ Some d
unfolding controller_at with_controller
with-there s k c d at = replaced-same s.controllers k c d at

-- the command that was taken, and its queues
record Waiting (c d : Controller) (i : ℕ) (t : FetchedCommand) (p : QueuePair) : Type 0 where
  pub found : slice_get d.fetched i ≡ Some t
  pub room : open_pair d t ≡ Some p
  pub completion : completion_at c p.submission.cqid ≡ Some p.completion

room-of : (c : Controller) (x : CompletionQueue) (cqid : ℕ) → IsWhole c → completion_at c cqid ≡ Some x
    → head_of x ≡ tail_of x → 0 < completion_room x.tail
room-of c x cqid whole at consumed =
    let lies = whole.window.completion cqid x at in
    let size = lies.1.size in
    let below : tail_of x < x.tail.size = mod_below x.tail.posted x.tail.size (omega (arith, size.0)) in
    let unread : x.tail.unread ≡ 0 = none-unread x.tail.size (tail_of x) x.tail.unread below lies.1.unread consumed in
    omega (arith, unread, size.0)

waiting : (k qid : ℕ) (turn : Turn) (entry : List ℕ) (c : Controller) (old new : Inside) (placed : Placed)
    → (taken : IsTaken k qid turn entry 0 [] c old placed new) → (has : HasTurn c qid turn) → IsWhole c
    → Waiting c taken.left placed.index (record { entry = entry; queue = qid; marked = false }) (pair_with
    (record taken.queue { head = record taken.queue.head { fetched = turn.tail } }) has.completion)
waiting k qid turn entry c old new placed taken has whole =
    let t : FetchedCommand = record { entry = entry; queue = qid; marked = false } in
    let s : SubmissionQueue = record taken.queue { head = record taken.queue.head { fetched = turn.tail } } in
    let x : CompletionQueue = has.completion in
    let queue : has.submission ≡ taken.queue = same_Some _ _ (sym has.submits ∙ taken.found) in
    let at : completion_at c s.cqid ≡ Some x =
    ap (λ (q : SubmissionQueue). completion_at c q.cqid) (sym queue) ∙ has.completes in
    let index : placed.index ≡ length c.fetched = ap (λ (r : Placed). r.index) taken.took ∙ taken.index in
    let room = room-of c x s.cqid whole at has.consumed in
    subst (λ d. Waiting c d placed.index t (pair_with s x)) (sym taken.left_is) (record {
      found = ap (slice_get _) index ∙ got-last c.fetched t;
      room = open-is _ t s x (set-there c.submission qid taken.queue s taken.found) at room;
      completion = at;
    })

answered : (k qid : ℕ) (turn : Turn) (entry : List ℕ) (c d : Controller) (answer : Answer) (result : Completed)
    (left : List ℕ) (new : Subsystem) (queue : SubmissionQueue) (x : CompletionQueue)
    → completion_at c turn.cqid ≡ Some x → answer ≡ result.answer
    → IsCompleted k d (record { entry = entry; queue = qid; marked = false })
    (pair_with (record queue { head = record queue.head { fetched = turn.tail } }) x) result left new
    → IsAnswered c qid turn entry answer left
answered k qid turn entry c d answer result left new queue x at same h = record {
  posted = ap (λ (a : Answer). a.what) same ∙ h.posted;
  queue = x;
  at = at;
  bytes = subst (λ (a : Answer). left ≡ completion_entry (record {
    dw0 = a.value;
    sq_head = turn.tail;
    sq_id = qid;
    cid = cid entry;
    phase = phase_tag x.tail.size x.tail.posted;
    status = record { sct = a.sct; sc = a.sc };
  })) (sym same) h.bytes;
}

-- At a whole controller, a turn ends with the completion of its command.
turn_is_answered : (k qid : ℕ) (c : Controller) (turn : Turn) (entry before left : List ℕ) (old new : Inside)
    (answer : Answer) → AreWhole old.state → controller_at old.state k ≡ Some c
    → turn_of c qid ≡ Ok turn → length entry ≡ 64 → length before ≡ 16
    → SubmitsTo k qid entry old answer before left new → IsAnswered c qid turn entry answer left
turn_is_answered k qid c turn entry before left old new answer whole at is full long h =
    let takes = placed_is_taken (controller_at old.state k) k qid entry 0 [] old h.fetched h.placed whole refl full
    h.places in
    let takes_to : TakesTo (Some c) k qid entry 0 [] old h.placed h.fetched =
    subst (λ o. TakesTo o k qid entry 0 [] old h.placed h.fetched) at takes in
    let place : place_of c qid 0 0 ≡ Ok turn = ap (λ r. turn_beside r 0 0) is in
    let taken : IsTaken k qid turn entry 0 [] c old h.placed h.fetched =
    subst (λ r. TakesBy c r k qid entry 0 [] old h.placed h.fetched) place takes_to in
    let has = has-turn c qid turn is in
    let t : FetchedCommand = record { entry = entry; queue = qid; marked = false } in
    let p : QueuePair = pair_with (record taken.queue { head = record taken.queue.head { fetched = turn.tail } })
    has.completion in
    let waits = waiting k qid turn entry c old h.fetched h.placed taken has (whole k c at) in
    let took : (h.placed.what == 4) ≡ true = ap (λ (r : Placed). r.what == 4) taken.took in
    let finishes : Finishes true k h.placed h.fetched answer before left new =
    subst (λ b. Finishes b k h.placed h.fetched answer before left new) took h.finishes in
    let still = places_whole (controller_at old.state k) k qid entry 0 [] old h.fetched h.placed h.places whole in
    let there : controller_at h.fetched.state k ≡ Some taken.left =
    ap (λ s. controller_at s k) taken.state ∙ with-there old.state k c taken.left at in
    let i : ℕ = h.placed.index in
    let answers = completes_and_answers k i h.fetched new finishes.0 before left still long finishes.1 in
    let in_left : AnswersIn (Some taken.left) k i finishes.0 left new =
    subst (λ o. AnswersIn o k i finishes.0 left new) there answers in
    let one : AnswersOne (Some t) k taken.left finishes.0 left new =
    subst (λ o. AnswersOne o k taken.left finishes.0 left new) waits.found in_left in
    let completed : IsCompleted k taken.left t p finishes.0 left new.state =
    subst (λ o. AnswersOver o k taken.left t finishes.0 left new) waits.room one in
    let queue : has.submission ≡ taken.queue = same_Some _ _ (sym has.submits ∙ taken.found) in
    let cqid : turn.cqid ≡ taken.queue.cqid =
    ap (λ (u : Turn). u.cqid) has.is ∙ ap (λ (q : SubmissionQueue). q.cqid) queue in
    answered k qid turn entry c taken.left answer finishes.0 left new.state taken.queue has.completion
    (ap (completion_at c) cqid ∙ waits.completion) finishes.2 completed

answers-by : (r : Result Turn ℕ) (k qid : ℕ) (c : Controller) (entry before left : List ℕ) (old new : Inside)
    (answer : Answer) → AreWhole old.state → controller_at old.state k ≡ Some c → turn_of c qid ≡ r
    → length entry ≡ 64 → length before ≡ 16 → SubmitsTo k qid entry old answer before left new
    → AnswersBy c r qid entry answer left
answers-by (Err why) k qid c entry before left old new answer whole at is full long h = tt
answers-by (Ok turn) k qid c entry before left old new answer whole at is full long h =
    turn_is_answered k qid c turn entry before left old new answer whole at is full long h

-- a submitted command is answered
pub submits_and_answers : (o : Option Controller) (k qid : ℕ) (entry before left : List ℕ) (old new : Inside)
    (answer : Answer) → AreWhole old.state → controller_at old.state k ≡ o
    → length entry ≡ 64 → length before ≡ 16 → SubmitsTo k qid entry old answer before left new
    → AnswersAt o qid entry answer left
submits_and_answers None k qid entry before left old new answer whole at full long h = tt
submits_and_answers (Some c) k qid entry before left old new answer whole at full long h =
    answers-by (turn_of c qid) k qid c entry before left old new answer whole at refl full long h

finishes-whole : (b : Bool) (k : ℕ) (placed : Placed) (old new : Inside) (answer : Answer) (before left : List ℕ)
    → Finishes b k placed old answer before left new → AreWhole old.state → AreWhole new.state
finishes-whole false k placed old new answer before left h all = subst (λ s. AreWhole s.state) (sym h.2) all
finishes-whole true k placed old new answer before left h all =
    completes_whole k placed.index old new h.0 before left h.1 all

-- all controllers stay whole
pub submits_whole : (k qid : ℕ) (entry before left : List ℕ) (old new : Inside) (answer : Answer)
    → SubmitsTo k qid entry old answer before left new → AreWhole old.state → AreWhole new.state
submits_whole k qid entry before left old new answer h all =
    finishes-whole (h.placed.what == 4) k h.placed h.fetched new answer before left h.finishes
    (places_whole (controller_at old.state k) k qid entry 0 [] old h.fetched h.placed h.places all)
