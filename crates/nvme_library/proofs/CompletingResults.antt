-- For `examples/completing_results.rt`: executions whose completion is consumed, over memory and over brought blocks.
use Rattle.std.proofs.Common.{◌≡◌, ◌⊎◌, ℕ, List, Option, None, Some, refl, sym, ap, subst, ◌∙◌, inl, inr}
use Rattle.std.specs.Prelude.{slice_get}
use Rattle.nvme_brought.specs.declared.room.Room.{Room}
use Rattle.nvme_lent.specs.Bringing.{Brings, IsRefused}
use Rattle.nvme_lent.specs.Bytes.{as_lent}
use Rattle.nvme_lent.specs.OwnOrLent.{IsInMemory}
use Rattle.nvme_lent.specs.declared.bytes.LentBytes.{LentBytes}
use Rattle.nvme_lent.specs.declared.either.NotBrought.{NotBrought}
use Rattle.nvme_lent.specs.declared.either.NotBrought.TheVariants.{InMemory}
use Rattle.nvme_lent.specs.declared.either.OwnOrLent.{OwnOrLent}
use Rattle.nvme_lent.specs.declared.either.OwnOrLent.TheVariants.{Own, Lent, Brought}
use Rattle.nvme_machine.specs.declared.bare.BareExecuted.TheVariants.{Posted}
use Rattle.nvme_machine.specs.declared.bare.BareSeen.{BareSeen}
use Rattle.nvme_machine.specs.declared.bare.BareSeen.TheVariants.{Executed}
use Rattle.nvme_machine.specs.declared.fetched.FetchedCommand.{FetchedCommand}
use Rattle.nvme_machine.specs.Controllers.{Controller, QueuePair, open_pair}
use Rattle.nvme_machine.specs.Subsystems.{controller_at}
use Rattle.nvme_library.specs.Answers.{answer_of}
use Rattle.nvme_library.specs.Completing.{
  AnswersIn,
  AnswersOne,
  AnswersOver,
  Completing,
  CompletesBy,
  IsCompleted,
  completed_by,
  reply_at,
}
use Rattle.nvme_library.specs.CompletingOver.{
  CompletesFrom,
  CompletesIn,
  OverRoom,
  WasCompleted,
  WasNotTaken,
  not_completed,
}
use Rattle.nvme_library.specs.CompletingResults.{
  CompletionsHaveCodes,
  CompletionsOverRoomsHaveCodes,
  ExecutionsOverRoomsHaveCodes,
}
use Rattle.nvme_library.specs.Events.{Executing}
use Rattle.nvme_library.specs.Holding.{Inside}
use Rattle.nvme_library.specs.Over.{
  ExecutesIn,
  IsRoom,
  OverFrom,
  WasExecuted,
  WasRefused,
  not_executed,
  refusal_number,
}
use Rattle.nvme_library.specs.declared.completing.Completed.{Completed}
use Rattle.nvme_library.specs.declared.completing_over.CompletedOver.{CompletedOver}
use Rattle.nvme_library.specs.declared.over.ExecutedOver.{ExecutedOver}
use Rattle.nvme_library.specs.declared.turn.Reply.{Reply}

-- Commands over blocks in memory.

answer-of-execution : (seen : BareSeen) (reply : Option Reply) → (completed_by seen reply).answer ≡ answer_of seen
answer-of-execution (Executed (Posted o)) (Some reply) = refl
answer-of-execution seen reply = refl

has-result : (k i : ℕ) (old new : Inside) (result : Completed) (before left : List ℕ)
    → CompletesBy (Executing k i) k i old result before left new
    → (seen : BareSeen) × (result.answer ≡ answer_of seen)
has-result k i old new result before left h =
    let p : Completing (Executing k i) k (reply_at (controller_at old.state k) i) old result before left new = h in (
      p.seen,
      ap (λ (x : Completed). x.answer) p.result_is
          ∙ answer-of-execution p.seen (reply_at (controller_at old.state k) i),
    )

-- a command of a controller that has fetched it, with its queues
posted-one : (k i : ℕ) (result : Completed) (left : List ℕ) (new : Inside) (o : Option Controller) (c : Controller)
    (t : FetchedCommand) (p : QueuePair) → o ≡ Some c → slice_get c.fetched i ≡ Some t → open_pair c t ≡ Some p
    → AnswersIn o k i result left new → result.answer.what ≡ 6
posted-one k i result left new o c t p is found room h =
    let one : AnswersOne (slice_get c.fetched i) k c result left new =
    subst (λ x. AnswersIn x k i result left new) is h in
    let over : AnswersOver (open_pair c t) k c t result left new =
    subst (λ x. AnswersOne x k c result left new) found one in
    let done : IsCompleted k c t p result left new.state =
    subst (λ x. AnswersOver x k c t result left new) room over in
    done.posted

pub completions_have_codes : CompletionsHaveCodes
completions_have_codes = record {
  nothing_posted = λ reply k old new before left h. h;
  by_execution = has-result;
  closed = λ k i result before left new h. h;
  stays_open = λ k i old result before left h. h;
  has_result = λ k i old new result before left h. has-result k i old new result before left h;
  nothing_promised = λ k i result left new. tt;
  always_open = λ k i old result left h. h;
  posted = λ k i old new result left c t p is found room h.
      posted-one k i result left new (controller_at old.state k) c t p is found room h;
}

-- Rooms: a medium in memory takes none.

takes-no-room : (m : OwnOrLent) (room earlier : Room) (new : OwnOrLent) → IsInMemory m → Brings room m earlier new → ⊥
takes-no-room (Own m) room earlier new memory h = h
takes-no-room (Lent m) room earlier new memory h = h
takes-no-room (Brought m) room earlier new memory h = memory

is-refused : (m : OwnOrLent) (room : Room) (why : NotBrought) → IsInMemory m → IsRefused room m why
    → why ≡ InMemory room
is-refused (Own m) room why memory h = h
is-refused (Lent m) room why memory h = h
is-refused (Brought m) room why memory h = absurd memory

not-executed : (k i : ℕ) (room left : Room) (old new : Inside) (result : ExecutedOver) → IsInMemory old.medium
    → WasExecuted k i room old result left new ⊎ WasRefused room old result left new
    → (result ≡ not_executed 39) × (new ≡ old) × (left ≡ room)
not-executed k i room left old new result memory (inl w) =
    let e = w.executes in absurd (takes-no-room old.medium room e.earlier e.before.medium memory e.brings)
not-executed k i room left old new result memory (inr w) = (
  w.result_is ∙ ap (λ why. not_executed (refusal_number why)) (is-refused old.medium room w.why memory w.refused),
  w.new_is,
  w.left_is,
)

pub executions_over_rooms_have_codes : ExecutionsOverRoomsHaveCodes
executions_over_rooms_have_codes = record {
  alike = λ lent first brought flushes one two p q. record {
    bytes = p.bytes;
    first_blocks = p.first_is ∙ sym q.first_is;
    at_hand_blocks = p.at_hand ∙ sym q.at_hand;
    flush = p.flushes_is ∙ sym q.flushes_is;
  };
  closed = λ k i lent first brought flushes result new returned h.
      let p : (room : Room) × IsRoom lent first brought flushes room × OverFrom k i room None result new returned =
      h in
      let q : (result ≡ not_executed 16) × (new ≡ None) × (returned ≡ Some (as_lent p.0.buffer)) = p.2 in
      (q.0, q.1, q.2 ∙ ap (λ (b : LentBytes). Some b) p.1.bytes);
  stays_open = λ k i lent first brought flushes old result returned h.
      let p : (room : Room) × IsRoom lent first brought flushes room × ⊥ = h in p.2;
  in_memory = λ k i lent first brought flushes old new result returned memory h.
      let p : (room : Room) × IsRoom lent first brought flushes room
      × OverFrom k i room (Some old) result (Some new) returned = h in
      let q : (left : Room) × ExecutesIn k i p.0 old result left new × (returned ≡ Some (as_lent left.buffer)) = p.2 in
      let r = not-executed k i p.0 q.0 old new result memory q.1 in
      (r.0, r.1, q.2 ∙ (ap (λ (x : Room). Some (as_lent x.buffer)) r.2 ∙ ap (λ (b : LentBytes). Some b) p.1.bytes));
  executed = λ k i room left old new result w. ap (λ (x : ExecutedOver). x.at_hand) w.result_is;
}

not-completed : (k i : ℕ) (room left : Room) (old new : Inside) (result : CompletedOver) (before bytes : List ℕ)
    → IsInMemory old.medium
    → WasCompleted k i room old result before bytes left new ⊎ WasNotTaken room old result before bytes left new
    → (result ≡ not_completed 39) × (bytes ≡ before) × (new ≡ old) × (left ≡ room)
not-completed k i room left old new result before bytes memory (inl w) =
    let h : CompletesBy (OverRoom k i room left) k i old result.completed before bytes new = w.completes in
    let e = h.executes in absurd (takes-no-room old.medium room e.earlier e.before.medium memory e.brings)
not-completed k i room left old new result before bytes memory (inr w) = (
  w.result_is ∙ ap (λ why. not_completed (refusal_number why)) (is-refused old.medium room w.why memory w.refused),
  w.bytes_are,
  w.new_is,
  w.left_is,
)

pub completions_over_rooms_have_codes : CompletionsOverRoomsHaveCodes
completions_over_rooms_have_codes = record {
  closed = λ k i lent first brought flushes result before bytes new returned h.
      let p : (room : Room) × IsRoom lent first brought flushes room
      × CompletesFrom k i room None result before bytes new returned = h in
      let q : (result ≡ not_completed 16) × (bytes ≡ before) × (new ≡ None)
      × (returned ≡ Some (as_lent p.0.buffer)) = p.2 in
      (q.0, q.1, q.2, q.3 ∙ ap (λ (b : LentBytes). Some b) p.1.bytes);
  stays_open = λ k i lent first brought flushes old result before bytes returned h.
      let p : (room : Room) × IsRoom lent first brought flushes room × ⊥ = h in p.2;
  in_memory = λ k i lent first brought flushes old new result before bytes returned memory h.
      let p : (room : Room) × IsRoom lent first brought flushes room
      × CompletesFrom k i room (Some old) result before bytes (Some new) returned = h in
      let q : (left : Room) × CompletesIn k i p.0 old result before bytes left new
      × (returned ≡ Some (as_lent left.buffer)) = p.2 in
      let r = not-completed k i p.0 q.0 old new result before bytes memory q.1 in (
        r.0,
        r.1,
        r.2,
        q.2 ∙ (ap (λ (x : Room). Some (as_lent x.buffer)) r.3 ∙ ap (λ (b : LentBytes). Some b) p.1.bytes),
      );
  completed = λ k i room left old new result before bytes w. w.at_hand;
  nothing_promised = λ k i room result bytes new. tt;
  always_open = λ k i room old result bytes h. h;
  always_a_room = λ k i lent first brought flushes old new result bytes h. h;
}
