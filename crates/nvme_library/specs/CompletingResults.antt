-- Statements of worked examples: executions whose completion is consumed, over memory and over brought blocks.
use Rattle.std.specs.Prelude.{◌≡◌, ℕ, Bool, List, Option, Some, None, slice_get}
use Rattle.nvme_brought.specs.declared.room.Room.{Room}
use Rattle.nvme_lent.specs.Bytes.{as_lent}
use Rattle.nvme_lent.specs.OwnOrLent.{IsInMemory}
use Rattle.nvme_lent.specs.declared.bytes.LentBytes.{LentBytes}
use Rattle.nvme_machine.specs.declared.bare.BareExecuted.TheVariants.{NoSuch}
use Rattle.nvme_machine.specs.declared.bare.BareSeen.{BareSeen}
use Rattle.nvme_machine.specs.declared.bare.BareSeen.TheVariants.{Executed}
use Rattle.nvme_machine.specs.declared.fetched.FetchedCommand.{FetchedCommand}
use Rattle.nvme_machine.specs.Controllers.{Controller, QueuePair, open_pair}
use Rattle.nvme_machine.specs.Subsystems.{controller_at}
use Rattle.nvme_library.specs.Answers.{answer_of, plain}
use Rattle.nvme_library.specs.Completing.{AlwaysCompletes, Completes, CompletesBy, Consumes, completed_without}
use Rattle.nvme_library.specs.CompletingOver.{
  AlwaysCompletesOver,
  AnswersUnlessRefused,
  CompletesOver,
  WasCompleted,
  not_completed,
}
use Rattle.nvme_library.specs.Events.{Executing}
use Rattle.nvme_library.specs.Holding.{Inside}
use Rattle.nvme_library.specs.Over.{ExecutesOver, IsRoom, WasExecuted, not_executed}
use Rattle.nvme_library.specs.declared.completing.Completed.{Completed}
use Rattle.nvme_library.specs.declared.completing_over.CompletedOver.{CompletedOver}
use Rattle.nvme_library.specs.declared.over.ExecutedOver.{ExecutedOver}
use Rattle.nvme_library.specs.declared.turn.Reply.{Reply}

-- A command over blocks in memory. Nothing is consumed if nothing was posted. The answer is that of the execution, and
-- without a subsystem 16. A fetched command whose completion queue has room has a completion, which is answered 6.
pub record CompletionsHaveCodes : Type 0 where
  pub nothing_posted : (reply : Option Reply) (k : ℕ) (old new : Inside) (before left : List ℕ)
      → Consumes (Executed NoSuch) reply k old before left new → (left ≡ before) × (new ≡ old)
  pub by_execution : (k i : ℕ) (old new : Inside) (result : Completed) (before left : List ℕ)
      → CompletesBy (Executing k i) k i old result before left new
      → (seen : BareSeen) × (result.answer ≡ answer_of seen)
  pub closed : (k i : ℕ) (result : Completed) (before left : List ℕ) (new : Option Inside)
      → Completes k i None result before left new
      → (result ≡ completed_without (plain 16)) × (left ≡ before) × (new ≡ None)
  pub stays_open : (k i : ℕ) (old : Inside) (result : Completed) (before left : List ℕ)
      → Completes k i (Some old) result before left None → ⊥
  pub has_result : (k i : ℕ) (old new : Inside) (result : Completed) (before left : List ℕ)
      → Completes k i (Some old) result before left (Some new) → (seen : BareSeen) × (result.answer ≡ answer_of seen)
  pub nothing_promised : (k i : ℕ) (result : Completed) (left : List ℕ) (new : Option Inside)
      → AlwaysCompletes k i None result left new
  pub always_open : (k i : ℕ) (old : Inside) (result : Completed) (left : List ℕ)
      → AlwaysCompletes k i (Some old) result left None → ⊥
  pub posted : (k i : ℕ) (old new : Inside) (result : Completed) (left : List ℕ) (c : Controller)
      (t : FetchedCommand) (p : QueuePair) → controller_at old.state k ≡ Some c → slice_get c.fetched i ≡ Some t
      → open_pair c t ≡ Some p → AlwaysCompletes k i (Some old) result left (Some new) → result.answer.what ≡ 6

-- Two rooms of the same bytes have the same blocks, and each has the bytes at their address.
pub record RoomsAreAlike (lent : LentBytes) (one two : Room) : Type 0 where
  pub bytes : as_lent one.buffer ≡ lent
  pub first_blocks : one.first ≡ two.first
  pub at_hand_blocks : one.at_hand ≡ two.at_hand
  pub flush : one.flushes ≡ two.flushes

-- A command over brought blocks. Without a subsystem (16), and over a medium in memory (39), the room comes back with
-- the same bytes, and nothing changes.
pub record ExecutionsOverRoomsHaveCodes : Type 0 where
  pub alike : (lent : LentBytes) (first brought : ℕ) (flushes : Bool) (one two : Room)
      → IsRoom lent first brought flushes one → IsRoom lent first brought flushes two → RoomsAreAlike lent one two
  pub closed : (k i : ℕ) (lent : LentBytes) (first brought : ℕ) (flushes : Bool) (result : ExecutedOver)
      (new : Option Inside) (returned : Option LentBytes)
      → ExecutesOver k i lent first brought flushes None result new returned
      → (result ≡ not_executed 16) × (new ≡ None) × (returned ≡ Some lent)
  pub stays_open : (k i : ℕ) (lent : LentBytes) (first brought : ℕ) (flushes : Bool) (old : Inside)
      (result : ExecutedOver) (returned : Option LentBytes)
      → ExecutesOver k i lent first brought flushes (Some old) result None returned → ⊥
  pub in_memory : (k i : ℕ) (lent : LentBytes) (first brought : ℕ) (flushes : Bool) (old new : Inside)
      (result : ExecutedOver) (returned : Option LentBytes) → IsInMemory old.medium
      → ExecutesOver k i lent first brought flushes (Some old) result (Some new) returned
      → (result ≡ not_executed 39) × (new ≡ old) × (returned ≡ Some lent)
  pub executed : (k i : ℕ) (room left : Room) (old new : Inside) (result : ExecutedOver)
      → WasExecuted k i room old result left new → result.at_hand ≡ left.at_hand

pub record CompletionsOverRoomsHaveCodes : Type 0 where
  pub closed : (k i : ℕ) (lent : LentBytes) (first brought : ℕ) (flushes : Bool) (result : CompletedOver)
      (before bytes : List ℕ) (new : Option Inside) (returned : Option LentBytes)
      → CompletesOver k i lent first brought flushes None result before bytes new returned
      → (result ≡ not_completed 16) × (bytes ≡ before) × (new ≡ None) × (returned ≡ Some lent)
  pub stays_open : (k i : ℕ) (lent : LentBytes) (first brought : ℕ) (flushes : Bool) (old : Inside)
      (result : CompletedOver) (before bytes : List ℕ) (returned : Option LentBytes)
      → CompletesOver k i lent first brought flushes (Some old) result before bytes None returned → ⊥
  pub in_memory : (k i : ℕ) (lent : LentBytes) (first brought : ℕ) (flushes : Bool) (old new : Inside)
      (result : CompletedOver) (before bytes : List ℕ) (returned : Option LentBytes) → IsInMemory old.medium
      → CompletesOver k i lent first brought flushes (Some old) result before bytes (Some new) returned
      → (result ≡ not_completed 39) × (bytes ≡ before) × (new ≡ old) × (returned ≡ Some lent)
  pub completed : (k i : ℕ) (room left : Room) (old new : Inside) (result : CompletedOver) (before bytes : List ℕ)
      → WasCompleted k i room old result before bytes left new → result.at_hand ≡ left.at_hand
  pub nothing_promised : (k i : ℕ) (room : Room) (result : CompletedOver) (bytes : List ℕ) (new : Option Inside)
      → AnswersUnlessRefused k i room None result bytes new
  pub always_open : (k i : ℕ) (room : Room) (old : Inside) (result : CompletedOver) (bytes : List ℕ)
      → AnswersUnlessRefused k i room (Some old) result bytes None → ⊥
  pub always_a_room : (k i : ℕ) (lent : LentBytes) (first brought : ℕ) (flushes : Bool) (old new : Option Inside)
      (result : CompletedOver) (bytes : List ℕ)
      → AlwaysCompletesOver k i lent first brought flushes old result bytes new
      → (room : Room) × IsRoom lent first brought flushes room × AnswersUnlessRefused k i room old result bytes new
