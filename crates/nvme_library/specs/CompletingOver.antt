-- A fetched command is executed over blocks that the program brings, and its host consumes the completion.
use Rattle.std.specs.Prelude.{◌≡◌, ◌⊎◌, ℕ, Bool, List, Option, Some, None}
use Rattle.nvme_brought.specs.declared.room.Room.{Room}
use Rattle.nvme_lent.specs.Bringing.{IsRefused}
use Rattle.nvme_lent.specs.Bytes.{as_lent}
use Rattle.nvme_lent.specs.declared.bytes.LentBytes.{LentBytes}
use Rattle.nvme_lent.specs.declared.either.NotBrought.{NotBrought}
use Rattle.nvme_lent.specs.declared.either.NotBrought.TheVariants.{InMemory, Outside}
use Rattle.nvme_machine.specs.Subsystems.{controller_at}
use Rattle.nvme_library.specs.declared.completing_over.CompletedOver.{CompletedOver}
use Rattle.nvme_library.specs.Answers.{plain}
use Rattle.nvme_library.specs.Completing.{AnswersIn, CompletesBy, completed_without}
use Rattle.nvme_library.specs.Events.{Event}
use Rattle.nvme_library.specs.Holding.{Inside}
use Rattle.nvme_library.specs.Over.{ExecutingOver, IsRoom, refusal_number}

-- a command is executed over a room, which is then as `left`
abbrev pub OverRoom : ℕ → ℕ → Room → Room → Event
OverRoom k i room left old seen new = ExecutingOver k i room old seen left new

abbrev pub not_completed : ℕ → CompletedOver
not_completed what = record { at_hand = 0; completed = completed_without (plain what) }

-- the room that the medium does not take
abbrev pub room_of : NotBrought → Room
room_of (InMemory room) = room
room_of (Outside room) = room

-- the command is executed over the room, and its completion consumed
pub record WasCompleted (k i : ℕ) (room : Room) (old : Inside) (result : CompletedOver) (before bytes : List ℕ)
    (left : Room) (new : Inside) : Type 0 where
  pub completes : CompletesBy (OverRoom k i room left) k i old result.completed before bytes new
  pub at_hand : result.at_hand ≡ left.at_hand

-- the medium does not take the room, and nothing changes
pub record WasNotTaken (room : Room) (old : Inside) (result : CompletedOver) (before bytes : List ℕ) (left : Room)
    (new : Inside) : Type 0 where
  pub why : NotBrought
  pub refused : IsRefused room old.medium why
  pub result_is : result ≡ not_completed (refusal_number why)
  pub bytes_are : bytes ≡ before
  pub left_is : left ≡ room
  pub new_is : new ≡ old

abbrev pub CompletesIn : ℕ → ℕ → Room → Inside → CompletedOver → List ℕ → List ℕ → Room → Inside → Type 0
CompletesIn k i room old result before bytes left new =
    WasCompleted k i room old result before bytes left new ⊎ WasNotTaken room old result before bytes left new

-- Either way C has its room again.
abbrev pub CompletesFrom : ℕ → ℕ → Room → Option Inside → CompletedOver → List ℕ → List ℕ → Option Inside
    → Option LentBytes → Type 0
CompletesFrom k i room None result before bytes new returned =
    (result ≡ not_completed 16) × (bytes ≡ before) × (new ≡ None) × (returned ≡ Some (as_lent room.buffer))
CompletesFrom k i room (Some old) result before bytes None returned = ⊥
CompletesFrom k i room (Some old) result before bytes (Some new) returned =
    (left : Room) × CompletesIn k i room old result before bytes left new × (returned ≡ Some (as_lent left.buffer))

-- A command is executed over blocks that C brings in borrowed bytes, and its completion consumed.
abbrev pub CompletesOver : ℕ → ℕ → LentBytes → ℕ → ℕ → Bool → Option Inside → CompletedOver → List ℕ → List ℕ
    → Option Inside → Option LentBytes → Type 0
CompletesOver k i lent first brought flushes old result before bytes new returned = (room : Room)
    × IsRoom lent first brought flushes room × CompletesFrom k i room old result before bytes new returned

-- if the medium takes the room, a command whose completion queue has room is completed
abbrev pub AnswersUnlessRefused : ℕ → ℕ → Room → Option Inside → CompletedOver → List ℕ → Option Inside → Type 0
AnswersUnlessRefused k i room None result bytes new = Unit {0}
AnswersUnlessRefused k i room (Some old) result bytes None = ⊥
AnswersUnlessRefused k i room (Some old) result bytes (Some new) =
    ((why : NotBrought) × IsRefused room old.medium why)
    ⊎ AnswersIn (controller_at old.state k) k i result.completed bytes new

-- Over a room that the medium takes, a fetched command whose completion queue has room is completed.
abbrev pub AlwaysCompletesOver : ℕ → ℕ → LentBytes → ℕ → ℕ → Bool → Option Inside → CompletedOver → List ℕ
    → Option Inside → Type 0
AlwaysCompletesOver k i lent first brought flushes old result bytes new = (room : Room)
    × IsRoom lent first brought flushes room × AnswersUnlessRefused k i room old result bytes new
