-- Statements of worked examples: events, placed commands and whole turns, their codes and what they leave.
use Rattle.std.specs.Prelude.{◌≡◌, ℕ, true, List, [], ◌∷◌, Option, Some, None, Err}
use Rattle.nvme_spec.specs.Execution.{no_marks}
use Rattle.nvme_machine.specs.declared.bare.BareExecuted.TheVariants.{NoSuch}
use Rattle.nvme_machine.specs.declared.bare.BareSeen.{BareSeen}
use Rattle.nvme_machine.specs.declared.bare.BareSeen.TheVariants.{Executed}
use Rattle.nvme_machine.specs.Subsystems.{controller_at, after_power_cycle}
use Rattle.nvme_library.specs.Answers.{closed, plain}
use Rattle.nvme_library.specs.Completing.{CompletesBy}
use Rattle.nvme_library.specs.Events.{Cycling, Executing, Happens}
use Rattle.nvme_library.specs.Holding.{Inside}
use Rattle.nvme_library.specs.Placing.{AlwaysTakes, Does, Places, PlacesBy, StoresData, not_placed}
use Rattle.nvme_library.specs.Submitting.{Finishes, Submits}
use Rattle.nvme_library.specs.declared.answer.Answer.{Answer}
use Rattle.nvme_library.specs.declared.completing.Completed.{Completed}
use Rattle.nvme_library.specs.declared.placing.Placed.{Placed}

-- A power cycle of an open subsystem is answered 9, and the medium stays. An execution that posts no completion marks
-- no command, and one of a controller that does not exist makes no call of the medium.
pub record EventsHaveResults : Type 0 where
  pub stays_open : (s : Inside) (answer : Answer) → Happens Cycling (Some s) answer None → ⊥
  pub cycled : (old new : Inside) (answer : Answer) → Happens Cycling (Some old) answer (Some new)
      → (answer ≡ plain 9) × (new.state ≡ after_power_cycle old.state) × (new.medium ≡ old.medium)
  pub unmarked : (k i : ℕ) (old new : Inside) → (h : Executing k i old (Executed NoSuch) new) → h.marks ≡ no_marks
  pub no_call : (k i : ℕ) (old new : Inside) (seen : BareSeen) → controller_at old.state k ≡ None
      → Executing k i old seen new → new.medium ≡ old.medium

-- A command that is not placed: the code says why, and nothing changes.
pub record PlacingsHaveCodes : Type 0 where
  pub closed : (k qid at : ℕ) (entry bytes : List ℕ) (placed : Placed) (new : Option Inside)
      → Places k qid entry at bytes None placed new → (placed ≡ not_placed 16) × (new ≡ None)
  pub stays_open : (k qid at : ℕ) (entry bytes : List ℕ) (placed : Placed) (old : Inside)
      → Places k qid entry at bytes (Some old) placed None → ⊥
  pub no_controller : (k qid at : ℕ) (entry bytes : List ℕ) (placed : Placed) (old new : Inside)
      → controller_at old.state k ≡ None → Places k qid entry at bytes (Some old) placed (Some new)
      → (placed ≡ not_placed 17) × (new ≡ old)
  pub no_turn : (k qid at : ℕ) (entry bytes : List ℕ) (placed : Placed) (old new : Inside)
      → PlacesBy (Err 28) k qid entry at bytes old placed new → (placed ≡ not_placed 28) × (new ≡ old)
  pub always_open : (k qid at : ℕ) (entry bytes : List ℕ) (placed : Placed) (old : Inside)
      → AlwaysTakes k qid entry at bytes (Some old) placed None → ⊥

-- Events of a placing: any of them leaves the medium as it is, a store of data too.
pub record PlacingsLeaveTheMedium : Type 0 where
  pub cycled : (old new : Inside) → Does Cycling old new → new.medium ≡ old.medium
  pub stored : (k at : ℕ) (old new : Inside) → StoresData k at (7 ∷ []) old new → new.medium ≡ old.medium

-- A turn that is not possible: the answer says why, and nothing changes. Else it ends with the answer of an execution.
pub record TurnsHaveCodes : Type 0 where
  pub no_subsystem : (k qid : ℕ) (entry before left : List ℕ) (answer : Answer) (new : Option Inside)
      → Submits k qid entry None answer before left new → (answer ≡ closed) × (left ≡ before) × (new ≡ None)
  pub stays_open : (k qid : ℕ) (entry before left : List ℕ) (answer : Answer) (old : Inside)
      → Submits k qid entry (Some old) answer before left None → ⊥
  pub no_controller : (k qid : ℕ) (entry before left : List ℕ) (answer : Answer) (old new : Inside)
      → controller_at old.state k ≡ None → Submits k qid entry (Some old) answer before left (Some new)
      → (answer ≡ plain 17) × (left ≡ before) × (new ≡ old)
  pub executed : (k : ℕ) (placed : Placed) (old new : Inside) (answer : Answer) (before left : List ℕ)
      → Finishes true k placed old answer before left new
      → (result : Completed) × CompletesBy (Executing k placed.index) k placed.index old result before left new
      × (answer ≡ result.answer)
