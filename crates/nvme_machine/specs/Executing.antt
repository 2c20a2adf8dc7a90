-- The execution of a fetched command at its controller, with the access state and the medium, for the contracts of
-- `nvme_ctrl`.
use Rattle.std.specs.Prelude.{◌≡◌, ℕ, Bool, Option, None, Some, slice_get}
use Rattle.nvme_spec.specs.Blocks.{Device}
use Rattle.nvme_spec.specs.World.{World}
use Rattle.nvme_spec.specs.Execution.{Scene}
use Rattle.nvme_machine.specs.declared.fetched.FetchedCommand.{FetchedCommand}
use Rattle.nvme_machine.specs.declared.seen.Executed.{Executed}
use Rattle.nvme_machine.specs.declared.seen.Executed.TheVariants.{Posted, NoSuch, CqFull}
use Rattle.nvme_machine.specs.Controllers.{Controller, QueuePair, queues_of, open_pair}
use Rattle.nvme_machine.specs.CommandExecutions.{CommandExecution, CommandComesTo}
use Rattle.nvme_machine.specs.Subsystems.{after_completion}

-- a controller, and the other state that its commands may change
pub record Setting : Type 0 where
  pub controller : Controller
  pub world : World
  pub device : Device

abbrev pub setting : Controller → World → Device → Setting
setting c w d = record { controller = c; world = w; device = d }

abbrev pub scene_in : Setting → Scene
scene_in s = record { world = s.world; window = s.controller.window; device = s.device }

-- the i-th command has an answer, and the new state is by that answer
pub record Finishes (tells : Bool) (i : ℕ) (t : FetchedCommand) (p : QueuePair) (old : Setting) (executed : Executed)
    (new : Setting) : Type 0 where
  pub execution : CommandExecution
  pub comes_to : CommandComesTo tells (queues_of old.controller) old.controller.cntlid t (scene_in old) execution
  pub gives : executed ≡ Posted execution.outcome
  pub controller : new.controller ≡ after_completion i t p execution old.controller
  pub world : new.world ≡ execution.left.world
  pub device : new.device ≡ execution.left.device

-- if its completion queue is full, nothing changes
abbrev pub FinishesOver : Option QueuePair → Bool → ℕ → FetchedCommand → Setting → Executed → Setting → Type 0
FinishesOver None tells i t old executed new = (executed ≡ CqFull) × (new ≡ old)
FinishesOver (Some p) tells i t old executed new = Finishes tells i t p old executed new

abbrev pub FinishesOne : Option FetchedCommand → Bool → ℕ → Setting → Executed → Setting → Type 0
FinishesOne None tells i old executed new = (executed ≡ NoSuch) × (new ≡ old)
FinishesOne (Some t) tells i old executed new = FinishesOver (open_pair old.controller t) tells i t old executed new

-- a controller executes the i-th of its fetched commands
abbrev pub ExecutesNth : Bool → ℕ → Setting → Executed → Setting → Type 0
ExecutesNth tells i old executed new = FinishesOne (slice_get old.controller.fetched i) tells i old executed new
