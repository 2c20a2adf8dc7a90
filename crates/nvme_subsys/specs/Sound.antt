-- The invariant of a subsystem: its controllers are those of its access state, in order, and commands can be executed.
use Rattle.std.specs.Prelude.{◌≡◌, ◌≤◌, ℕ, List, length, Some, IsSome}
use Rattle.nvme_spec.specs.World.{World, LiesWithin, host_of}
use Rattle.nvme_spec.specs.Execution.{HasKnownRegistrants}
use Rattle.nvme_machine.specs.Controllers.{Controller}
use Rattle.nvme_machine.specs.Subsystems.{numbered}

-- controller k is at place k - 1, and is configured
pub record AreNumbered (w : World) (controllers : List Controller) : Type 0 where
  pub identifier : (k : ℕ) → (c : Controller) → numbered controllers k ≡ Some c → c.cntlid ≡ k
  pub configured : (k : ℕ) → (c : Controller) → numbered controllers k ≡ Some c → IsSome (host_of w k)

pub record IsSound (w : World) (size : ℕ) (controllers : List Controller) : Type 0 where
  pub few : length controllers ≤ 16
  pub numbers : AreNumbered w controllers
  pub within : LiesWithin size w.namespaces
  pub known : HasKnownRegistrants w
