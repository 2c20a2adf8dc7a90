-- The invariant of an open subsystem: its controllers have their whole windows, which contain their queues, and five
-- queues of each kind.
use Rattle.std.specs.Prelude.{◌≡◌, ℕ, length, Option, Some, IfSome}
use Rattle.nvme_machine.specs.Controllers.{Controller}
use Rattle.nvme_machine.specs.Subsystems.{Subsystem, controller_at}
use Rattle.nvme_machine.specs.Windows.{HasItsWindow}
use Rattle.nvme_library.specs.Holding.{Inside}

pub record IsWhole (c : Controller) : Type 0 where
  pub window : HasItsWindow c
  pub submission : length c.submission ≡ 5
  pub completion : length c.completion ≡ 5

abbrev pub AreWhole : Subsystem → Type 0
AreWhole s = (k : ℕ) → (c : Controller) → controller_at s k ≡ Some c → IsWhole c

abbrev pub HoldsWhole : Option Inside → Type 0
HoldsWhole held = IfSome held (λ inside. AreWhole inside.state)
