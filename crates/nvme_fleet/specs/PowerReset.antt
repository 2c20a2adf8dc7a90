-- A subsystem after a power cycle, and the resets of drivers after it, for the contracts of `power.rt`.
use Rattle.std.specs.Prelude.{◌≡◌, ℕ, Some}
use Rattle.nvme_machine.specs.Controllers.{Controller, power_cycled}
use Rattle.nvme_machine.specs.Subsystems.{Subsystem, controller_at}

-- no controller was enabled since power returned
abbrev pub AreCycled : Subsystem → Type 0
AreCycled s = (k : ℕ) → (c : Controller) → controller_at s k ≡ Some c → c ≡ power_cycled c
