-- The answers to queries of a session's fleet: of its subsystem, and of its drivers.
use Rattle.std.specs.Prelude.{ℕ, List, Option}
use Rattle.std.specs.Option.{option_flatten}
use Rattle.nvme_driver.specs.Drivers.{Driver}
use Rattle.nvme_fleet.specs.FleetStates.{Layers}
use Rattle.nvme_fleet.specs.Layers.{driver_at}
use Rattle.live_text.specs.declared.looking.Looking.{Looking}
use Rattle.live_text.specs.declared.looking.Looking.TheVariants as look
use Rattle.live_views.specs.Looks.{subsystem_text}
use Rattle.live_views.specs.Showing.{driver_text, of_driver}

-- the answer about a host's driver, if it has one
abbrev pub driver_shown : ℕ → ℕ → List (Option Driver) → List ℕ
driver_shown n k drivers = of_driver n (option_flatten (driver_at drivers k)) (driver_text k)

-- the answer to the n-th line, a query of anything but blocks
abbrev pub shown_text : ℕ → Looking → Layers → List ℕ
shown_text n (look.Driver k) l = driver_shown n k l.drivers
shown_text n looking l = subsystem_text n looking l.subsystem
