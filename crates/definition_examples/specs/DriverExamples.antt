-- For the examples of drivers: a port that counts its calls, requests in slots, and drivers that have them.
use Rattle.std.specs.Prelude.{◌≡◌, ℕ, suc, Bool, true, false, List, [], ◌∷◌, Option, None, Some}
use Rattle.nvme_driver.specs.declared.lane.Lane.TheVariants.{Io}
use Rattle.nvme_driver.specs.declared.slots.Waiting.{Waiting}
use Rattle.nvme_driver.specs.Calls.{Call}
use Rattle.nvme_driver.specs.Drivers.{Driver, after_reset}
use Rattle.nvme_driver.specs.Examples.{up_driver}

-- a port whose state is the number of its calls
abbrev pub counts : ℕ → Call → ℕ → Type 0
counts old call new = new ≡ suc old

-- a request of the I/O lane (queue pair) without data, by its ticket, that waits or was aborted
abbrev pub one_request : ℕ → Bool → Waiting
one_request number is_live = record { ticket = record { 0 = number }; lane = Io; received = 0; live = is_live }

-- a free slot, two requests that were aborted, and one that waits; and a driver with them
abbrev pub aborted_slots : List (Option Waiting)
aborted_slots = None ∷ Some (one_request 8 false) ∷ Some (one_request 7 false) ∷ Some (one_request 6 true) ∷ []

abbrev pub aborted_driver : Driver
aborted_driver = record up_driver { slots = aborted_slots }

-- a driver that is down, and has no slots
abbrev pub bare_driver : Driver
bare_driver = record (after_reset up_driver) { slots = [] }
