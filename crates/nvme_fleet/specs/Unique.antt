-- Statements of the law `layers_are_determined`: the effect of a list of events on both layers is determined, except
-- for faults of the medium: the subsystem with every controller, its registers, queues and memory, and every driver.
use Rattle.std.specs.Prelude.{◌≡◌, ◌<◌, ◌≤◌, ◌+◌, ◌-◌, ◌^◌, nat_lt, ℕ, Bool, true, if◌then◌else◌, List, Some, slice_get}
use Rattle.nvme_spec.specs.Blocks.{Device}
use Rattle.nvme_spec.specs.Configuration.{Configuration}
use Rattle.nvme_driver.specs.Drivers.{Driver}
use Rattle.nvme_driver.specs.Once.{borne}
use Rattle.nvme_event.specs.declared.event.FleetEvent.{FleetEvent}
use Rattle.nvme_event.specs.Replies.{Reply}
use Rattle.nvme_fleet.specs.FleetStates.{Layers, opening_layers}
use Rattle.nvme_fleet.specs.Layers.{Run}

-- a ticket is in at most one slot of a driver, and one that is still to be issued is in none
abbrev pub HasTicketsOnce : Driver → Type 0
HasTicketsOnce d = (t : ℕ) → borne t d.slots + (if nat_lt t d.next then 0 else 1) ≤ 1

abbrev pub HaveTicketsOnce : Layers → Type 0
HaveTicketsOnce l = (i : ℕ) → (d : Driver) → slice_get l.drivers i ≡ Some (Some d) → HasTicketsOnce d

-- So it is at each opening, and in every run.
abbrev pub OpeningHasTicketsOnce : Type 0
OpeningHasTicketsOnce = (c : Configuration) → (d : Device) → HaveTicketsOnce (opening_layers c d)

abbrev pub TicketsStayOnce : Type 0
TicketsStayOnce =
    (tells : Bool) → (old new : Layers) → (events : List FleetEvent) → (replies : List Reply)
    → Run tells old events replies new → HaveTicketsOnce old → HaveTicketsOnce new

-- A list of events has at most one run of both layers without a fault: replies and last state are the same.
abbrev pub LayersRunIsUnique : Type 0
LayersRunIsUnique =
    (old new other : Layers) → (events : List FleetEvent) → (replies others : List Reply) → HaveTicketsOnce old
    → Run true old events replies new → Run true old events others other
    → new.subsystem.device.failures ≡ old.subsystem.device.failures
    → other.subsystem.device.failures ≡ old.subsystem.device.failures
    → old.subsystem.device.failures < 2 ^ 64 - 1
    → (others ≡ replies) × (other ≡ new)
