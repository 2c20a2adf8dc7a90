-- Statements of a law for both layers: what hosts that may not read a namespace learn of its bytes.
use Rattle.std.specs.Prelude.{◌≡◌, ◌<◌, ◌-◌, ◌^◌, ℕ, true, List}
use Rattle.nvme_spec.specs.Blocks.{Device}
use Rattle.nvme_machine.specs.Secrecy.{DifferIn}
use Rattle.nvme_event.specs.declared.event.FleetEvent.{FleetEvent}
use Rattle.nvme_event.specs.Replies.{Reply}
use Rattle.nvme_fleet.specs.FleetStates.{Layers, fleet_in}
use Rattle.nvme_fleet.specs.Layers as layers
use Rattle.nvme_fleet.specs.Bytes as bytes
use Rattle.nvme_mailbox.specs.Fencing.{LeavesReservation}
use Rattle.nvme_mailbox.specs.Regular.{IsRegular}
use Rattle.nvme_fleet.specs.Unique.{HaveTicketsOnce}
use Rattle.nvme_mailbox.specs.Secrecy.{MayNotRead}

-- both layers of a fleet, over another medium
abbrev pub layers_over : Device → Layers → Layers
layers_over d l = record l { subsystem = record l.subsystem { device = d } }

-- The same for both layers, which a program runs: over either medium the same events have the same replies, and leave
-- the same except for the medium, each driver and each controller with the memory that it shares with its host.
abbrev pub LayersReadTheSame : Type 0
LayersReadTheSame =
    (old new other : Layers) → (medium : Device) → (events : List FleetEvent) → (replies others : List Reply) → (n : ℕ)
    → IsRegular (fleet_in old) → HaveTicketsOnce old
    → DifferIn n old.subsystem.world old.subsystem.device medium
    → bytes.RunWhere (λ l. LeavesReservation n (fleet_in l)) old events replies new
    → MayNotRead old.subsystem.world n events
    → layers.Run true (layers_over medium old) events others other
    → new.subsystem.device.failures ≡ old.subsystem.device.failures
    → other.subsystem.device.failures ≡ old.subsystem.device.failures
    → old.subsystem.device.failures < 2 ^ 64 - 1
    → (others ≡ replies) × (other ≡ layers_over other.subsystem.device new)
    × DifferIn n new.subsystem.world new.subsystem.device other.subsystem.device
