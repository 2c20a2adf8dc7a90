-- Statements of laws about power cycles: what one removes of a fleet and leaves in the subsystem, and what persists
-- there (Base Specification: Persist Through Power Loss of Reservations; Namespace Write Protection).
use Rattle.std.specs.Prelude.{◌≡◌, ◌≢◌, ℕ, ◌-◌, ◌^◌, ◌<◌, Bool, true, false, List, Some}
use Rattle.std.specs.List.{AllByRecursion}
use Rattle.nvme_spec.specs.declared.access.Protection.TheVariants.{UntilCycle}
use Rattle.nvme_spec.specs.Blocks.{Device}
use Rattle.nvme_spec.specs.Commands.{reserving}
use Rattle.nvme_spec.specs.Layout.{may_write}
use Rattle.nvme_spec.specs.PowerLaws.{protection_at}
use Rattle.nvme_machine.specs.declared.event.Event.TheVariants as event
use Rattle.nvme_machine.specs.Fencing as machine
use Rattle.nvme_machine.specs.PowerCycles.{IsCycled, Persists}
use Rattle.nvme_machine.specs.Secrecy.{DifferIn}
use Rattle.nvme_event.specs.declared.event.FleetEvent.{FleetEvent}
use Rattle.nvme_event.specs.declared.event.FleetEvent.TheVariants.{Execute, PowerCycle}
use Rattle.nvme_event.specs.Events.{OfItsHost}
use Rattle.nvme_event.specs.Replies.{Reply}
use Rattle.nvme_fleet.specs.FleetStates.{Layers, fleet_in}
use Rattle.nvme_fleet.specs.Layers as layers
use Rattle.nvme_mailbox.specs.Fencing.{ReservesNothing}
use Rattle.nvme_fleet.specs.Bytes as bytes
use Rattle.nvme_fleet.specs.Bytes.{is_laid_out, namespace_bytes}
use Rattle.nvme_mailbox.specs.Regular.{IsRegular}
use Rattle.nvme_fleet.specs.Secrecy.{layers_over}
use Rattle.nvme_mailbox.specs.Secrecy.{MayNotRead}
use Rattle.nvme_fleet.specs.Unique.{HaveTicketsOnce}

-- What persists of the subsystem stays, and no controller has a queue or a fetched command.
abbrev pub PowerTakes : Type 0
PowerTakes =
    (tells : Bool) → (old new : Layers) → (reply : Reply) → layers.Step tells old PowerCycle reply new
    → IsCycled old.subsystem new.subsystem

-- no event of both layers executes a reservation command on the namespace that all rules let pass
abbrev pub ReservesNothingBelow : ℕ → Layers → FleetEvent → Type 0
ReservesNothingBelow n l (Execute k i) = machine.Allows reserving l.subsystem (event.Execute k i) n → ⊥
ReservesNothingBelow n l other = Unit {0}

-- The same for the bytes: hosts that may not write the namespace change none of them, and still may not write it.
abbrev pub BytesOutlastPower : Type 0
BytesOutlastPower =
    (old new : Layers) → (events : List FleetEvent) → (replies : List Reply) → (n : ℕ) → is_laid_out old
    → Persists old.subsystem.world n → bytes.RunWhere (ReservesNothingBelow n) old events replies new
    → AllByRecursion (OfItsHost (λ k. may_write old.subsystem.world k n ≡ false)) events
    → (namespace_bytes new n ≡ namespace_bytes old n)
    × ((k : ℕ) → may_write new.subsystem.world k n ≡ may_write old.subsystem.world k n)

-- and of both layers each driver, and each controller with the memory that it shares with its host.
abbrev pub LayersOutlastPower : Type 0
LayersOutlastPower =
    (old new other : Layers) → (medium : Device) → (events : List FleetEvent) → (replies others : List Reply) → (n : ℕ)
    → IsRegular (fleet_in old) → HaveTicketsOnce old
    → DifferIn n old.subsystem.world old.subsystem.device medium → Persists old.subsystem.world n
    → bytes.RunWhere (λ l. ReservesNothing n (fleet_in l)) old events replies new
    → MayNotRead old.subsystem.world n events
    → layers.Run true (layers_over medium old) events others other
    → new.subsystem.device.failures ≡ old.subsystem.device.failures
    → other.subsystem.device.failures ≡ old.subsystem.device.failures
    → old.subsystem.device.failures < 2 ^ 64 - 1
    → (others ≡ replies) × (other ≡ layers_over other.subsystem.device new)
    × DifferIn n new.subsystem.world new.subsystem.device other.subsystem.device

-- Write protection.

-- Protected until power: while power is not lost, no event changes a byte of a namespace that is write protected until
-- then, and none removes the protection.
abbrev pub ProtectedUntilPower : Type 0
ProtectedUntilPower =
    (old new : Layers) → (events : List FleetEvent) → (replies : List Reply) → (n : ℕ) → is_laid_out old
    → protection_at old.subsystem.world n ≡ Some UntilCycle
    → AllByRecursion (λ event. event ≢ PowerCycle) events → layers.Run true old events replies new
    → (namespace_bytes new n ≡ namespace_bytes old n)
    × (protection_at new.subsystem.world n ≡ Some UntilCycle)
