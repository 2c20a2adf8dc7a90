-- The events of a fleet that the premises of its laws are about, defined a second time in other words, as for a
-- subsystem.
use Rattle.std.specs.Prelude.{◌≡◌, ◌≢◌, ◌⊎◌, ◌↔◌, ◌∷◌, [], ℕ, Bool, true, List, Some}
use Rattle.nvme_spec.specs.declared.command.Command.{Command}
use Rattle.nvme_spec.specs.declared.command.Command.TheVariants.{ReservationRegister}
use Rattle.nvme_spec.specs.Layout.{reservation_of}
use Rattle.nvme_spec.specs.World.{host_of}
use Rattle.nvme_machine.specs.Fencing.{IsFleeting}
use Rattle.nvme_event.specs.declared.event.FleetEvent.{FleetEvent}
use Rattle.nvme_event.specs.declared.event.FleetEvent.TheVariants.{Execute, PowerCycle}
use Rattle.nvme_event.specs.Events.{OfItsHost, concerns, controller_of}
use Rattle.nvme_mailbox.specs.Fencing.{Allows, Forgets, IsAllowedAt}
use Rattle.nvme_mailbox.specs.Fleets.{Fleet}
use Rattle.nvme_mailbox.specs.Preempting.{Registers}

-- An event allows one of these commands exactly if it executes one that all rules let pass.
pub record AllowsByExecution (commands : List Command) (f : Fleet) (event : FleetEvent) (n : ℕ) : Type 0 where
  pub cntlid : ℕ
  pub index : ℕ
  pub is : event ≡ Execute cntlid index
  pub allowed : IsAllowedAt commands f cntlid index n

abbrev pub AllowsIsExecution : Type 0
AllowsIsExecution =
    (commands : List Command) → (f : Fleet) → (event : FleetEvent) → (n : ℕ)
    → Allows commands f event n ↔ AllowsByExecution commands f event n

-- An event forgets a reservation exactly if it is a power cycle and the reservation does not persist.
abbrev pub ForgetsIsPowerCycle : Type 0
ForgetsIsPowerCycle =
    (f : Fleet) → (event : FleetEvent) → (n : ℕ)
    → Forgets f event n ↔ ((event ≡ PowerCycle) × IsFleeting (reservation_of f.site.world n))

-- An event registers a host exactly if one of its controllers executes a Reservation Register that all rules let pass.
pub record RegistersByExecution (n host : ℕ) (f : Fleet) (event : FleetEvent) : Type 0 where
  pub cntlid : ℕ
  pub index : ℕ
  pub is : event ≡ Execute cntlid index
  pub own : host_of f.site.world cntlid ≡ Some host
  pub allowed : IsAllowedAt (ReservationRegister ∷ []) f cntlid index n

abbrev pub RegistersIsExecution : Type 0
RegistersIsExecution =
    (n host : ℕ) → (f : Fleet) → (event : FleetEvent) → Registers n host f event ↔ RegistersByExecution n host f event

-- An event concerns the controller that it names; a power cycle concerns each.
abbrev pub ConcernsItsController : Type 0
ConcernsItsController =
    (event : FleetEvent) → (k : ℕ)
    → ((event ≡ PowerCycle) → concerns event k ≡ true)
    × ((event ≢ PowerCycle) → (concerns event k ≡ true) ↔ (controller_of event ≡ k))

-- A property of an event's host is one of the controller that the event names. It holds for a power cycle.
abbrev pub OfItsHostIsOfIt : Type 0
OfItsHostIsOfIt =
    (holds : ℕ → Bool) → (event : FleetEvent)
    → OfItsHost (λ k. holds k ≡ true) event
    ↔ ((event ≡ PowerCycle) ⊎ ((event ≢ PowerCycle) × (holds (controller_of event) ≡ true)))
