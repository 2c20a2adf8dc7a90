-- The events of a command at its destination: those of the controller whose queue its connection is (NVM Express Base
-- Specification 2.0, Command Processing).
use Rattle.std.specs.Prelude.{ℕ, Bool, List, Option}
use Rattle.nvme_spec.specs.World.{World as Access}
use Rattle.nvme_machine.specs.declared.event.Event.{Event}
use Rattle.nvme_fabrics.specs.Runs.{Input, world_after}
use Rattle.nvme_fabrics.specs.Sessions.{live}
use Rattle.nvme_capsules.specs.declared.destination.Destination.{Destination}
use Rattle.nvme_capsules.specs.declared.destination.Destination.TheVariants as destination_of
use Rattle.nvme_capsules.specs.Destinations.{destination}
use Rattle.nvme_target.specs.Causes.{AreHostsOf, Commands, IsAt, IsOfHost, MayCause}

-- a destination is a queue, and the event is one of its controller
abbrev pub IsOfDestination : Destination → Event → Type 0
IsOfDestination destination_of.Fabrics event = ⊥
IsOfDestination destination_of.Discovery event = ⊥
IsOfDestination (destination_of.Admin index) event = IsAt index event
IsOfDestination (destination_of.Io index qid) event = IsAt index event
IsOfDestination (destination_of.Refused status) event = ⊥

-- the destination of a command of a connection after these inputs
abbrev pub destination_after : List (Option ℕ) → Bool → List Input → ℕ → List ℕ → Bool → Destination
destination_after hosts has_keys inputs k e has_queue =
    destination (live (world_after hosts has_keys inputs).fabrics ((world_after hosts has_keys inputs).sessions k) k) e
    has_queue

-- What happens at the destination of a command, its connection may cause.
abbrev pub DestinationsMayCause : Type 0
DestinationsMayCause =
    (hosts : List (Option ℕ)) → (has_keys : Bool) → (inputs : List Input) → (k : ℕ) → (e : List ℕ)
    → (has_queue : Bool) → (event : Event)
    → IsOfDestination (destination_after hosts has_keys inputs k e has_queue) event
    → MayCause hosts has_keys inputs (Commands k) event

-- So it is of the controller of a host that this connection has named.
abbrev pub DestinationsAreOfNamedHosts : Type 0
DestinationsAreOfNamedHosts =
    (hosts : List (Option ℕ)) → (has_keys : Bool) → (inputs : List Input) → (k : ℕ) → (e : List ℕ)
    → (has_queue : Bool) → (event : Event) → (w : Access) → AreHostsOf hosts w
    → IsOfDestination (destination_after hosts has_keys inputs k e has_queue) event
    → IsOfHost has_keys inputs (Commands k) w event
