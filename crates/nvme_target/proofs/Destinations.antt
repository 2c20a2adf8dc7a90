-- For `events_at_destinations`: a command is for the queue that its connection is.
use Rattle.std.proofs.Common.{ℕ, refl}
use Rattle.nvme_machine.specs.declared.event.Event.{Event}
use Rattle.nvme_fabrics.specs.Runs.{World, world_after}
use Rattle.nvme_fabrics.specs.Sessions.{live}
use Rattle.nvme_capsules.specs.declared.destination.Destination.{Destination}
use Rattle.nvme_capsules.specs.declared.destination.Destination.TheVariants as destination_of
use Rattle.nvme_capsules.proofs.Queues.{IsQueue, is-queue}
use Rattle.nvme_target.specs.Causes.{Commands, IsOfQueue}
use Rattle.nvme_target.specs.Destinations.{
  DestinationsAreOfNamedHosts,
  DestinationsMayCause,
  IsOfDestination,
  destination_after,
}
use Rattle.nvme_target.proofs.Owners.{events_are_of_named_hosts}

own : (w : World) (k : ℕ) (event : Event) (d : Destination) → IsQueue (live w.fabrics (w.sessions k) k) d
    → IsOfDestination d event → IsOfQueue w k event
own w k event destination_of.Fabrics is at = absurd at
own w k event destination_of.Discovery is at = absurd at
own w k event (destination_of.Admin index) is at = record { index = index; qid = 0; is = is; at = at }
own w k event (destination_of.Io index qid) is at = record { index = index; qid = qid; is = is.0; at = at }
own w k event (destination_of.Refused status) is at = absurd at

pub destinations-may-cause : DestinationsMayCause
destinations-may-cause hosts has_keys inputs k e has_queue event at =
    let w = world_after hosts has_keys inputs in
    own w k event (destination_after hosts has_keys inputs k e has_queue)
    (is-queue (live w.fabrics (w.sessions k) k) e has_queue) at

pub destinations-are-of-named-hosts : DestinationsAreOfNamedHosts
destinations-are-of-named-hosts hosts has_keys inputs k e has_queue event w are at =
    events_are_of_named_hosts hosts has_keys inputs (Commands k) event k w are refl
    (destinations-may-cause hosts has_keys inputs k e has_queue event at)
