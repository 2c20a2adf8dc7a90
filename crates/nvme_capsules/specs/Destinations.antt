-- The destination of a command that has its data (NVM Express Base Specification 2.0, Command Processing, Fabrics
-- Command Set).
use Rattle.std.specs.Prelude.{ℕ, Bool, ◌==◌, if◌then◌else◌, List}
use Rattle.nvme_fabrics.specs.declared.session.Session.{Session}
use Rattle.nvme_fabrics.specs.declared.session.Session.TheVariants as session
use Rattle.nvme_capsules.specs.declared.destination.Destination.{Destination}
use Rattle.nvme_capsules.specs.declared.destination.Destination.TheVariants as destination_of
use Rattle.nvme_capsules.specs.DataPlaces.{is_fabrics}
use Rattle.nvme_capsules.specs.Statuses.{command_sequence_error, authentication_required}

-- the Admin Queue, or an I/O queue
abbrev pub queue_of : ℕ → ℕ → Destination
queue_of index qid = if qid == 0 then destination_of.Admin index else destination_of.Io index qid

-- of a command that is none of Fabrics
abbrev pub within : Session → Bool → Destination
within session.NotConnected has_queue = destination_of.Refused command_sequence_error
within (session.Authenticating r index) has_queue = destination_of.Refused authentication_required
within (session.Queue index qid) has_queue =
    if has_queue then queue_of index qid else destination_of.Refused command_sequence_error
within session.Discovery has_queue = destination_of.Discovery
within session.Ended has_queue = destination_of.Refused command_sequence_error

abbrev pub destination : Session → List ℕ → Bool → Destination
destination live e has_queue = if is_fabrics e then destination_of.Fabrics else within live has_queue
