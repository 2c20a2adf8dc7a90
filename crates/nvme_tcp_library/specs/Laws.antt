-- What C holds loses nothing.
use Rattle.std.specs.Prelude.{◌≡◌, ℕ, Bool, List, Option, Result}
use Rattle.nvme_capsules.specs.declared.destination.Destination.{Destination}
use Rattle.nvme_capsules.specs.declared.outcome.Outcome.{Outcome}
use Rattle.nvme_capsules.specs.Destinations.{destination}
use Rattle.nvme_connection.specs.declared.taken.Taken.{Taken as Bytes}
use Rattle.nvme_fabrics.specs.declared.session.Session.{Session}
use Rattle.nvme_pdu.specs.declared.fatal.Fatal.{Fatal}
use Rattle.nvme_transfers.specs.declared.command.Refused.{Refused}
use Rattle.nvme_transfers.specs.declared.command.Request.{Request}
use Rattle.nvme_transfers.specs.declared.part.Taken.{Taken}
use Rattle.nvme_tcp_library.specs.Answers.{live_seen}
use Rattle.nvme_tcp_library.specs.Capsules.{destination_seen, live_of, outcome_seen}
use Rattle.nvme_tcp_library.specs.Connections.{taken_seen}
use Rattle.nvme_tcp_library.specs.Sessions.{session_of, session_seen}
use Rattle.nvme_tcp_library.specs.Transfers.{begun_code, part_seen, request_seen}

-- A session that was written is read back as the same, whatever the number of its connection.
abbrev pub SessionsAreReadBack : Type 0
SessionsAreReadBack = (connection : ℕ) (s : Session) → session_of (session_seen connection s) ≡ s

-- Two takings that look the same to C are the same.
abbrev pub TakingsDiffer : Type 0
TakingsDiffer = (one other : Bytes) → taken_seen one ≡ taken_seen other → one ≡ other

-- Two outcomes of a part, of a command that begins, or of the search for an R2T, that look the same to C are the same.
abbrev pub PartsDiffer : Type 0
PartsDiffer = (one other : Result Taken Fatal) → part_seen one ≡ part_seen other → one ≡ other

abbrev pub RefusalsDiffer : Type 0
RefusalsDiffer = (one other : Result (Unit {0}) Refused) → begun_code one ≡ begun_code other → one ≡ other

abbrev pub RequestsDiffer : Type 0
RequestsDiffer = (one other : Option Request) → request_seen one ≡ request_seen other → one ≡ other

-- Two outcomes of a capsule, or two destinations, that look the same to C are the same.
abbrev pub OutcomesDiffer : Type 0
OutcomesDiffer = (one other : Outcome) → outcome_seen one ≡ outcome_seen other → one ≡ other

abbrev pub DestinationsDiffer : Type 0
DestinationsDiffer = (one other : Destination) → destination_seen one ≡ destination_seen other → one ≡ other

-- What C sees of a session is enough for the destination of its commands.
abbrev pub LiveSessionsServe : Type 0
LiveSessionsServe = (s : Session) (e : List ℕ) (has_queue : Bool)
    → destination (live_of (live_seen s)) e has_queue ≡ destination s e has_queue
