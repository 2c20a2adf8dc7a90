-- Command capsules for C.
use Rattle.std.specs.Prelude.{◌≡◌, ℕ, ◌==◌, if◌then◌else◌, Option, Some, None}
use Rattle.nvme_wire.specs.declared.status.Status.{Status}
use Rattle.nvme_pdu.specs.declared.fatal.Fatal.{Fatal}
use Rattle.nvme_fabrics.specs.declared.session.Session.{Session}
use Rattle.nvme_fabrics.specs.declared.session.Session.TheVariants as session
use Rattle.nvme_responses.specs.declared.responses.Responses.{Responses}
use Rattle.nvme_responses.specs.Responses.{seen}
use Rattle.nvme_transfers.specs.States.{State as Transfers}
use Rattle.nvme_capsules.specs.declared.capsule.Capsule.{Capsule}
use Rattle.nvme_capsules.specs.declared.destination.Destination.{Destination}
use Rattle.nvme_capsules.specs.declared.destination.Destination.TheVariants as destination
use Rattle.nvme_capsules.specs.declared.outcome.Data.TheVariants as data_of
use Rattle.nvme_capsules.specs.declared.outcome.Outcome.{Outcome}
use Rattle.nvme_capsules.specs.declared.outcome.Outcome.TheVariants as outcome
use Rattle.nvme_capsules.specs.Capsules.{stage_of}
use Rattle.nvme_capsules.specs.Runs.{Comes, State, after, outcome_at}
use Rattle.nvme_tcp_library.specs.declared.answers.LiveSession.{LiveSession}
use Rattle.nvme_tcp_library.specs.declared.capsules.CapsuleTaken.{CapsuleTaken}
use Rattle.nvme_tcp_library.specs.declared.capsules.DestinationSeen.{DestinationSeen}
use Rattle.nvme_tcp_library.specs.declared.sessions.RawSession.{RawSession}
use Rattle.nvme_tcp_library.specs.Sessions.{no_request, request_of, session_of}

abbrev pub no_status : Status
no_status = record { sct = 0; sc = 0 }

-- ---- what becomes of a capsule

abbrev pub ended : ℕ → Fatal → CapsuleTaken
ended what fatal = record {
  what = what;
  field = fatal.field;
  outcome = 0;
  begin = 0;
  length = 0;
  fatal = fatal.status;
  sct = 0;
  sc = 0;
}

abbrev pub no_capsule : CapsuleTaken
no_capsule = ended 16 (record { status = 0; field = 0 })

abbrev pub at : ℕ → ℕ → ℕ → Status → CapsuleTaken
at outcome begin bytes status = record (ended 0 (record { status = 0; field = 0 })) {
  outcome = outcome;
  begin = begin;
  length = bytes;
  sct = status.sct;
  sc = status.sc;
}

abbrev pub outcome_seen : Outcome → CapsuleTaken
outcome_seen (outcome.Breaks fatal) = ended 40 fatal
outcome_seen (outcome.Refused status) = at 1 0 0 status
outcome_seen (outcome.Waits bytes) = at 2 0 bytes no_status
outcome_seen (outcome.Ready (data_of.InCapsule begin bytes)) = at 3 begin bytes no_status
outcome_seen (outcome.Ready (data_of.FromController bytes)) = at 4 0 bytes no_status

-- the commands of a connection
abbrev pub commands : Responses → Transfers → State
commands r t = record { responses = seen r; transfers = t }

-- If none are open, nothing happens.
abbrev pub Takes : RawSession → Capsule → Responses → Option Transfers → CapsuleTaken → Responses → Option Transfers
    → Type 0
Takes s c old None result new t = (result ≡ no_capsule) × (new ≡ old) × (t ≡ None)
Takes s c old (Some x) result new t =
    (result ≡ outcome_seen (outcome_at (commands old x) (stage_of (session_of s)) c))
    × (seen new ≡ (after (commands old x) (Comes (stage_of (session_of s)) c)).responses)
    × (t ≡ Some (after (commands old x) (Comes (stage_of (session_of s)) c)).transfers)

-- ---- destinations

-- a session of another kind has ended
abbrev pub live_of : LiveSession → Session
live_of s =
    if s.kind == 0 then session.NotConnected
    else (if s.kind == 1 then session.Authenticating (request_of no_request) s.index
    else (if s.kind == 2 then session.Queue s.index s.qid
    else (if s.kind == 3 then session.Discovery else session.Ended)))

abbrev pub destination_at : ℕ → ℕ → ℕ → Status → DestinationSeen
destination_at kind index qid status =
    record { kind = kind; index = index; qid = qid; sct = status.sct; sc = status.sc }

abbrev pub destination_seen : Destination → DestinationSeen
destination_seen destination.Fabrics = destination_at 0 0 0 no_status
destination_seen destination.Discovery = destination_at 1 0 0 no_status
destination_seen (destination.Admin index) = destination_at 2 index 0 no_status
destination_seen (destination.Io index qid) = destination_at 3 index qid no_status
destination_seen (destination.Refused status) = destination_at 4 0 0 status
