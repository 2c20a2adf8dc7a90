-- Sessions for C: whatever bytes a struct of C has, they are read as one session.
use Rattle.std.specs.Prelude.{ℕ, ◌+◌, ◌*◌, ◌/◌, ◌%◌, ◌^◌, ◌==◌, if◌then◌else◌, replicate}
use Rattle.nvme_fabrics.specs.declared.request.Request.{Request}
use Rattle.nvme_fabrics.specs.declared.session.Judged.{Judged}
use Rattle.nvme_fabrics.specs.declared.session.Session.{Session}
use Rattle.nvme_fabrics.specs.declared.session.Session.TheVariants as session
use Rattle.nvme_fabrics.specs.declared.session.Subsystem.{Subsystem}
use Rattle.nvme_fabrics.specs.declared.session.Subsystem.TheVariants as subsystem
use Rattle.nvme_tcp_library.specs.declared.sessions.RawRequest.{RawRequest}
use Rattle.nvme_tcp_library.specs.declared.sessions.RawSession.{RawSession}
use Rattle.nvme_tcp_library.specs.declared.sessions.RawJudged.{RawJudged}

abbrev pub request_of : RawRequest → Request
request_of r = record {
  host_id = r.host_high * 2 ^ 64 + r.host_low;
  host_nqn = r.host_nqn;
  cntlid = r.cntlid;
  qid = r.qid;
  entries = r.entries;
}

-- and back
abbrev pub request_seen : Request → RawRequest
request_seen r = record {
  host_low = r.host_id % 2 ^ 64;
  host_high = r.host_id / 2 ^ 64;
  host_nqn = r.host_nqn;
  cntlid = r.cntlid;
  qid = r.qid;
  entries = r.entries;
}

abbrev pub no_request : RawRequest
no_request = record {
  host_low = 0;
  host_high = 0;
  host_nqn = replicate 256 0;
  cntlid = 0;
  qid = 0;
  entries = 0;
}

-- a session of another kind has ended
abbrev pub session_of : RawSession → Session
session_of s =
    if s.kind == 0 then session.NotConnected
    else (if s.kind == 1 then session.Authenticating (request_of s.request) s.index
    else (if s.kind == 2 then session.Queue s.index s.qid
    else (if s.kind == 3 then session.Discovery else session.Ended)))

-- and back, with the number of the connection
abbrev pub session_with : ℕ → RawRequest → ℕ → ℕ → ℕ → RawSession
session_with connection request kind index qid =
    record { connection = connection; request = request; kind = kind; index = index; qid = qid }

abbrev pub session_seen : ℕ → Session → RawSession
session_seen connection session.NotConnected = session_with connection no_request 0 0 0
session_seen connection (session.Authenticating r index) = session_with connection (request_seen r) 1 index 0
session_seen connection (session.Queue index qid) = session_with connection no_request 2 index qid
session_seen connection session.Discovery = session_with connection no_request 3 0 0
session_seen connection session.Ended = session_with connection no_request 4 0 0

abbrev pub subsystem_of : ℕ → Subsystem
subsystem_of number =
    if number == 0 then subsystem.Nvm else (if number == 1 then subsystem.Discovery else subsystem.Other)

abbrev pub judged_of : RawJudged → Judged
judged_of j = record {
  subsystem = subsystem_of j.subsystem;
  is_whole = j.is_whole;
  is_known = j.is_known;
  is_allowed = j.is_allowed;
  is_enabled = j.is_enabled;
  created = record { sct = j.created_sct; sc = j.created_sc };
  authenticating = j.authenticating;
}
