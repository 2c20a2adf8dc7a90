-- Worked examples of `examples.rt`.
use Rattle.std.specs.Prelude.{ℕ, false, List, [], ◌∷◌, map, Option, replicate}
use Rattle.nvme_pdu.specs.declared.fatal.Fatal.{Fatal}
use Rattle.nvme_connection.specs.declared.taken.Taken.{Taken as Bytes}
use Rattle.nvme_responses.specs.declared.reply.Response.{Response}
use Rattle.nvme_tcp_library.specs.declared.answers.FabricsAnswer.{FabricsAnswer}
use Rattle.nvme_tcp_library.specs.declared.answers.LiveSession.{LiveSession}
use Rattle.nvme_tcp_library.specs.declared.capsules.CapsuleTaken.{CapsuleTaken}
use Rattle.nvme_tcp_library.specs.declared.opening.HostId.{HostId}
use Rattle.nvme_tcp_library.specs.declared.pdus.LayoutSeen.{LayoutSeen}
use Rattle.nvme_tcp_library.specs.declared.responses.RawReply.{RawReply}
use Rattle.nvme_tcp_library.specs.declared.sessions.RawRequest.{RawRequest}
use Rattle.nvme_tcp_library.specs.declared.sessions.RawSession.{RawSession}
use Rattle.nvme_tcp_library.specs.Sessions.{no_request, session_with}

-- a struct of C with this kind
abbrev pub of_kind : ℕ → RawSession
of_kind kind = session_with 7 no_request kind 3 2

-- four bytes, of which two are data
abbrev pub four : Option Fatal → Bytes
four breach = record { count = 4; data_begin = 1; data_end = 3; data_offset = 8; breach = breach }

-- an Unrecovered Read Error
abbrev pub failed : RawReply
failed = record { dw0 = 3; dw1 = 4; cid = 7; sct = 2; sc = 129 }

-- the first response of a queue to it, with another status
abbrev pub response : Response
response = record { dw0 = 3; dw1 = 4; sqhd = 1; cid = 7; status = 32768 }

abbrev pub asked : RawRequest
asked = record {
  host_low = 1;
  host_high = 2;
  host_nqn = replicate 256 0;
  cntlid = 65535;
  qid = 0;
  entries = 32;
}

abbrev pub host : HostId
host = record { low = 1; high = 2 }

-- a live session of this kind
abbrev pub live : ℕ → LiveSession
live kind = record { what = 0; kind = kind; index = 3; qid = 2 }

-- the request of a session that asks for none
abbrev pub nothing_asked : RawRequest
nothing_asked = record {
  host_low = 0;
  host_high = 0;
  host_nqn = replicate 256 0;
  cntlid = 0;
  qid = 0;
  entries = 0;
}

-- the hosts 1 to 16
abbrev pub sixteen_hosts : List HostId
sixteen_hosts = map (λ n. record { low = n; high = 0 }) (1 ∷ 2 ∷ 3 ∷ 4 ∷ 5 ∷ 6 ∷ 7 ∷ 8 ∷ 9 ∷ 10 ∷ 11 ∷ 12 ∷ 13 ∷ 14 ∷ 15
    ∷ 16 ∷ [])

abbrev pub succeeded : FabricsAnswer
succeeded = record { what = 0; dw0 = 0; sct = 0; sc = 0 }

-- a capsule without a fault or a status
abbrev pub capsule_seen : ℕ → ℕ → ℕ → ℕ → CapsuleTaken
capsule_seen what outcome begin bytes = record {
  what = what;
  field = 0;
  outcome = outcome;
  begin = begin;
  length = bytes;
  fatal = 0;
  sct = 0;
  sc = 0;
}

-- no layout, with the code, field and status of the reason
abbrev pub without_layout : ℕ → ℕ → ℕ → LayoutSeen
without_layout what field status = record {
  what = what;
  field = field;
  length = 0;
  data_offset = 0;
  data_length = 0;
  status = status;
  kind = 0;
  header = 0;
  is_last = false;
  header_digest = false;
  data_digest = false;
}
