-- Answers about associations for C.
use Rattle.std.specs.Prelude.{ℕ, Bool, List, Option, Some, None, Result, Ok, Err, slice_get}
use Rattle.nvme_fabrics.specs.declared.answer.Answer.{Answer}
use Rattle.nvme_fabrics.specs.declared.command.Command.{Command}
use Rattle.nvme_fabrics.specs.declared.command.Command.TheVariants as command
use Rattle.nvme_fabrics.specs.declared.fabrics.Fabrics.{Fabrics}
use Rattle.nvme_fabrics.specs.declared.request.Request.{Request}
use Rattle.nvme_fabrics.specs.declared.session.Place.{Place}
use Rattle.nvme_fabrics.specs.declared.session.Place.TheVariants as place
use Rattle.nvme_fabrics.specs.declared.session.Session.{Session}
use Rattle.nvme_fabrics.specs.declared.session.Session.TheVariants as session
use Rattle.nvme_fabrics.specs.Places.{fits_at}
use Rattle.nvme_fabrics.specs.Sessions.{admitted, connection_of, live}
use Rattle.nvme_tcp_library.specs.declared.answers.FabricsAnswer.{FabricsAnswer}
use Rattle.nvme_tcp_library.specs.declared.answers.Admitted.{Admitted}
use Rattle.nvme_tcp_library.specs.declared.answers.Executed.{Executed}
use Rattle.nvme_tcp_library.specs.declared.answers.LiveSession.{LiveSession}
use Rattle.nvme_tcp_library.specs.declared.answers.QueueConnection.{QueueConnection}
use Rattle.nvme_tcp_library.specs.declared.sessions.RawJudged.{RawJudged}
use Rattle.nvme_tcp_library.specs.declared.sessions.RawRequest.{RawRequest}
use Rattle.nvme_tcp_library.specs.declared.sessions.RawSession.{RawSession}
use Rattle.nvme_tcp_library.specs.Sessions.{judged_of, no_request, request_of, request_seen, session_of}

abbrev pub closed : FabricsAnswer
closed = record { what = 16; dw0 = 0; sct = 0; sc = 0 }

abbrev pub success : FabricsAnswer
success = record { what = 0; dw0 = 0; sct = 0; sc = 0 }

abbrev pub answer_seen : Answer → FabricsAnswer
answer_seen a = record { what = 0; dw0 = a.dw0; sct = a.status.sct; sc = a.status.sc }

-- that of the first rule that is broken
abbrev pub rules_seen : Result (Unit {0}) Answer → FabricsAnswer
rules_seen (Ok u) = success
rules_seen (Err a) = answer_seen a

-- ---- Connect

abbrev pub not_admitted : FabricsAnswer → Admitted
not_admitted a = record { request = no_request; answer = a; place = 0; index = 0 }

abbrev pub admitted_to : Request → Place → Admitted
admitted_to r (place.Controller index) =
    record { request = request_seen r; answer = success; place = 1; index = index }
admitted_to r place.Discovery = record { request = request_seen r; answer = success; place = 2; index = 0 }

abbrev pub admitted_seen : Result (Request × Place) Answer → Admitted
admitted_seen (Ok p) = admitted_to p.0 p.1
admitted_seen (Err a) = not_admitted (answer_seen a)

abbrev pub admitted_by : RawSession → List ℕ → List ℕ → RawJudged → Option Fabrics → Admitted
admitted_by s e d j None = not_admitted closed
admitted_by s e d j (Some f) = admitted_seen (admitted f (session_of s) e d (judged_of j))

abbrev pub admits_by : ℕ → RawRequest → Bool → Option Fabrics → FabricsAnswer
admits_by index r is_enabled None = closed
admits_by index r is_enabled (Some f) =
    rules_seen (fits_at (slice_get f.controllers index) (request_of r) is_enabled)

-- ---- other commands

abbrev pub not_executed : FabricsAnswer → Executed
not_executed a = record { answer = a; command = 0 }

abbrev pub executed_seen : Result Command Answer → Executed
executed_seen (Ok command.Authenticate) = record { answer = success; command = 1 }
executed_seen (Ok command.Disconnect) = record { answer = success; command = 2 }
executed_seen (Ok command.GetProperty) = record { answer = success; command = 3 }
executed_seen (Ok command.SetProperty) = record { answer = success; command = 4 }
executed_seen (Err a) = not_executed (answer_seen a)

-- ---- what connections are

abbrev pub not_live : LiveSession
not_live = record { what = 16; kind = 0; index = 0; qid = 0 }

abbrev pub live_seen : Session → LiveSession
live_seen session.NotConnected = record { what = 0; kind = 0; index = 0; qid = 0 }
live_seen (session.Authenticating r index) = record { what = 0; kind = 1; index = index; qid = 0 }
live_seen (session.Queue index qid) = record { what = 0; kind = 2; index = index; qid = qid }
live_seen session.Discovery = record { what = 0; kind = 3; index = 0; qid = 0 }
live_seen session.Ended = record { what = 0; kind = 4; index = 0; qid = 0 }

abbrev pub live_by : RawSession → Option Fabrics → LiveSession
live_by s None = not_live
live_by s (Some f) = live_seen (live f (session_of s) s.connection)

abbrev pub without_connection : ℕ → QueueConnection
without_connection what = record { connection = 0; what = what }

abbrev pub connection_seen : Option ℕ → QueueConnection
connection_seen None = without_connection 28
connection_seen (Some k) = record { connection = k; what = 0 }

abbrev pub connection_by : ℕ → ℕ → Option Fabrics → QueueConnection
connection_by index qid None = without_connection 16
connection_by index qid (Some f) = connection_seen (connection_of f index qid)
