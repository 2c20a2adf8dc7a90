-- What connections are, and how Connect, authentication and the end of a connection change that (NVM Express Base
-- Specification 2.0, Connect Command, Association, In-band Authentication).
use Rattle.std.specs.Prelude.{
  ℕ,
  ◌+◌,
  ◌%◌,
  Bool,
  false,
  ◌&&◌,
  ◌==◌,
  nat_le,
  if◌then◌else◌,
  List,
  map,
  slice_get,
  Option,
  Some,
  None,
  Result,
  Ok,
  Err,
}
use Rattle.std.specs.List.{slice_set}
use Rattle.nvme_wire.specs.declared.status.Status.{Status}
use Rattle.nvme_fabrics.specs.declared.answer.Answer.{Answer}
use Rattle.nvme_fabrics.specs.declared.request.Request.{Request}
use Rattle.nvme_fabrics.specs.declared.association.Association.{Association}
use Rattle.nvme_fabrics.specs.declared.association.Controller.{Controller}
use Rattle.nvme_fabrics.specs.declared.fabrics.Fabrics.{Fabrics}
use Rattle.nvme_fabrics.specs.declared.session.Judged.{Judged}
use Rattle.nvme_fabrics.specs.declared.session.Place.{Place}
use Rattle.nvme_fabrics.specs.declared.session.Place.TheVariants as place
use Rattle.nvme_fabrics.specs.declared.session.Session.{Session}
use Rattle.nvme_fabrics.specs.declared.session.Session.TheVariants as session
use Rattle.nvme_fabrics.specs.Answers.{answer, success, with_cntlid, command_sequence, in_entry, rule}
use Rattle.nvme_fabrics.specs.Requests.{request_of}
use Rattle.nvme_fabrics.specs.Associations.{
  connection_at,
  with_queue,
  with_connection,
  without_io_queues,
  without_association,
}
use Rattle.nvme_fabrics.specs.Places.{place_of, fits_at}

abbrev pub no_association : Option ℕ → Controller
no_association host = record { host = host; association = None }

abbrev pub no_associations : List (Option ℕ) → Bool → Fabrics
no_associations hosts has_keys = record { has_keys = has_keys; controllers = map no_association hosts }

-- the connection of a queue of the controller at a place
abbrev pub connection_in : Option Association → ℕ → Option ℕ
connection_in None qid = None
connection_in (Some a) qid = connection_at a qid

abbrev pub connection_on : Option Controller → ℕ → Option ℕ
connection_on None qid = None
connection_on (Some c) qid = connection_in c.association qid

abbrev pub connection_of : Fabrics → ℕ → ℕ → Option ℕ
connection_of f index qid = connection_on (slice_get f.controllers index) qid

abbrev pub is_connection : ℕ → Option ℕ → Bool
is_connection k None = false
is_connection k (Some other) = other == k

-- what a connection is now: a queue only as long as its association names it
abbrev pub live : Fabrics → Session → ℕ → Session
live f (session.Queue index qid) k =
    if is_connection k (connection_of f index qid) then session.Queue index qid else session.Ended
live f session.NotConnected k = session.NotConnected
live f (session.Authenticating r index) k = session.Authenticating r index
live f session.Discovery k = session.Discovery
live f session.Ended k = session.Ended

-- what a command leaves, and its answer
pub record Outcome : Type 0 where
  pub fabrics : Fabrics
  pub session : Session
  pub answer : Answer

-- a controller changes
abbrev pub changed_in : Fabrics → ℕ → (Controller → Controller) → Option Controller → Fabrics
changed_in f index change None = f
changed_in f index change (Some c) = record f { controllers = slice_set f.controllers index (change c) }

abbrev pub changed : Fabrics → ℕ → (Controller → Controller) → Fabrics
changed f index change = changed_in f index change (slice_get f.controllers index)

-- the status of the creation of I/O queues as an answer to Connect
abbrev pub is_successful : Status → Bool
is_successful s = (s.sct == 0) && (s.sc == 0)

abbrev pub creation_answer : Status → Answer
creation_answer s =
    if (s.sct == 1) && (s.sc == 1) then in_entry 42
    else (if (s.sct == 1) && (s.sc == 2) then in_entry 44 else answer s.sct s.sc)

-- the Admin Queue needs none, and the last I/O queue is 4
abbrev pub creation : Request → Status → Result (Unit {0}) Answer
creation r created =
    if r.qid == 0 then Ok tt
    else (if is_successful created then rule (in_entry 42) (nat_le r.qid 4) else Err (creation_answer created))

abbrev pub with_queue_at : Fabrics → ℕ → Request → ℕ → Fabrics
with_queue_at f index r k = changed f index (λ c. with_queue c r k)

-- A request that fits gets its queue, unless its I/O queues were not created: then the connection is what `refused`
-- says.
abbrev pub entered : Fabrics → ℕ → Request → ℕ → Session → Answer → Result (Unit {0}) Answer → Outcome
entered f k r index refused granted (Ok u) =
    record { fabrics = with_queue_at f index r k; session = session.Queue index r.qid; answer = granted }
entered f k r index refused granted (Err a) = record { fabrics = f; session = refused; answer = a }

-- AUTHREQ.ATR: the host must authenticate itself
abbrev pub authreq_atr : ℕ
authreq_atr = 0x20000

-- CNTLID of a discovery controller
abbrev pub discovery_cntlid : ℕ → ℕ
discovery_cntlid k = k % 0xffef + 1

abbrev pub placed_by : Request → Result Place Answer → Result (Request × Place) Answer
placed_by r (Ok p) = Ok (r, p)
placed_by r (Err a) = Err a

abbrev pub placed : Fabrics → Judged → Result Request Answer → Result (Request × Place) Answer
placed f j (Ok r) = placed_by r (place_of f.controllers r j)
placed f j (Err a) = Err a

-- what a Connect of a connection that has not connected asks for, and what it connects to; or the answer of the first
-- rule that is broken
abbrev pub admitted : Fabrics → Session → List ℕ → List ℕ → Judged → Result (Request × Place) Answer
admitted f session.NotConnected e d j = placed f j (request_of e d j.is_whole)
admitted f (session.Authenticating r index) e d j = Err command_sequence
admitted f (session.Queue index qid) e d j = Err command_sequence
admitted f session.Discovery e d j = Err command_sequence
admitted f session.Ended e d j = Err command_sequence

-- Connect, after which a host has to authenticate itself if hosts have keys
abbrev pub put : Fabrics → ℕ → Status → Request → Place → Outcome
put f k created r place.Discovery =
    record { fabrics = f; session = session.Discovery; answer = with_cntlid (discovery_cntlid k) }
put f k created r (place.Controller index) =
    if f.has_keys
    then record {
      fabrics = f;
      session = session.Authenticating r index;
      answer = with_cntlid (index + 1 + authreq_atr);
    }
    else entered f k r index session.NotConnected (with_cntlid (index + 1)) (creation r created)

abbrev pub answered : Fabrics → Session → ℕ → Status → Result (Request × Place) Answer → Outcome
answered f s k created (Ok p) = put f k created p.0 p.1
answered f s k created (Err a) = record { fabrics = f; session = s; answer = a }

abbrev pub connect : Fabrics → Session → ℕ → List ℕ → List ℕ → Judged → Outcome
connect f s k e d j = answered f s k j.created (admitted f s e d j)

-- The host of a connection has authenticated itself: the rules are checked again.
abbrev pub authenticated_if : Fabrics → ℕ → Request → ℕ → Status → Result (Unit {0}) Answer → Outcome
authenticated_if f k r index created (Ok u) = entered f k r index session.Ended success (creation r created)
authenticated_if f k r index created (Err a) = record { fabrics = f; session = session.Ended; answer = a }

abbrev pub authenticated : Fabrics → Session → ℕ → Bool → Status → Outcome
authenticated f (session.Authenticating r index) k is_enabled created =
    authenticated_if f k r index created (fits_at (slice_get f.controllers index) r is_enabled)
authenticated f session.NotConnected k is_enabled created =
    record { fabrics = f; session = session.NotConnected; answer = success }
authenticated f (session.Queue index qid) k is_enabled created =
    record { fabrics = f; session = session.Queue index qid; answer = success }
authenticated f session.Discovery k is_enabled created =
    record { fabrics = f; session = session.Discovery; answer = success }
authenticated f session.Ended k is_enabled created =
    record { fabrics = f; session = session.Ended; answer = success }

abbrev pub ended_session : Session
ended_session = session.Ended

abbrev pub without_queue_at : Fabrics → ℕ → ℕ → Fabrics
without_queue_at f index qid = changed f index (λ c. with_connection c qid None)

abbrev pub without_io_queues_at : Fabrics → ℕ → Fabrics
without_io_queues_at f index = changed f index without_io_queues

-- an association ends: Keep Alive Timer expires, its host has no key any more, or power is lost
abbrev pub ended : Fabrics → ℕ → Fabrics
ended f index = changed f index without_association

-- a queue ends, and with the Admin Queue the association
abbrev pub without : Fabrics → Session → Fabrics
without f (session.Queue index qid) = if qid == 0 then ended f index else without_queue_at f index qid
without f session.NotConnected = f
without f (session.Authenticating r index) = f
without f session.Discovery = f
without f session.Ended = f

-- a connection ends
abbrev pub closed : Fabrics → Session → ℕ → Fabrics
closed f s k = without f (live f s k)
