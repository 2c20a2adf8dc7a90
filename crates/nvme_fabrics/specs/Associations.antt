-- Associations, and the rules on a queue that a host asks for (NVM Express Base Specification 2.0, Connect Command,
-- Association).
use Rattle.std.specs.Prelude.{
  ℕ,
  Bool,
  false,
  ◌&&◌,
  ◌==◌,
  nat_le,
  if◌then◌else◌,
  List,
  [],
  ◌∷◌,
  slice_get,
  get_or,
  bytes_eq,
  is_none,
  Option,
  Some,
  None,
  Result,
  Err,
}
use Rattle.std.specs.List.{slice_set}
use Rattle.nvme_fabrics.specs.declared.answer.Answer.{Answer}
use Rattle.nvme_fabrics.specs.declared.request.Request.{Request}
use Rattle.nvme_fabrics.specs.declared.association.Association.{Association}
use Rattle.nvme_fabrics.specs.declared.association.Controller.{Controller}
use Rattle.nvme_fabrics.specs.Answers.{checked, command_sequence, controller_busy, in_data}
use Rattle.nvme_fabrics.specs.Requests.{text_of}

abbrev pub joined : Option (Option ℕ) → Option ℕ
joined None = None
joined (Some x) = x

-- the connection of a queue, of which there are five
abbrev pub connection_at : Association → ℕ → Option ℕ
connection_at a qid = if nat_le qid 4 then joined (slice_get a.queues qid) else None

abbrev pub is_same : ℕ → Option ℕ → Bool
is_same host_id None = false
is_same host_id (Some host) = host == host_id

-- it is a controller of this host
abbrev pub is_of : ℕ → Controller → Bool
is_of host_id c = is_same host_id c.host

abbrev pub is_same_text : List ℕ → List ℕ → Bool
is_same_text a b = bytes_eq (text_of a) (text_of b)

-- An I/O queue is one of the association's host, by HOSTID and HOSTNQN. It is not connected yet, and the Admin Queue
-- is enabled.
abbrev pub io_rules : Association → Request → Bool → List (Answer × Bool)
io_rules a r is_enabled =
    (in_data 0, a.host_id == r.host_id)
    ∷ (in_data 512, is_same_text a.host_nqn r.host_nqn)
    ∷ (command_sequence, is_none (connection_at a r.qid) && is_enabled)
    ∷ []

unfoldable pub io_fits : Association → Request → Bool → Result (Unit {0}) Answer
io_fits a r is_enabled = checked (io_rules a r is_enabled) tt

abbrev pub io_fits_in : Option Association → Request → Bool → Result (Unit {0}) Answer
io_fits_in None r is_enabled = Err (in_data 16)
io_fits_in (Some a) r is_enabled = io_fits a r is_enabled

-- An Admin Queue is one of the controller's host, and begins an association: the controller has none.
abbrev pub admin_rules : Controller → Request → List (Answer × Bool)
admin_rules c r = (in_data 16, is_of r.host_id c) ∷ (controller_busy, is_none c.association) ∷ []

unfoldable pub fits : Controller → Request → Bool → Result (Unit {0}) Answer
fits c r is_enabled =
    if r.qid == 0 then checked (admin_rules c r) tt else io_fits_in c.association r is_enabled

-- the association after a queue has got this connection, or has lost it
abbrev pub with_connection_in : Option Association → ℕ → Option ℕ → Option Association
with_connection_in None qid connection = None
with_connection_in (Some a) qid connection =
    if nat_le qid 4 then Some (record a { queues = slice_set a.queues qid connection }) else Some a

abbrev pub with_connection : Controller → ℕ → Option ℕ → Controller
with_connection c qid connection = record c { association = with_connection_in c.association qid connection }

-- an association of an Admin Queue alone
abbrev pub new_association : Request → ℕ → Association
new_association r connection = record {
  host_id = r.host_id;
  host_nqn = r.host_nqn;
  queues = Some connection ∷ None ∷ None ∷ None ∷ None ∷ [];
}

-- the controller after a connection has become the queue of a request
abbrev pub with_queue : Controller → Request → ℕ → Controller
with_queue c r connection =
    if r.qid == 0 then record c { association = Some (new_association r connection) }
    else with_connection c r.qid (Some connection)

abbrev pub without_io_queues_in : Option Association → Option Association
without_io_queues_in None = None
without_io_queues_in (Some a) =
    Some (record a { queues = get_or a.queues 0 None ∷ None ∷ None ∷ None ∷ None ∷ [] })

abbrev pub without_io_queues : Controller → Controller
without_io_queues c = record c { association = without_io_queues_in c.association }

abbrev pub without_association : Controller → Controller
without_association c = record c { association = None }
