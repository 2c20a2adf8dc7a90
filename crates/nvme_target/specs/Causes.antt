-- Why an event of the subsystem happens in a target, and of which controller it is then (NVM Express Base Specification
-- 2.0, Connect Command, Association, In-band Authentication).
use Rattle.std.specs.Prelude.{◌≡◌, ◌⊎◌, ◌+◌, ℕ, Bool, false, List, ◌∷◌, Option, Some, None, Ok, slice_get}
use Rattle.nvme_spec.specs.World.{World as Access, host_of}
use Rattle.nvme_machine.specs.declared.event.Event.{Event}
use Rattle.nvme_machine.specs.declared.event.Event.TheVariants.{Write32, Read32, PowerCycle}
use Rattle.nvme_machine.specs.Subsystems.{controller_of}
use Rattle.nvme_fabrics.specs.declared.request.Request.{Request}
use Rattle.nvme_fabrics.specs.declared.session.Judged.{Judged}
use Rattle.nvme_fabrics.specs.declared.session.Place.TheVariants as place
use Rattle.nvme_fabrics.specs.declared.session.Session.TheVariants as session
use Rattle.nvme_fabrics.specs.Associations.{joined}
use Rattle.nvme_fabrics.specs.Laws.{HasNamed, HasBegun}
use Rattle.nvme_fabrics.specs.Places.{fits_at}
use Rattle.nvme_fabrics.specs.Requests.{host_id_of}
use Rattle.nvme_fabrics.specs.Runs.{World, Input, Connects, Authenticates, Executes, Closes, Ends, world_after}
use Rattle.nvme_fabrics.specs.Sessions.{admitted, live}

-- A command of a connection that is a queue; the end of such a connection, which was the last input; a Connect that is
-- admitted, and the end of an authentication, before the connection is a queue; the target itself, which accesses a
-- register of the controller at a place; or the loss of power.
pub data Cause : Type 0 where
  Commands : ℕ → Cause
  Ending : ℕ → Cause
  Connecting : ℕ → List ℕ → List ℕ → Judged → Cause
  Proving : ℕ → Bool → Cause
  Accessing : ℕ → Cause
  LosingPower : Cause

-- the connection that causes an event, if one does
abbrev pub connection_in : Cause → Option ℕ
connection_in (Commands k) = Some k
connection_in (Ending k) = Some k
connection_in (Connecting k e d j) = Some k
connection_in (Proving k is_enabled) = Some k
connection_in (Accessing index) = None
connection_in LosingPower = None

-- an event is one of the controller at a place, whose identifier is one more
abbrev pub IsAt : ℕ → Event → Type 0
IsAt index event = controller_of event ≡ index + 1

-- a connection is a queue, and the event is one of its controller
pub record IsOfQueue (w : World) (k : ℕ) (event : Event) : Type 0 where
  pub index : ℕ
  pub qid : ℕ
  pub is : live w.fabrics (w.sessions k) k ≡ session.Queue index qid
  pub at : IsAt index event

-- an input that ends a connection, or may: the connection has closed, or a Fabrics command
abbrev pub MayEnd : ℕ → Input → Type 0
MayEnd k (Connects other e d j) = ⊥
MayEnd k (Authenticates other is_enabled created) = ⊥
MayEnd k (Executes other e) = other ≡ k
MayEnd k (Closes other) = other ≡ k
MayEnd k (Ends index) = ⊥

-- the connection was a queue before the last input, which may have ended it
pub record WasOfQueue (hosts : List (Option ℕ)) (has_keys : Bool) (inputs : List Input) (k : ℕ) (event : Event)
    : Type 0 where
  pub last : Input
  pub before : List Input
  pub are : inputs ≡ last ∷ before
  pub ends : MayEnd k last
  pub queue : IsOfQueue (world_after hosts has_keys before) k event

-- a Connect is admitted for a controller, without an authentication, and the event is one of that controller
pub record IsOfConnect (has_keys : Bool) (w : World) (k : ℕ) (e d : List ℕ) (j : Judged) (event : Event) : Type 0 where
  pub request : Request
  pub index : ℕ
  pub without_keys : has_keys ≡ false
  pub admits : admitted w.fabrics (w.sessions k) e d j ≡ Ok (request, place.Controller index)
  pub at : IsAt index event

-- a host has authenticated itself, its request is still one that the controller can grant, and the event is one of it
pub record IsOfProof (w : World) (k : ℕ) (is_enabled : Bool) (event : Event) : Type 0 where
  pub request : Request
  pub index : ℕ
  pub waits : w.sessions k ≡ session.Authenticating request index
  pub fits : fits_at (slice_get w.fabrics.controllers index) request is_enabled ≡ Ok tt
  pub at : IsAt index event

-- the target writes or reads a register of the controller at a place
abbrev pub IsAccess : ℕ → Event → Type 0
IsAccess index event =
    ((offset : ℕ) × (value : ℕ) × (event ≡ Write32 (index + 1) offset value))
    ⊎ ((offset : ℕ) × (event ≡ Read32 (index + 1) offset))

-- After these inputs, the newest first, a cause may make an event happen. A target has no other events.
abbrev pub MayCause : List (Option ℕ) → Bool → List Input → Cause → Event → Type 0
MayCause hosts has_keys inputs (Commands k) event = IsOfQueue (world_after hosts has_keys inputs) k event
MayCause hosts has_keys inputs (Ending k) event = WasOfQueue hosts has_keys inputs k event
MayCause hosts has_keys inputs (Connecting k e d j) event =
    IsOfConnect has_keys (world_after hosts has_keys inputs) k e d j event
MayCause hosts has_keys inputs (Proving k is_enabled) event =
    IsOfProof (world_after hosts has_keys inputs) k is_enabled event
MayCause hosts has_keys inputs (Accessing index) event = IsAccess index event
MayCause hosts has_keys inputs LosingPower event = event ≡ PowerCycle

-- A Connect of the connection named this host identifier: this one, or an earlier one. If hosts have keys, the host has
-- authenticated itself since.
abbrev pub NamesHost : Bool → List Input → Cause → ℕ → Type 0
NamesHost has_keys inputs (Commands k) host = HasBegun has_keys inputs k host
NamesHost has_keys inputs (Ending k) host = HasBegun has_keys inputs k host
NamesHost has_keys inputs (Connecting k e d j) host = (has_keys ≡ false) × (host_id_of d ≡ host)
NamesHost has_keys inputs (Proving k is_enabled) host = HasNamed inputs k host
NamesHost has_keys inputs (Accessing index) host = ⊥
NamesHost has_keys inputs LosingPower host = ⊥

-- The hosts of the associations are those of the subsystem's controllers.
abbrev pub AreHostsOf : List (Option ℕ) → Access → Type 0
AreHostsOf hosts w = (index : ℕ) → joined (slice_get hosts index) ≡ host_of w (index + 1)

-- An event is of a controller of this host, which the connection that causes it has named.
pub record IsOfHost (has_keys : Bool) (inputs : List Input) (cause : Cause) (w : Access) (event : Event)
    : Type 0 where
  pub host : ℕ
  pub is : host_of w (controller_of event) ≡ Some host
  pub named : NamesHost has_keys inputs cause host
