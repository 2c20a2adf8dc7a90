-- Laws over any run of inputs: which connections are queues of which controllers (NVM Express Base Specification 2.0,
-- Association, Connect Command, In-band Authentication).
use Rattle.std.specs.Prelude.{
  ◌≡◌,
  ◌⊎◌,
  ℕ,
  Bool,
  true,
  false,
  List,
  [],
  ◌∷◌,
  length,
  Option,
  Some,
  None,
  Ok,
  Err,
  slice_get,
}
use Rattle.nvme_fabrics.specs.declared.association.Controller.{Controller}
use Rattle.nvme_fabrics.specs.declared.fabrics.Fabrics.{Fabrics}
use Rattle.nvme_fabrics.specs.declared.request.Request.{Request}
use Rattle.nvme_fabrics.specs.declared.session.Judged.{Judged}
use Rattle.nvme_fabrics.specs.declared.session.Session.{Session}
use Rattle.nvme_fabrics.specs.declared.session.Session.TheVariants as session
use Rattle.nvme_fabrics.specs.declared.session.Place.TheVariants as place
use Rattle.nvme_fabrics.specs.Answers.{controller_busy}
use Rattle.nvme_fabrics.specs.Associations.{joined}
use Rattle.nvme_fabrics.specs.Requests.{host_id_of}
use Rattle.nvme_fabrics.specs.Places.{is_free, free_controller, fits_at}
use Rattle.nvme_fabrics.specs.Sessions.{connection_of, live, is_successful, connect, admitted}
use Rattle.nvme_fabrics.specs.Runs.{World, Input, Connects, Authenticates, Executes, Closes, Ends, after, world_after}

abbrev pub host_in : Option Controller → Option ℕ
host_in None = None
host_in (Some c) = c.host

-- the host of the controller at a place
abbrev pub host_at : Fabrics → ℕ → Option ℕ
host_at f index = host_in (slice_get f.controllers index)

-- a Connect of this connection names this host identifier
abbrev pub Names : Input → ℕ → ℕ → Type 0
Names (Connects other e d j) k host = (other ≡ k) × (host_id_of d ≡ host)
Names (Authenticates other is_enabled created) k host = ⊥
Names (Executes other e) k host = ⊥
Names (Closes other) k host = ⊥
Names (Ends index) k host = ⊥

-- one of these inputs is such a Connect
abbrev pub HasNamed : List Input → ℕ → ℕ → Type 0
HasNamed [] k host = ⊥
HasNamed (input ∷ before) k host = Names input k host ⊎ HasNamed before k host

-- this input is a Connect of this connection that names the host identifier, if hosts have no keys; or it is the end of
-- the authentication of this connection, after such a Connect
abbrev pub Begins : Bool → Input → List Input → ℕ → ℕ → Type 0
Begins has_keys (Connects other e d j) before k host = (has_keys ≡ false) × ((other ≡ k) × (host_id_of d ≡ host))
Begins has_keys (Authenticates other is_enabled created) before k host = (other ≡ k) × HasNamed before k host
Begins has_keys (Executes other e) before k host = ⊥
Begins has_keys (Closes other) before k host = ⊥
Begins has_keys (Ends index) before k host = ⊥

abbrev pub HasBegun : Bool → List Input → ℕ → ℕ → Type 0
HasBegun has_keys [] k host = ⊥
HasBegun has_keys (input ∷ before) k host = Begins has_keys input before k host ⊎ HasBegun has_keys before k host

-- A connection is a queue of a controller only by a Connect of its own that named the host identifier of the
-- controller's host, and after the host has authenticated itself if hosts have keys.
abbrev pub OwnHost : Type 0
OwnHost = (hosts : List (Option ℕ)) (has_keys : Bool) (run : List Input) (k index qid : ℕ)
    → (world_after hosts has_keys run).sessions k ≡ session.Queue index qid
    → (host : ℕ) × ((host_at (world_after hosts has_keys run).fabrics index ≡ Some host)
    × HasBegun has_keys run k host)

-- A Connect that is admitted for a controller names the host identifier of the controller's host.
abbrev pub AdmittedHost : Type 0
AdmittedHost = (hosts : List (Option ℕ)) (has_keys : Bool) (run : List Input) (k index : ℕ) (e d : List ℕ) (j : Judged)
    (r : Request)
    → admitted (world_after hosts has_keys run).fabrics ((world_after hosts has_keys run).sessions k) e d j
    ≡ Ok (r, place.Controller index)
    → host_at (world_after hosts has_keys run).fabrics index ≡ Some (host_id_of d)

-- A request that a controller can grant when its host has authenticated itself is one of the controller's host, and a
-- Connect of the connection named that host.
abbrev pub ProvedHost : Type 0
ProvedHost = (hosts : List (Option ℕ)) (has_keys : Bool) (run : List Input) (k index : ℕ) (is_enabled : Bool)
    (r : Request)
    → (world_after hosts has_keys run).sessions k ≡ session.Authenticating r index
    → fits_at (slice_get (world_after hosts has_keys run).fabrics.controllers index) r is_enabled ≡ Ok tt
    → (host_at (world_after hosts has_keys run).fabrics index ≡ Some r.host_id) × HasNamed run k r.host_id

-- The hosts of the controllers are those that were given, after any inputs.
abbrev pub GivenHosts : Type 0
GivenHosts = (hosts : List (Option ℕ)) (has_keys : Bool) (run : List Input) (index : ℕ)
    → host_at (world_after hosts has_keys run).fabrics index ≡ joined (slice_get hosts index)

-- A queue's connection is the queue, and nothing else: no connection is two queues, and no queue has two connections.
abbrev pub OneQueue : Type 0
OneQueue = (hosts : List (Option ℕ)) (has_keys : Bool) (run : List Input) (k index qid : ℕ)
    → connection_of (world_after hosts has_keys run).fabrics index qid ≡ Some k
    → (world_after hosts has_keys run).sessions k ≡ session.Queue index qid

-- A connection is live as a queue exactly if the association names it.
abbrev pub IsLive : Type 0
IsLive = (hosts : List (Option ℕ)) (has_keys : Bool) (run : List Input) (k index qid : ℕ)
    → connection_of (world_after hosts has_keys run).fabrics index qid ≡ Some k
    → live (world_after hosts has_keys run).fabrics ((world_after hosts has_keys run).sessions k) k
    ≡ session.Queue index qid

abbrev pub IsNamed : Type 0
IsNamed = (f : Fabrics) (s : Session) (k index qid : ℕ)
    → live f s k ≡ session.Queue index qid → connection_of f index qid ≡ Some k

-- a refused Connect changes nothing
abbrev pub RefusedKeeps : Type 0
RefusedKeeps = (f : Fabrics) (s : Session) (k : ℕ) (e d : List ℕ) (j : Judged)
    → is_successful (connect f s k e d j).answer.status ≡ false
    → ((connect f s k e d j).fabrics ≡ f) × ((connect f s k e d j).session ≡ s)

-- the controller that is chosen for a host is free, and if none is chosen none is
abbrev pub ChosenIsFree : Type 0
ChosenIsFree = (controllers : List Controller) (host index : ℕ) (counts : List ℕ)
    → free_controller controllers host counts ≡ Ok index
    → (c : Controller) × ((slice_get controllers index ≡ Some c) × (is_free host c ≡ true))

abbrev pub NoneIsFree : Type 0
NoneIsFree = (controllers : List Controller) (host index : ℕ) (counts : List ℕ) (c : Controller)
    → length counts ≡ length controllers
    → free_controller controllers host counts ≡ Err controller_busy
    → slice_get controllers index ≡ Some c → is_free host c ≡ false

-- a connection that is a queue stays the queue, or ends
abbrev pub StaysOrEnds : Session → ℕ → ℕ → Type 0
StaysOrEnds s index qid = (s ≡ session.Queue index qid) ⊎ (s ≡ session.Ended)

abbrev pub SameController : Type 0
SameController = (w : World) (input : Input) (k index qid : ℕ)
    → w.sessions k ≡ session.Queue index qid → StaysOrEnds ((after w input).sessions k) index qid

-- what has ended stays so
abbrev pub EndIsFinal : Type 0
EndIsFinal = (w : World) (input : Input) (k : ℕ)
    → w.sessions k ≡ session.Ended → (after w input).sessions k ≡ session.Ended

-- this input is a Connect of a connection that has not connected, or the end of the authentication for a request to
-- this controller
abbrev pub Makes : World → Input → ℕ → ℕ → ℕ → Type 0
Makes w (Connects other e d j) k index qid = (other ≡ k) × (w.sessions k ≡ session.NotConnected)
Makes w (Authenticates other is_enabled created) k index qid =
    (other ≡ k) × ((r : Request) × ((w.sessions k ≡ session.Authenticating r index) × (r.qid ≡ qid)))
Makes w (Executes other e) k index qid = ⊥
Makes w (Closes other) k index qid = ⊥
Makes w (Ends i) k index qid = ⊥

-- nothing else makes a connection a queue
abbrev pub NothingElse : Type 0
NothingElse = (w : World) (input : Input) (k index qid : ℕ)
    → connection_of (after w input).fabrics index qid ≡ Some k
    → (connection_of w.fabrics index qid ≡ Some k) ⊎ Makes w input k index qid

-- the queues of a controller end with its association
abbrev pub EndsTogether : Type 0
EndsTogether = (w : World) (index qid : ℕ) → connection_of (after w (Ends index)).fabrics index qid ≡ None

-- the configuration of hosts never changes
abbrev pub SameHosts : Type 0
SameHosts = (w : World) (input : Input) (index : ℕ)
    → host_at (after w input).fabrics index ≡ host_at w.fabrics index
