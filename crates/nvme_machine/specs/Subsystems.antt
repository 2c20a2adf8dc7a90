-- The subsystem: the access state, the medium and the controllers; and the effect of an event. An event is one store,
-- one access to a register, one fetch or one execution, of one controller, or a power cycle of them all (Base
-- Specification: NVM Subsystem, Controllers, Persist Through Power Loss).
use Rattle.std.specs.Prelude.{
  ◌≡◌,
  ◌+◌,
  ◌==◌,
  ℕ,
  zero,
  suc,
  Bool,
  false,
  if◌then◌else◌,
  List,
  [],
  ◌∷◌,
  map,
  Option,
  None,
  Some,
  slice_get,
  slice_set,
}
use Rattle.std.specs.List.{list_any}
use Rattle.nvme_spec.specs.declared.config.ControllerConfig.{ControllerConfig}
use Rattle.nvme_spec.specs.declared.outcome.Marks.{Marks}
use Rattle.nvme_spec.specs.Blocks.{Device}
use Rattle.nvme_spec.specs.Configuration.{Configuration}
use Rattle.nvme_spec.specs.World.{World, host_of, opening_world}
use Rattle.nvme_spec.specs.Power.{cycled_world}
use Rattle.nvme_spec.specs.Execution.{Scene}
use Rattle.nvme_machine.specs.declared.event.Event.{Event}
use Rattle.nvme_machine.specs.declared.event.Event.TheVariants.{Store, Write32, Read32, Fetch, Execute, PowerCycle}
use Rattle.nvme_machine.specs.declared.fetched.FetchedCommand.{FetchedCommand}
use Rattle.nvme_machine.specs.declared.seen.Executed.TheVariants.{Posted, NoSuch, CqFull}
use Rattle.nvme_machine.specs.declared.seen.Seen.{Seen}
use Rattle.nvme_machine.specs.declared.seen.Seen.TheVariants.{Executed, Cycled, NoController}
use Rattle.nvme_machine.specs.Controllers.{
  Controller,
  QueuePair,
  Reaction,
  new_controller,
  power_cycled,
  queues_of,
  after_store,
  wrote,
  has_read,
  after_fetch,
  open_pair,
  after_posting,
  after_queue_change,
  with_marks,
}
use Rattle.nvme_machine.specs.CommandExecutions.{CommandExecution, CommandComesTo}

-- Controller k is at place k - 1.
pub record Subsystem : Type 0 where
  pub world : World
  pub device : Device
  pub controllers : List Controller

-- the opening of a configuration over a medium: nobody has registered, and no controller was ever enabled
unfoldable pub opening : Configuration → Device → Subsystem
opening c d = record {
  world = opening_world c;
  device = d;
  controllers = map (λ (k : ControllerConfig). new_controller k.cntlid) c.controllers;
}

-- the k-th of a list, from 1
abbrev pub numbered : List Controller → ℕ → Option Controller
numbered cs zero = None
numbered cs (suc n) = slice_get cs n

abbrev pub replaced : List Controller → ℕ → Controller → List Controller
replaced cs zero c = cs
replaced cs (suc n) c = slice_set cs n c

unfoldable pub controller_at : Subsystem → ℕ → Option Controller
controller_at s k = numbered s.controllers k

unfoldable pub with_controller : Subsystem → ℕ → Controller → Subsystem
with_controller s k c = record s { controllers = replaced s.controllers k c }

-- the controller of an event; a power cycle has none, and no controller has the identifier 0
abbrev pub controller_of : Event → ℕ
controller_of (Store k address bytes) = k
controller_of (Write32 k offset v) = k
controller_of (Read32 k offset) = k
controller_of (Fetch k q) = k
controller_of (Execute k i) = k
controller_of PowerCycle = 0

-- a property of the controller of an event; it holds of a power cycle, which no host causes
abbrev pub OfItsController : (ℕ → Type 0) → Event → Type 0
OfItsController P (Store k address bytes) = P k
OfItsController P (Write32 k offset v) = P k
OfItsController P (Read32 k offset) = P k
OfItsController P (Fetch k q) = P k
OfItsController P (Execute k i) = P k
OfItsController P PowerCycle = Unit {0}

-- A controller reacts, and all else stays; if there is no such controller, nothing changes.
abbrev pub ReactsAs : Option Controller → Subsystem → ℕ → (Controller → Reaction) → Seen → Subsystem → Type 0
ReactsAs None old k f seen new = (seen ≡ NoController) × (new ≡ old)
ReactsAs (Some c) old k f seen new = (seen ≡ (f c).seen) × (new ≡ with_controller old k (f c).controller)

abbrev pub Reacts : Subsystem → ℕ → (Controller → Reaction) → Seen → Subsystem → Type 0
Reacts old k f seen new = ReactsAs (controller_at old k) old k f seen new

-- what an execution of a controller may change
abbrev pub scene_of : Subsystem → Controller → Scene
scene_of s c = record { world = s.world; window = c.window; device = s.device }

-- the host of a controller is one of these
abbrev pub is_host_among : List ℕ → Option ℕ → Bool
is_host_among hosts None = false
is_host_among hosts (Some host) = list_any (λ h. h == host) hosts

-- the controllers from the k-th, after those of the hosts are marked
abbrev pub marked_from : World → Marks → ℕ → List Controller → List Controller
marked_from w m k [] = []
marked_from w m k (c ∷ rest) =
    (if is_host_among m.hosts.items (host_of w k) then with_marks m.nsid c else c) ∷ marked_from w m (k + 1) rest

-- its controller after the i-th command gets this answer: first the data are stored in the window, then the completion
unfoldable pub after_completion : ℕ → FetchedCommand → QueuePair → CommandExecution → Controller → Controller
after_completion i t p a c =
    after_queue_change a.change
    (after_posting i t p a.outcome.status a.outcome.dw0 (record c { window = a.left.window }))

-- the subsystem after that
unfoldable pub after_execution : Subsystem → ℕ → Controller → ℕ → FetchedCommand → QueuePair → CommandExecution
    → Subsystem
after_execution s k c i t p a = record {
  world = a.left.world;
  device = a.left.device;
  controllers = marked_from a.left.world a.outcome.marks 1 (replaced s.controllers k (after_completion i t p a c));
}

-- A command is executed: it has this answer, and the new state is by the answer.
pub record Completes (tells : Bool) (old : Subsystem) (k : ℕ) (c : Controller) (i : ℕ) (t : FetchedCommand)
    (p : QueuePair) (seen : Seen) (new : Subsystem) : Type 0 where
  pub execution : CommandExecution
  pub comes_to : CommandComesTo tells (queues_of c) k t (scene_of old c) execution
  pub gives : seen ≡ Executed (Posted execution.outcome)
  pub leaves : new ≡ after_execution old k c i t p execution

-- If its completion queue is full, nothing changes.
abbrev pub ExecutesOver : Option QueuePair → Bool → Subsystem → ℕ → Controller → ℕ → FetchedCommand → Seen
    → Subsystem → Type 0
ExecutesOver None tells old k c i t seen new = (seen ≡ Executed CqFull) × (new ≡ old)
ExecutesOver (Some p) tells old k c i t seen new = Completes tells old k c i t p seen new

abbrev pub ExecutesOne : Option FetchedCommand → Bool → Subsystem → ℕ → Controller → ℕ → Seen → Subsystem → Type 0
ExecutesOne None tells old k c i seen new = (seen ≡ Executed NoSuch) × (new ≡ old)
ExecutesOne (Some t) tells old k c i seen new = ExecutesOver (open_pair c t) tells old k c i t seen new

abbrev pub ExecutesAt : Option Controller → Bool → Subsystem → ℕ → ℕ → Seen → Subsystem → Type 0
ExecutesAt None tells old k i seen new = (seen ≡ NoController) × (new ≡ old)
ExecutesAt (Some c) tells old k i seen new = ExecutesOne (slice_get c.fetched i) tells old k c i seen new

-- Power is lost in the whole subsystem, and returns: the medium stays, and so does what persists of the world.
unfoldable pub after_power_cycle : Subsystem → Subsystem
after_power_cycle s =
    record s { world = cycled_world s.world; controllers = map power_cycled s.controllers }

-- One event: the subsystem before it, its result, and the subsystem after it.
abbrev pub Step : Bool → Subsystem → Event → Seen → Subsystem → Type 0
Step tells old (Store k address bytes) seen new = Reacts old k (after_store address bytes.now) seen new
Step tells old (Write32 k offset v) seen new = Reacts old k (wrote offset v) seen new
Step tells old (Read32 k offset) seen new = Reacts old k (has_read offset) seen new
Step tells old (Fetch k q) seen new = Reacts old k (after_fetch q) seen new
Step tells old (Execute k i) seen new = ExecutesAt (controller_at old k) tells old k i seen new
Step tells old PowerCycle seen new = (seen ≡ Cycled) × (new ≡ after_power_cycle old)

-- A list of events, and their results.
abbrev pub Run : Bool → Subsystem → List Event → List Seen → Subsystem → Type 0
Run tells old [] [] new = new ≡ old
Run tells old (event ∷ events) (seen ∷ later) new = (mid : Subsystem) × Step tells old event seen mid
    × Run tells mid events later new
Run tells old [] (seen ∷ later) new = ⊥
Run tells old (event ∷ events) [] new = ⊥
