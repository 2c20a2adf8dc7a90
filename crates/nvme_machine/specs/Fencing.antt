-- Statements of the laws about fencing: which events may change the bytes and the reservation of a namespace, over
-- events and over runs.
use Rattle.std.specs.Prelude.{◌≡◌, ◌⊎◌, ℕ, Bool, true, false, List, [], ◌∷◌, Option, None, Some, slice_get}
use Rattle.std.specs.List.{AllByRecursion}
use Rattle.nvme_spec.specs.declared.command.Command.{Command}
use Rattle.nvme_spec.specs.Commands.{altering, reserving}
use Rattle.nvme_spec.specs.Reservation.{Reservation}
use Rattle.nvme_spec.specs.Layout.{IsLaidOut, bytes_of, reservation_of, may_write}
use Rattle.nvme_spec.specs.ExecutionLaws.{IsAllowed}
use Rattle.nvme_machine.specs.declared.event.Event.{Event}
use Rattle.nvme_machine.specs.declared.event.Event.TheVariants.{Store, Write32, Read32, Fetch, Execute, PowerCycle}
use Rattle.nvme_machine.specs.declared.fetched.FetchedCommand.{FetchedCommand}
use Rattle.nvme_machine.specs.declared.seen.Seen.{Seen}
use Rattle.nvme_machine.specs.Controllers.{Controller, names}
use Rattle.nvme_machine.specs.Subsystems.{Subsystem, Step, controller_at, OfItsController}

-- the bytes of a namespace of a subsystem
abbrev pub namespace_bytes : Subsystem → ℕ → List ℕ
namespace_bytes s n = bytes_of s.world s.device.content n

-- The i-th command of controller k is one of these I/O commands on the namespace, and all rules let it pass now.
pub record IsAllowedAt (commands : List Command) (s : Subsystem) (k i n : ℕ) : Type 0 where
  pub controller : Controller
  pub command : FetchedCommand
  pub at : controller_at s k ≡ Some controller
  pub found : slice_get controller.fetched i ≡ Some command
  pub named : names n command ≡ true
  pub allowed : IsAllowed commands s.world k command.entry command.marked controller.window

-- an event executes such a command
abbrev pub Allows : List Command → Subsystem → Event → ℕ → Type 0
Allows commands s (Execute k i) n = IsAllowedAt commands s k i n
Allows commands s (Store k address bytes) n = ⊥
Allows commands s (Write32 k offset v) n = ⊥
Allows commands s (Read32 k offset) n = ⊥
Allows commands s (Fetch k q) n = ⊥
Allows commands s PowerCycle n = ⊥

-- a reservation that does not persist through power loss
abbrev pub IsFleeting : Option Reservation → Type 0
IsFleeting None = ⊥
IsFleeting (Some r) = r.ptpl ≡ false

-- an event is a power cycle, and the reservation of the namespace does not persist
abbrev pub Forgets : Subsystem → Event → ℕ → Type 0
Forgets s (Store k address bytes) n = ⊥
Forgets s (Write32 k offset v) n = ⊥
Forgets s (Read32 k offset) n = ⊥
Forgets s (Fetch k q) n = ⊥
Forgets s (Execute k i) n = ⊥
Forgets s PowerCycle n = IsFleeting (reservation_of s.world n)

-- The bytes of a namespace change only if a Write or Write Zeroes on it is executed that all rules let pass then.
abbrev pub OnlyAllowedWritesWrite : Type 0
OnlyAllowedWritesWrite =
    (old new : Subsystem) → (event : Event) → (seen : Seen) → (n : ℕ) → IsLaidOut old.world old.device.content
    → Step true old event seen new
    → (namespace_bytes new n ≡ namespace_bytes old n) ⊎ Allows altering old event n

-- Its reservation changes only if a Reservation Register, Acquire or Release on it is executed that all rules let pass,
-- or if it does not persist and power is lost.
abbrev pub OnlyAllowedActionsReserve : Type 0
OnlyAllowedActionsReserve =
    (tells : Bool) → (old new : Subsystem) → (event : Event) → (seen : Seen) → (n : ℕ) → Step tells old event seen new
    → (reservation_of new.world n ≡ reservation_of old.world n) ⊎ Allows reserving old event n ⊎ Forgets old event n

-- The layout of namespaces never changes.
abbrev pub LayoutStays : Type 0
LayoutStays =
    (old new : Subsystem) → (event : Event) → (seen : Seen) → IsLaidOut old.world old.device.content
    → Step true old event seen new → IsLaidOut new.world new.device.content

-- An event of a controller whose host may not write a namespace changes no byte of it, nor does a power cycle.
abbrev pub FencedEventsWriteNothing : Type 0
FencedEventsWriteNothing =
    (old new : Subsystem) → (event : Event) → (seen : Seen) → (n : ℕ) → IsLaidOut old.world old.device.content
    → Step true old event seen new → OfItsController (λ k. may_write old.world k n ≡ false) event
    → namespace_bytes new n ≡ namespace_bytes old n

-- a run in which each event has a property in the state before it
abbrev pub RunWhere : (Subsystem → Event → Type 0) → Subsystem → List Event → List Seen → Subsystem → Type 0
RunWhere P old [] [] new = new ≡ old
RunWhere P old (event ∷ events) (seen ∷ later) new =
    (mid : Subsystem) × P old event × Step true old event seen mid × RunWhere P mid events later new
RunWhere P old [] (seen ∷ later) new = ⊥
RunWhere P old (event ∷ events) [] new = ⊥

-- no event executes a reservation command on the namespace that all rules let pass
abbrev pub ReservesNothing : ℕ → Subsystem → Event → Type 0
ReservesNothing n s event = Allows reserving s event n → ⊥

-- and it is not a power cycle that ends the reservation
abbrev pub LeavesReservation : ℕ → Subsystem → Event → Type 0
LeavesReservation n s event = ReservesNothing n s event × (Forgets s event n → ⊥)

-- If an event leaves the reservation, every host's permission to write is unchanged.
abbrev pub PermissionsStay : Type 0
PermissionsStay =
    (tells : Bool) → (old new : Subsystem) → (event : Event) → (seen : Seen) → (n : ℕ) → Step tells old event seen new
    → LeavesReservation n old event → (k : ℕ) → may_write new.world k n ≡ may_write old.world k n

-- Fencing holds. Suppose that every reservation command on a namespace is denied, and power is not lost or the
-- reservation persists. Then no list of events of hosts that may not write the namespace changes any of its bytes, and
-- these hosts still may not write it.
abbrev pub FencingHolds : Type 0
FencingHolds =
    (old new : Subsystem) → (events : List Event) → (seen : List Seen) → (n : ℕ)
    → IsLaidOut old.world old.device.content
    → RunWhere (LeavesReservation n) old events seen new
    → AllByRecursion (OfItsController (λ k. may_write old.world k n ≡ false)) events
    → (namespace_bytes new n ≡ namespace_bytes old n) × ((k : ℕ) → may_write new.world k n ≡ may_write old.world k n)
