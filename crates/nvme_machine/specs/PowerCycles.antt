-- Statements of the laws about power cycles: what one removes and leaves, and what persists (Base Specification:
-- Persist Through Power Loss of Reservations; Namespace Write Protection).
use Rattle.std.specs.Prelude.{◌≡◌, ◌≢◌, ℕ, Bool, true, false, List, [], None, Some, option_map}
use Rattle.std.specs.List.{AllByRecursion}
use Rattle.nvme_spec.specs.declared.access.Protection.TheVariants.{Open, Protected, UntilCycle}
use Rattle.nvme_spec.specs.Blocks.{Device}
use Rattle.nvme_spec.specs.Reservation.{Reservation, unreserved}
use Rattle.nvme_spec.specs.World.{World}
use Rattle.nvme_spec.specs.Registers.{initial_registers}
use Rattle.nvme_spec.specs.Layout.{IsLaidOut, reservation_of, may_write}
use Rattle.nvme_spec.specs.PowerLaws.{KeepsPlaces, protection_at}
use Rattle.nvme_machine.specs.declared.event.Event.{Event}
use Rattle.nvme_machine.specs.declared.event.Event.TheVariants.{PowerCycle}
use Rattle.nvme_machine.specs.declared.seen.Seen.{Seen}
use Rattle.nvme_machine.specs.Controllers.{Controller, submission_at, completion_at}
use Rattle.nvme_machine.specs.Subsystems.{Subsystem, OfItsController, Run, Step, controller_at}
use Rattle.nvme_machine.specs.Fencing.{LeavesReservation, ReservesNothing, RunWhere, namespace_bytes}
use Rattle.nvme_machine.specs.Secrecy.{DifferIn, MayNotRead, over}

-- the reservation of a namespace, with its registrants, persists through power loss
pub record Persists (w : World) (n : ℕ) : Type 0 where
  pub reservation : Reservation
  pub there : reservation_of w n ≡ Some reservation
  pub set : reservation.ptpl ≡ true

-- a controller that was not enabled since power returned: its registers are initial, and it has no queue and no fetched
-- command
pub record IsUnused (c : Controller) : Type 0 where
  pub registers : c.registers ≡ initial_registers
  pub submission : (q : ℕ) → submission_at c q ≡ None
  pub completion : (q : ℕ) → completion_at c q ≡ None
  pub fetched : c.fetched ≡ []

-- A power cycle removes all queues, fetched commands and enabled states, and write protection until a power cycle. It
-- leaves every window, block and attachment, other protections, and the reservations that persist; other reservations
-- are gone.
pub record IsCycled (old new : Subsystem) : Type 0 where
  pub places : KeepsPlaces old.world new.world
  pub device : new.device ≡ old.device
  pub persistent : (n : ℕ) → (r : Reservation) → reservation_of old.world n ≡ Some r → r.ptpl ≡ true
      → reservation_of new.world n ≡ Some r
  pub fleeting : (n : ℕ) → (r : Reservation) → reservation_of old.world n ≡ Some r → r.ptpl ≡ false
      → reservation_of new.world n ≡ Some unreserved
  pub unprotected : (n : ℕ) → protection_at old.world n ≡ Some Open → protection_at new.world n ≡ Some Open
  pub protected : (n : ℕ) → protection_at old.world n ≡ Some Protected → protection_at new.world n ≡ Some Protected
  pub ended : (n : ℕ) → protection_at old.world n ≡ Some UntilCycle → protection_at new.world n ≡ Some Open
  pub windows : (k : ℕ) → option_map (λ (c : Controller). c.window) (controller_at new k)
      ≡ option_map (λ (c : Controller). c.window) (controller_at old k)
  pub unused : (k : ℕ) → (c : Controller) → controller_at new k ≡ Some c → IsUnused c

abbrev pub PowerTakes : Type 0
PowerTakes =
    (tells : Bool) → (old new : Subsystem) → (seen : Seen) → Step tells old PowerCycle seen new → IsCycled old new

-- A persistent reservation stays persistent in every run in which each reservation command on the namespace is denied.
abbrev pub PersistenceLasts : Type 0
PersistenceLasts =
    (old new : Subsystem) → (events : List Event) → (seen : List Seen) → (n : ℕ) → Persists old.world n
    → RunWhere (ReservesNothing n) old events seen new
    → RunWhere (LeavesReservation n) old events seen new
    × (reservation_of new.world n ≡ reservation_of old.world n)

-- Fencing outlasts power. Suppose that the reservation of a namespace persists, and that every reservation command on
-- it is denied. Then hosts that may not write it change none of its bytes in any run, with any number of power cycles
-- at any moment; and they still may not write it.
abbrev pub FencingOutlastsPower : Type 0
FencingOutlastsPower =
    (old new : Subsystem) → (events : List Event) → (seen : List Seen) → (n : ℕ)
    → IsLaidOut old.world old.device.content → Persists old.world n
    → RunWhere (ReservesNothing n) old events seen new
    → AllByRecursion (OfItsController (λ k. may_write old.world k n ≡ false)) events
    → (namespace_bytes new n ≡ namespace_bytes old n) × ((k : ℕ) → may_write new.world k n ≡ may_write old.world k n)

-- Hosts that may not read the namespace get results, and find memory, that are possible with any other bytes of the
-- namespace too.
abbrev pub SecrecyOutlastsPower : Type 0
SecrecyOutlastsPower =
    (old new : Subsystem) → (medium : Device) → (events : List Event) → (seen : List Seen) → (n : ℕ)
    → IsLaidOut old.world old.device.content → DifferIn n old.world old.device medium → Persists old.world n
    → RunWhere (ReservesNothing n) old events seen new → MayNotRead old.world n events
    → (left : Device) × RunWhere (LeavesReservation n) (over medium old) events seen (over left new)
    × DifferIn n new.world new.device left

-- Protected until power: while power is not lost, no event changes a byte of a namespace that is write protected until
-- then, and none removes the protection.
abbrev pub ProtectedUntilPower : Type 0
ProtectedUntilPower =
    (old new : Subsystem) → (events : List Event) → (seen : List Seen) → (n : ℕ)
    → IsLaidOut old.world old.device.content → protection_at old.world n ≡ Some UntilCycle
    → AllByRecursion (λ event. event ≢ PowerCycle) events → Run true old events seen new
    → (namespace_bytes new n ≡ namespace_bytes old n) × (protection_at new.world n ≡ Some UntilCycle)
