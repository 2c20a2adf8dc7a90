-- Statements of `power.rt`: example runs of power cycles and write protection. Also theorems that lack one premise, and
-- so are false.
use Rattle.std.specs.List.{AllByRecursion}
use Rattle.std.specs.Prelude.{Bool, List, Some, [], false, replicate, true, ℕ, ◌∷◌, ◌≡◌, ◌≢◌}
use Rattle.nvme_spec.specs.declared.access.Protection.TheVariants.{Open, UntilCycle}
use Rattle.nvme_spec.specs.Blocks.{Device}
use Rattle.nvme_spec.specs.Execution.{denial_outcome}
use Rattle.nvme_spec.specs.Layout.{IsLaidOut, may_write, reservation_of}
use Rattle.nvme_spec.specs.PowerLaws.{protection_at}
use Rattle.nvme_spec.specs.Reservation.{Reservation, unreserved}
use Rattle.nvme_spec.specs.Statuses.{namespace_is_write_protected}
use Rattle.nvme_spec.specs.World.{World, with_protection}
use Rattle.nvme_machine.specs.declared.event.Event.{Event}
use Rattle.nvme_machine.specs.declared.event.Event.TheVariants.{Execute, Fetch, PowerCycle, Read32, Write32}
use Rattle.nvme_machine.specs.declared.seen.Executed.TheVariants.{Posted}
use Rattle.nvme_machine.specs.declared.seen.Fetched.TheVariants.{Took}
use Rattle.nvme_machine.specs.declared.seen.Seen.{Seen}
use Rattle.nvme_machine.specs.declared.seen.Seen.TheVariants.{Executed, Fetched, Stored, Value, Wrote}
use Rattle.nvme_machine.specs.FaultFree.{fault_free_left}
use Rattle.nvme_machine.specs.Fencing.{LeavesReservation, ReservesNothing, RunWhere, namespace_bytes}
use Rattle.nvme_machine.specs.PowerCycles.{IsCycled, Persists}
use Rattle.nvme_machine.specs.Secrecy.{DifferIn, MayNotRead, over}
use Rattle.nvme_machine.specs.Subsystems.{OfItsController, Run, Step, Subsystem, after_power_cycle}
use Rattle.nvme_theorem_runs.specs.Cluster.{
  cluster,
  fetched_of,
  forgotten,
  held_by_a1,
  reserved,
  stores,
  zeroes,
  zeroes_entry,
}
use Rattle.nvme_theorem_runs.specs.Fencing.{after_fenced, fenced, fenced_events, fenced_seen}
use Rattle.nvme_theorem_runs.specs.Reading.{after_secret, denied_seen, other_blocks, read_entry, secret, sends}
use Rattle.nvme_spec.specs.Statuses as status

-- FencingOutlastsPower and PersistenceLasts, of the run of FencingAtWork, which ends with a power cycle.
pub record OutlastingAtWork : Type 0 where
  pub persists : Persists fenced.world 1
  pub run : RunWhere (ReservesNothing 1) fenced fenced_events fenced_seen after_fenced
  pub holds : (namespace_bytes after_fenced 1 ≡ namespace_bytes fenced 1)
      × ((k : ℕ) → may_write after_fenced.world k 1 ≡ may_write fenced.world k 1)
  pub lasts : RunWhere (LeavesReservation 1) fenced fenced_events fenced_seen after_fenced
      × (reservation_of after_fenced.world 1 ≡ reservation_of fenced.world 1)
  pub still : may_write after_fenced.world 2 1 ≡ false

-- FencingOutlastsPower for a reservation that need not persist, and over any run.
abbrev pub OutlastingOfAnyReservation : Type 0
OutlastingOfAnyReservation =
    (old new : Subsystem) → (events : List Event) → (seen : List Seen) → (n : ℕ)
    → IsLaidOut old.world old.device.content
    → RunWhere (ReservesNothing n) old events seen new
    → AllByRecursion (OfItsController (λ k. may_write old.world k n ≡ false)) events
    → (k : ℕ) → may_write new.world k n ≡ may_write old.world k n

abbrev pub OutlastingOverAnyRun : Type 0
OutlastingOverAnyRun =
    (old new : Subsystem) → (events : List Event) → (seen : List Seen) → (n : ℕ)
    → IsLaidOut old.world old.device.content → Persists old.world n
    → Run true old events seen new
    → AllByRecursion (OfItsController (λ k. may_write old.world k n ≡ false)) events
    → namespace_bytes new n ≡ namespace_bytes old n

-- SecrecyOutlastsPower, of the run of ReadingAtWork; and for a reservation that need not persist.
pub record SecrecyAtWork : Type 0 where
  pub persists : Persists secret.world 1
  pub run : RunWhere (ReservesNothing 1) secret (sends read_entry) denied_seen after_secret
  pub holds : (left : Device)
      × RunWhere (LeavesReservation 1) (over other_blocks secret) (sends read_entry) denied_seen
      (over left after_secret)
      × DifferIn 1 after_secret.world after_secret.device left

abbrev pub SecrecyOfAnyReservation : Type 0
SecrecyOfAnyReservation =
    (old new : Subsystem) → (medium : Device) → (events : List Event) → (seen : List Seen) → (n : ℕ)
    → IsLaidOut old.world old.device.content → DifferIn n old.world old.device medium
    → RunWhere (ReservesNothing n) old events seen new → MayNotRead old.world n events
    → (left : Device) × RunWhere (LeavesReservation n) (over medium old) events seen (over left new)

-- PowerTakes: controllers with fetched commands, a reservation that persists or does not, and write protection until a
-- power cycle.
abbrev pub until_cycle : Reservation → World
until_cycle r = with_protection (reserved r) 1 UntilCycle

abbrev pub powered : Reservation → Subsystem
powered r = record (cluster r (zeroes 1 ∷ []) (zeroes 1 ∷ [])) { world = until_cycle r }

pub record PowerAtWork : Type 0 where
  pub persistent : IsCycled (powered (held_by_a1 1)) (after_power_cycle (powered (held_by_a1 1)))
  pub fleeting : IsCycled (powered (forgotten 1)) (after_power_cycle (powered (forgotten 1)))
  pub lasts : reservation_of (after_power_cycle (powered (held_by_a1 1))).world 1 ≡ Some (held_by_a1 1)
  pub lost : reservation_of (after_power_cycle (powered (forgotten 1))).world 1 ≡ Some unreserved
  pub before : fetched_of (powered (held_by_a1 1)) 2 ≡ zeroes 1 ∷ []
  pub after : fetched_of (after_power_cycle (powered (held_by_a1 1))) 2 ≡ []
  pub protected : protection_at (powered (held_by_a1 1)).world 1 ≡ Some UntilCycle
  pub ended : protection_at (after_power_cycle (powered (held_by_a1 1))).world 1 ≡ Some Open

-- PowerTakes for any event.
abbrev pub PowerTakesByAnyEvent : Type 0
PowerTakesByAnyEvent =
    (tells : Bool) → (old new : Subsystem) → (event : Event) → (seen : Seen) → Step tells old event seen new
    → IsCycled old new

-- ProtectedUntilPower: the holder stores, rings, reads, and its fetched write is denied.
abbrev pub protected : Subsystem
protected = powered (held_by_a1 1)

unfoldable pub protected_events : List Event
protected_events =
    stores 1 512 (zeroes_entry 1) ∷ Write32 1 0x1008 1 ∷ Read32 1 0x1c ∷ Fetch 1 1 ∷ Execute 1 0 ∷ Execute 1 0 ∷ []

unfoldable pub protected_seen : List Seen
protected_seen =
    Stored ∷ Wrote ∷ Value 1 ∷ Fetched Took ∷ Executed (Posted (denial_outcome 8 status.namespace_is_write_protected))
    ∷ Executed (Posted (denial_outcome 8 status.namespace_is_write_protected)) ∷ []

pub record ProtectionAtWork : Type 0 where
  pub laid : IsLaidOut protected.world protected.device.content
  pub until : protection_at protected.world 1 ≡ Some UntilCycle
  pub run : Run true protected protected_events protected_seen (fault_free_left protected protected_events)
  pub may : may_write protected.world 1 1 ≡ true
  pub kept : namespace_bytes (fault_free_left protected protected_events) 1 ≡ replicate 512 1
  pub still : protection_at (fault_free_left protected protected_events).world 1 ≡ Some UntilCycle

-- The theorem over power cycles, and for a namespace with any protection.
abbrev pub ProtectionOverPower : Type 0
ProtectionOverPower =
    (old new : Subsystem) → (events : List Event) → (seen : List Seen) → (n : ℕ)
    → IsLaidOut old.world old.device.content → protection_at old.world n ≡ Some UntilCycle
    → Run true old events seen new
    → protection_at new.world n ≡ Some UntilCycle

abbrev pub ProtectionOfAnyKind : Type 0
ProtectionOfAnyKind =
    (old new : Subsystem) → (events : List Event) → (seen : List Seen) → (n : ℕ)
    → IsLaidOut old.world old.device.content
    → AllByRecursion (λ event. event ≢ PowerCycle) events → Run true old events seen new
    → namespace_bytes new n ≡ namespace_bytes old n
