-- Statements of the law `fencing_is_kept`, for hosts with a driver and for raw hosts: if the reservation of a namespace
-- denies a host its writes, they stay denied after any events, until a reservation command on the namespace is allowed,
-- or power is lost and the reservation does not persist (Base Specification: Reservations).
use Rattle.std.specs.Prelude.{◌≡◌, ◌⊎◌, ℕ, Bool, true, false, List, [], ◌∷◌, take, Some, Ok, Err}
use Rattle.nvme_wire.specs.Submission.{opcode, nsid}
use Rattle.nvme_spec.specs.declared.command.Command.{Command}
use Rattle.nvme_spec.specs.declared.outcome.Outcome.{Outcome}
use Rattle.nvme_spec.specs.declared.verdict.Denial.{Denial}
use Rattle.nvme_spec.specs.Commands.{command_of, is_one_of, reserving, writers}
use Rattle.nvme_spec.specs.Execution.{denial_outcome}
use Rattle.nvme_spec.specs.IoRules.{access_rules}
use Rattle.nvme_spec.specs.Layout.{reservation_of, may_write}
use Rattle.nvme_spec.specs.Rules.{Judgement, Rule, first_failing}
use Rattle.nvme_spec.specs.Statuses as status
use Rattle.nvme_spec.specs.World.{World}
use Rattle.nvme_machine.specs.declared.seen.Executed.TheVariants.{Posted}
use Rattle.nvme_machine.specs.Fencing.{IsFleeting}
use Rattle.nvme_event.specs.declared.event.FleetEvent.{FleetEvent}
use Rattle.nvme_event.specs.declared.event.FleetEvent.TheVariants.{
  BringUp,
  Place,
  Ring,
  Fetch,
  Execute,
  Poll,
  Reset,
  RawStore,
  RawWrite32,
  PowerCycle,
}
use Rattle.nvme_event.specs.declared.seen.FleetSeen.TheVariants.{Executed as ExecutedSeen}
use Rattle.nvme_event.specs.Replies.{Reply}
use Rattle.nvme_mailbox.specs.Deliveries.{plain}
use Rattle.nvme_mailbox.specs.Fleets.{Fleet, Step}
use Rattle.nvme_mailbox.specs.IoCommands.{IoCommand, command_at, AreNumbered}

-- it is one of these commands, on this namespace
pub record IsOn (n : ℕ) (commands : List Command) (x : IoCommand) : Type 0 where
  pub names : nsid x.entry ≡ n
  pub is_one : is_one_of (command_of (opcode x.entry)) commands ≡ true

-- The i-th command of controller k is one of these on the namespace, and all rules let it pass now.
pub record IsAllowedAt (commands : List Command) (f : Fleet) (k i n : ℕ) : Type 0 where
  pub command : IoCommand
  pub found : command_at f k i ≡ Some command
  pub is : IsOn n commands command
  pub allowed : command.judgement ≡ Ok tt

-- an event executes such a command
abbrev pub Allows : List Command → Fleet → FleetEvent → ℕ → Type 0
Allows commands f (BringUp k) n = ⊥
Allows commands f (Place k request) n = ⊥
Allows commands f (Ring k) n = ⊥
Allows commands f (Fetch k q) n = ⊥
Allows commands f (Execute k i) n = IsAllowedAt commands f k i n
Allows commands f (Poll k) n = ⊥
Allows commands f (Reset k) n = ⊥
Allows commands f (RawStore k address bytes) n = ⊥
Allows commands f (RawWrite32 k offset v) n = ⊥
Allows commands f PowerCycle n = ⊥

-- an event is a power cycle, and the reservation of the namespace does not persist
abbrev pub Forgets : Fleet → FleetEvent → ℕ → Type 0
Forgets f PowerCycle n = IsFleeting (reservation_of f.site.world n)
Forgets f other n = ⊥

-- The reservation of a namespace changes only if a Reservation Register, Acquire or Release on it is executed that all
-- rules let pass, or if it does not persist and power is lost.
abbrev pub OnlyAllowedActionsReserve : Type 0
OnlyAllowedActionsReserve =
    (tells : Bool) → (old new : Fleet) → (event : FleetEvent) → (reply : Reply) → (n : ℕ)
    → Step tells old event reply new
    → (reservation_of new.site.world n ≡ reservation_of old.site.world n) ⊎ Allows reserving old event n
    ⊎ Forgets old event n

-- a run in which each event has a property in the state before it
abbrev pub RunWhere : (Fleet → FleetEvent → Type 0) → Bool → Fleet → List FleetEvent → List Reply → Fleet → Type 0
RunWhere P tells old [] [] new = new ≡ old
RunWhere P tells old (event ∷ events) (reply ∷ later) new =
    (mid : Fleet) × P old event × Step tells old event reply mid × RunWhere P tells mid events later new
RunWhere P tells old [] (reply ∷ later) new = ⊥
RunWhere P tells old (event ∷ events) [] new = ⊥

-- no event executes a reservation command on the namespace that all rules let pass
abbrev pub ReservesNothing : ℕ → Fleet → FleetEvent → Type 0
ReservesNothing n f event = Allows reserving f event n → ⊥

-- and it is not a power cycle that ends the reservation
abbrev pub LeavesReservation : ℕ → Fleet → FleetEvent → Type 0
LeavesReservation n f event = ReservesNothing n f event × (Forgets f event n → ⊥)

-- While events do neither, every host's permission to write is unchanged.
abbrev pub PermissionsStay : Type 0
PermissionsStay =
    (tells : Bool) → (old new : Fleet) → (events : List FleetEvent) → (replies : List Reply) → (n : ℕ)
    → RunWhere (LeavesReservation n) tells old events replies new
    → (k : ℕ) → may_write new.site.world k n ≡ may_write old.site.world k n

-- The rules before that of the reservation: mark, opcode, form, namespace identifier, attachment and fields.
abbrev pub rules_before : World → ℕ → IoCommand → List Rule
rules_before w k x = take 6 (access_rules w k x.entry x.marked)

-- the denial by the first of these that fails, otherwise Reservation Conflict by the seventh
abbrev pub conflict_unless : Judgement → Denial
conflict_unless (Err denial) = denial
conflict_unless (Ok u) = record { rule = 7; status = status.reservation_conflict }

abbrev pub fenced : World → ℕ → IoCommand → Denial
fenced w k x = conflict_unless (first_failing (rules_before w k x))

-- A Write, Write Zeroes or Flush of a host that may not write the namespace is denied so.
abbrev pub FencedWritesAreDenied : Type 0
FencedWritesAreDenied =
    (f : Fleet) → (n k i : ℕ) → (x : IoCommand) → AreNumbered f → command_at f k i ≡ Some x → IsOn n writers x
    → may_write f.site.world k n ≡ false → x.judgement ≡ Err (fenced f.site.world k x)

-- Fencing holds. Suppose that every reservation command on a namespace is denied, and power is not lost or the
-- reservation persists. Then each write of a host that may not write it is answered Reservation Conflict, or with the
-- denial of an earlier rule, and changes neither access state nor medium, after any events of any hosts.
abbrev pub FencingHolds : Type 0
FencingHolds =
    (tells : Bool) → (old mid new : Fleet) → (events : List FleetEvent) → (replies : List Reply) → (n k i : ℕ)
    → (x : IoCommand) → (outcome : Outcome)
    → AreNumbered old → may_write old.site.world k n ≡ false
    → RunWhere (LeavesReservation n) tells old events replies mid
    → command_at mid k i ≡ Some x → IsOn n writers x
    → Step tells mid (Execute k i) (plain (ExecutedSeen (Posted outcome))) new
    → (outcome ≡ denial_outcome (fenced mid.site.world k x).rule (fenced mid.site.world k x).status)
    × (new.site ≡ mid.site)
