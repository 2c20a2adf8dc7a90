-- Statements of the law `preempted_hosts_stay_out`: a preempted host can't write the namespace, whoever holds it, until
-- a Reservation Register of its own is allowed (Base Specification: Reservations, Reservation Acquire command, Preempt,
-- Preempt and Abort).
use Rattle.std.specs.Prelude.{◌≡◌, ℕ, ◌==◌, Bool, true, false, List, [], ◌∷◌, Some, Ok}
use Rattle.nvme_spec.specs.declared.command.Command.TheVariants.{ReservationRegister, ReservationAcquire}
use Rattle.nvme_spec.specs.declared.outcome.Outcome.{Outcome}
use Rattle.nvme_spec.specs.Commands.{action, writers}
use Rattle.nvme_spec.specs.Execution.{removed_by, denial_outcome}
use Rattle.nvme_spec.specs.IoData.{reservation_outcome}
use Rattle.nvme_spec.specs.Layout.{reservation_of, may_write}
use Rattle.nvme_spec.specs.Reservation.{Reservation, is_registered, is_free}
use Rattle.nvme_spec.specs.World.{World, host_of}
use Rattle.nvme_machine.specs.declared.seen.Executed.TheVariants.{Posted}
use Rattle.nvme_machine.specs.Subsystems.{is_host_among}
use Rattle.nvme_event.specs.declared.event.FleetEvent.{FleetEvent}
use Rattle.nvme_event.specs.declared.event.FleetEvent.TheVariants.{
  BringUp,
  Place,
  Ring,
  Fetch,
  Execute,
  Poll,
  Reset,
  RawStore,
  RawWrite32,
  PowerCycle,
}
use Rattle.nvme_event.specs.declared.seen.FleetSeen.TheVariants.{Executed as ExecutedSeen}
use Rattle.nvme_event.specs.Replies.{Reply}
use Rattle.nvme_mailbox.specs.Deliveries.{plain}
use Rattle.nvme_mailbox.specs.Fleets.{Fleet, Step}
use Rattle.nvme_mailbox.specs.IoCommands.{IoCommand, command_at, AreNumbered}
use Rattle.nvme_mailbox.specs.Fencing.{IsOn, IsAllowedAt, RunWhere, fenced}

-- the host has no key for the namespace
abbrev pub IsOutside : World → ℕ → ℕ → Type 0
IsOutside w n host = (r : Reservation) → reservation_of w n ≡ Some r → is_registered r.registrants host ≡ false

-- some host holds a reservation of it, or all registrants do
pub record IsHeld (w : World) (n : ℕ) : Type 0 where
  pub reservation : Reservation
  pub of : reservation_of w n ≡ Some reservation
  pub held : is_free reservation.hold ≡ false

-- A host without a key may not write, for any type of the reservation.
abbrev pub OutsidersMayNotWrite : Type 0
OutsidersMayNotWrite =
    (w : World) → (n k host : ℕ) → host_of w k ≡ Some host → IsOutside w n host → IsHeld w n → may_write w k n ≡ false

-- an event registers the host: one of its controllers executes a Reservation Register on the namespace that all rules
-- let pass
abbrev pub Registers : ℕ → ℕ → Fleet → FleetEvent → Type 0
Registers n host f (BringUp k) = ⊥
Registers n host f (Place k request) = ⊥
Registers n host f (Ring k) = ⊥
Registers n host f (Fetch k q) = ⊥
Registers n host f (Execute k i) = (host_of f.site.world k ≡ Some host) × IsAllowedAt (ReservationRegister ∷ []) f k i n
Registers n host f (Poll k) = ⊥
Registers n host f (Reset k) = ⊥
Registers n host f (RawStore k address bytes) = ⊥
Registers n host f (RawWrite32 k offset v) = ⊥
Registers n host f PowerCycle = ⊥

abbrev pub LeavesOutside : ℕ → ℕ → Fleet → FleetEvent → Type 0
LeavesOutside n host f event = Registers n host f event → ⊥

-- A host gets a key only by its own command.
abbrev pub OutsidersStayOutside : Type 0
OutsidersStayOutside =
    (tells : Bool) → (old new : Fleet) → (events : List FleetEvent) → (replies : List Reply) → (n host : ℕ)
    → AreNumbered old
    → RunWhere (LeavesOutside n host) tells old events replies new
    → IsOutside old.site.world n host → IsOutside new.site.world n host

-- Controller k executes its i-th command: a Preempt or a Preempt and Abort on the namespace that all rules let pass.
pub record Preempts (tells : Bool) (n : ℕ) (old : Fleet) (k i : ℕ) (x : IoCommand) (new : Fleet) : Type 0 where
  pub outcome : Outcome
  pub step : Step tells old (Execute k i) (plain (ExecutedSeen (Posted outcome))) new
  pub found : command_at old k i ≡ Some x
  pub is : IsOn n (ReservationAcquire ∷ []) x
  pub preempts : (action x.entry == 0) ≡ false
  pub allowed : x.judgement ≡ Ok tt

-- the hosts that it removes
abbrev pub removed_hosts : Fleet → ℕ → IoCommand → List ℕ
removed_hosts f k x = removed_by (reservation_outcome f.site.world k x.entry x.sent)

-- They have no key after that.
abbrev pub PreemptedIsOutside : Type 0
PreemptedIsOutside =
    (tells : Bool) → (old new : Fleet) → (n k i host : ℕ) → (x : IoCommand) → AreNumbered old
    → Preempts tells n old k i x new
    → is_host_among (removed_hosts old k x) (Some host) ≡ true → IsOutside new.site.world n host

-- A preempted host stays out until a Reservation Register of its own is allowed, after any events of other hosts. Until
-- then, each of its writes that is executed while any host holds the reservation is answered Reservation Conflict, or
-- with the denial of an earlier rule, and changes neither access state nor medium.
abbrev pub PreemptedStaysOut : Type 0
PreemptedStaysOut =
    (tells : Bool) → (old mid last new : Fleet) → (n k i host : ℕ) → (x : IoCommand) → AreNumbered old
    → Preempts tells n old k i x mid
    → is_host_among (removed_hosts old k x) (Some host) ≡ true
    → (events : List FleetEvent) → (replies : List Reply)
    → RunWhere (LeavesOutside n host) tells mid events replies last → IsHeld last.site.world n
    → (j l : ℕ) → (y : IoCommand) → (outcome : Outcome) → host_of last.site.world j ≡ Some host
    → command_at last j l ≡ Some y → IsOn n writers y
    → Step tells last (Execute j l) (plain (ExecutedSeen (Posted outcome))) new
    → (outcome ≡ denial_outcome (fenced last.site.world j y).rule (fenced last.site.world j y).status)
    × (new.site ≡ last.site)
