-- Statements of laws about power cycles of a fleet: the effect on each driver, and what persists (Base Specification:
-- Persist Through Power Loss of Reservations).
use Rattle.std.specs.Prelude.{◌≡◌, ℕ, ◌-◌, ◌^◌, ◌<◌, Bool, true, false, List, ◌++◌, length, Some, Ok}
use Rattle.nvme_wire.specs.declared.status.Status.{Status}
use Rattle.nvme_spec.specs.declared.outcome.Outcome.{Outcome}
use Rattle.nvme_spec.specs.Blocks.{Device}
use Rattle.nvme_spec.specs.Commands.{writers}
use Rattle.nvme_spec.specs.Execution.{denial_outcome}
use Rattle.nvme_spec.specs.Layout.{reservation_of, may_write}
use Rattle.nvme_machine.specs.declared.seen.Executed.TheVariants.{Posted}
use Rattle.nvme_machine.specs.Secrecy.{DifferIn}
use Rattle.nvme_driver.specs.declared.answer.Answer.TheVariants.{Done}
use Rattle.nvme_event.specs.declared.event.FleetEvent.{FleetEvent}
use Rattle.nvme_event.specs.declared.event.FleetEvent.TheVariants.{Execute, Poll, PowerCycle}
use Rattle.nvme_event.specs.declared.seen.FleetSeen.TheVariants.{Executed as ExecutedSeen, Polled}
use Rattle.nvme_event.specs.Replies.{Reply}
use Rattle.nvme_mailbox.specs.Mailboxes.{Mailbox, open_tickets}
use Rattle.nvme_mailbox.specs.Deliveries.{plain}
use Rattle.nvme_mailbox.specs.Fleets.{Fleet, Run, Step}
use Rattle.nvme_mailbox.specs.Apart.{HasMailbox}
use Rattle.nvme_mailbox.specs.Tickets.{held_tickets, times}
use Rattle.nvme_mailbox.specs.Answered.{IsClear, WasPlacedAndExecuted}
use Rattle.nvme_mailbox.specs.IoCommands.{AreNumbered, IoCommand, command_at}
use Rattle.nvme_mailbox.specs.Fencing.{IsOn, LeavesReservation, ReservesNothing, RunWhere, fenced}
use Rattle.nvme_mailbox.specs.Determined.{failures_in}
use Rattle.nvme_mailbox.specs.Regular.{IsRegular}
use Rattle.nvme_mailbox.specs.Secrecy.{MayNotRead, over}
use Rattle.nvme_machine.specs.PowerCycles.{Persists}

-- Drivers.

-- The driver is down, without waiting requests and answers. All requests that were not delivered are aborted: first
-- those that were aborted before, then the others in the order of their tickets. The numbering of tickets continues.
pub record IsAborted (old new : Mailbox) : Type 0 where
  pub down : new.up ≡ false
  pub clear : IsClear new
  pub aborted : new.aborted ≡ old.aborted ++ open_tickets old
  pub exactly : (t : ℕ) → times t new.aborted ≡ times t (held_tickets old)
  pub next : new.next ≡ old.next

-- So is every host with a driver.
abbrev pub PowerAborts : Type 0
PowerAborts =
    (tells : Bool) → (old new : Fleet) → (reply : Reply) → Step tells old PowerCycle reply new
    → (k : ℕ) → (m : Mailbox) → HasMailbox old k m → (n : Mailbox) × HasMailbox new k n × IsAborted m n

-- A request that is delivered as done after a power cycle was placed, and then executed, since then.
abbrev pub DoneSincePower : Type 0
DoneSincePower =
    (tells : Bool) → (before old mid new : Fleet) → (cycle : Reply) → Step tells before PowerCycle cycle old
    → (events : List FleetEvent) → (replies : List Reply) → (run : Run tells old events replies mid)
    → (k : ℕ) → (m : Mailbox) → HasMailbox before k m
    → (reply : Reply) → Step tells mid (Poll k) reply new
    → (ticket dw0 len : ℕ) → (status : Status)
    → reply.seen ≡ Polled (Ok (Some (Done (record { 0 = ticket }) status dw0 len)))
    → (len ≡ length reply.bytes)
    × WasPlacedAndExecuted tells k ticket (record { status = status; dw0 = dw0; bytes = reply.bytes }) old events
    replies mid run

-- Reservations.

-- A persistent reservation stays persistent in every run in which each reservation command on the namespace is denied.
abbrev pub PersistenceLasts : Type 0
PersistenceLasts =
    (tells : Bool) → (old new : Fleet) → (events : List FleetEvent) → (replies : List Reply) → (n : ℕ)
    → Persists old.site.world n → RunWhere (ReservesNothing n) tells old events replies new
    → RunWhere (LeavesReservation n) tells old events replies new
    × (reservation_of new.site.world n ≡ reservation_of old.site.world n)

-- Fencing outlasts power. Suppose that the reservation of a namespace persists, and that every reservation command on
-- it is denied. Then each write of a host that may not write it is answered Reservation Conflict, or with the denial of
-- an earlier rule, and changes neither access state nor medium, in any run, with any number of power cycles at any
-- moment.
abbrev pub FencingOutlastsPower : Type 0
FencingOutlastsPower =
    (tells : Bool) → (old mid new : Fleet) → (events : List FleetEvent) → (replies : List Reply) → (n k i : ℕ)
    → (x : IoCommand) → (outcome : Outcome)
    → AreNumbered old → Persists old.site.world n → may_write old.site.world k n ≡ false
    → RunWhere (ReservesNothing n) tells old events replies mid
    → command_at mid k i ≡ Some x → IsOn n writers x
    → Step tells mid (Execute k i) (plain (ExecutedSeen (Posted outcome))) new
    → (outcome ≡ denial_outcome (fenced mid.site.world k x).rule (fenced mid.site.world k x).status)
    × (new.site ≡ mid.site)

-- Secrecy outlasts power loss: hosts that may not read the namespace get answers, and find memory, that are possible
-- with any other bytes of the namespace too.
abbrev pub SecrecyOutlastsPower : Type 0
SecrecyOutlastsPower =
    (old new : Fleet) → (medium : Device) → (events : List FleetEvent) → (replies : List Reply) → (n : ℕ)
    → IsRegular old → DifferIn n old.site.world old.site.device medium → Persists old.site.world n
    → RunWhere (ReservesNothing n) true old events replies new → MayNotRead old.site.world n events
    → (left : Device) × RunWhere (LeavesReservation n) true (over medium old) events replies (over left new)
    × DifferIn n new.site.world new.site.device left

-- And without a fault of the medium they are the same: replies and mailboxes,
abbrev pub RepliesOutlastPower : Type 0
RepliesOutlastPower =
    (old new other : Fleet) → (medium : Device) → (events : List FleetEvent) → (replies others : List Reply) → (n : ℕ)
    → IsRegular old → DifferIn n old.site.world old.site.device medium → Persists old.site.world n
    → RunWhere (ReservesNothing n) true old events replies new → MayNotRead old.site.world n events
    → Run true (over medium old) events others other
    → failures_in new ≡ failures_in old → failures_in other ≡ failures_in old → failures_in old < 2 ^ 64 - 1
    → (others ≡ replies) × (other ≡ over other.site.device new)
    × DifferIn n new.site.world new.site.device other.site.device
