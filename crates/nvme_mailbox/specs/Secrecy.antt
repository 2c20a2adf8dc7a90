-- Statements of the law on secrecy, for hosts with a driver and raw ones alike: hosts of a fleet that may not read a
-- namespace learn nothing of its bytes over runs.
use Rattle.std.specs.Prelude.{◌≡◌, ◌<◌, ◌-◌, ◌^◌, ℕ, true, false, List}
use Rattle.std.specs.List.{AllByRecursion}
use Rattle.nvme_spec.specs.Blocks.{Device}
use Rattle.nvme_spec.specs.World.{World}
use Rattle.nvme_spec.specs.Layout.{may_read}
use Rattle.nvme_machine.specs.Secrecy.{DifferIn}
use Rattle.nvme_event.specs.declared.event.FleetEvent.{FleetEvent}
use Rattle.nvme_event.specs.Events.{OfItsHost}
use Rattle.nvme_event.specs.Replies.{Reply}
use Rattle.nvme_mailbox.specs.Executions.{Site}
use Rattle.nvme_mailbox.specs.Fleets.{Fleet, Run}
use Rattle.nvme_mailbox.specs.Determined.{failures_in}
use Rattle.nvme_mailbox.specs.Fencing.{RunWhere, LeavesReservation}
use Rattle.nvme_mailbox.specs.Regular.{IsRegular}

-- a fleet over another medium
abbrev pub site_over : Device → Site → Site
site_over d s = record { world = s.world; device = d }

abbrev pub over : Device → Fleet → Fleet
over d f = record { site = site_over d f.site; hosts = f.hosts }

-- the controllers of all these events, power cycles aside, belong to hosts that may not read the namespace
abbrev pub MayNotRead : World → ℕ → List FleetEvent → Type 0
MayNotRead w n events = AllByRecursion (OfItsHost (λ k. may_read w k n ≡ false)) events

-- Fenced reading. Suppose that every reservation command on a namespace is denied, and power is not lost or the
-- reservation persists. Then hosts that may not read it get answers and data that are possible with any other bytes of
-- the namespace too. They also leave the same state: each driver's mailbox, and each raw host's controller with its
-- memory.
abbrev pub FencedReading : Type 0
FencedReading =
    (old new : Fleet) → (medium : Device) → (events : List FleetEvent) → (replies : List Reply) → (n : ℕ)
    → IsRegular old → DifferIn n old.site.world old.site.device medium
    → RunWhere (LeavesReservation n) true old events replies new → MayNotRead old.site.world n events
    → (left : Device) × RunWhere (LeavesReservation n) true (over medium old) events replies (over left new)
    × DifferIn n new.site.world new.site.device left

-- And without a fault of the medium they are the same: all replies, mailboxes and controllers are equal.
abbrev pub FencedReadingIsSame : Type 0
FencedReadingIsSame =
    (old new other : Fleet) → (medium : Device) → (events : List FleetEvent) → (replies others : List Reply) → (n : ℕ)
    → IsRegular old → DifferIn n old.site.world old.site.device medium
    → RunWhere (LeavesReservation n) true old events replies new → MayNotRead old.site.world n events
    → Run true (over medium old) events others other
    → failures_in new ≡ failures_in old → failures_in other ≡ failures_in old → failures_in old < 2 ^ 64 - 1
    → (others ≡ replies) × (other ≡ over other.site.device new)
    × DifferIn n new.site.world new.site.device other.site.device
