-- Statements of the law `run_is_determined`: the replies of a list of events are determined, except for faults of the
-- medium.
use Rattle.std.specs.Prelude.{◌≡◌, ◌<◌, ◌≤◌, ◌-◌, ◌^◌, ℕ, Bool, true, List}
use Rattle.nvme_spec.specs.Layout.{IsLaidOut}
use Rattle.nvme_event.specs.declared.event.FleetEvent.{FleetEvent}
use Rattle.nvme_event.specs.Replies.{Reply}
use Rattle.nvme_mailbox.specs.Fleets.{Fleet, Run}
use Rattle.nvme_mailbox.specs.FaultFree.{fault_free_replies, fault_free_left}

-- the number of failed calls of the medium
abbrev pub failures_in : Fleet → ℕ
failures_in f = f.site.device.failures

-- the failure count never falls
abbrev pub FailuresNeverFall : Type 0
FailuresNeverFall =
    (tells : Bool) → (old new : Fleet) → (events : List FleetEvent) → (replies : List Reply)
    → Run tells old events replies new → failures_in old ≤ failures_in new

-- A list of events has at most one run without a fault: its replies and its last state are determined.
abbrev pub RunIsUnique : Type 0
RunIsUnique =
    (old new : Fleet) → (events : List FleetEvent) → (replies : List Reply) → Run true old events replies new
    → failures_in new ≡ failures_in old → failures_in old < 2 ^ 64 - 1
    → (replies ≡ fault_free_replies old events) × (new ≡ fault_free_left old events)

-- And it has one, from each fleet whose namespaces are on its medium.
abbrev pub RunExists : Type 0
RunExists =
    (old : Fleet) → (events : List FleetEvent) → IsLaidOut old.site.world old.site.device.content
    → Run true old events (fault_free_replies old events) (fault_free_left old events)
    × (failures_in (fault_free_left old events) ≡ failures_in old)
