-- For `run_premises.rt`: theorems that lack one premise, as the example runs refute them.
use Rattle.std.specs.Prelude.{◌+◌, ◌≡◌, ℕ, List, Bool, Some, Ok}
use Rattle.nvme_wire.specs.declared.status.Status.{Status}
use Rattle.nvme_spec.specs.Blocks.{Device}
use Rattle.nvme_spec.specs.Configuration.{Configuration}
use Rattle.nvme_driver.specs.declared.answer.Answer.TheVariants.{Done}
use Rattle.nvme_event.specs.declared.event.FleetEvent.{FleetEvent}
use Rattle.nvme_event.specs.declared.event.FleetEvent.TheVariants.{Poll}
use Rattle.nvme_event.specs.declared.seen.FleetSeen.TheVariants as seen
use Rattle.nvme_event.specs.Replies.{Reply}
use Rattle.nvme_machine.specs.declared.event.Event.{Event}
use Rattle.nvme_machine.specs.declared.seen.Seen.{Seen}
use Rattle.nvme_machine.specs.Controllers.{Controller}
use Rattle.nvme_machine.specs.Posted.{PostedEntry, StandsUnread}
use Rattle.nvme_machine.specs.Subsystems as machine
use Rattle.nvme_machine.specs.Windows.{AllHaveTheirWindows}
use Rattle.nvme_mailbox.specs.Answered.{WasPlacedAndExecuted}
use Rattle.nvme_mailbox.specs.Apart.{HasMailbox}
use Rattle.nvme_mailbox.specs.Fleets.{Fleet, Run, Step, opening}
use Rattle.nvme_mailbox.specs.Mailboxes.{Mailbox}
use Rattle.nvme_mailbox.specs.PowerCycles.{IsAborted}
use Rattle.nvme_mailbox.specs.SinceUp.{HasDriver}
use Rattle.nvme_theorem_runs.specs.Drivers.{AbortingByAnyEvent, SinceAnyMoment}
use Rattle.nvme_theorem_runs.specs.Queues.{UnreadOverAnyRun}

pub run_unlimited_aborting_aborts : AbortingByAnyEvent → (tells : Bool) → (before after : Fleet)
    → (event : FleetEvent) → (reply : Reply) → Step tells before event reply after → (k : ℕ) → (m : Mailbox)
    → HasMailbox before k m → (n : Mailbox) × HasMailbox after k n × IsAborted m n
run_unlimited_aborting_aborts law = law

pub run_unlimited_moments_since : SinceAnyMoment → (tells : Bool) → (c : Configuration) → (d : Device)
    → (old mid after : Fleet) → (before : List FleetEvent) → (gave : List Reply)
    → Run tells (opening c d) before gave old → (events : List FleetEvent) → (replies : List Reply)
    → (run : Run tells old events replies mid) → (i : ℕ) → HasDriver c i → (m : Mailbox) → HasMailbox old (i + 1) m
    → (reply : Reply) → Step tells mid (Poll (i + 1)) reply after → (ticket dw0 len : ℕ) → (status : Status)
    → reply.seen ≡ seen.Polled (Ok (Some (Done (record { 0 = ticket }) status dw0 len)))
    → WasPlacedAndExecuted tells (i + 1) ticket
    (record { status = status; dw0 = dw0; bytes = reply.bytes }) old events replies mid run
run_unlimited_moments_since law = law

pub run_unlimited_entries_stays : UnreadOverAnyRun → (tells : Bool) → (before after : machine.Subsystem)
    → (events : List Event) → (given : List Seen) → (j : ℕ) → (e : PostedEntry)
    → machine.Run tells before events given after → AllHaveTheirWindows before → (c : Controller)
    → machine.controller_at before j ≡ Some c → StandsUnread e c → (d : Controller)
    × (machine.controller_at after j ≡ Some d) × StandsUnread e d
run_unlimited_entries_stays law = law
