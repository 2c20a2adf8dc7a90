-- Statements of the law `trouble_never_comes`: no event of a host with a driver finds a completion queue full, a
-- completion that answers no request, or a controller that does not come up.
use Rattle.std.specs.Prelude.{◌≡◌, ℕ, Bool, true, List, Err}
use Rattle.nvme_machine.specs.declared.seen.Executed.TheVariants.{CqFull}
use Rattle.nvme_driver.specs.declared.faults.UpFault.TheVariants.{NotReady, NoAnswer, Refused}
use Rattle.nvme_driver.specs.declared.faults.PollFault.TheVariants.{UnknownCommand}
use Rattle.nvme_event.specs.declared.event.FleetEvent.{FleetEvent}
use Rattle.nvme_event.specs.declared.seen.FleetSeen.{FleetSeen}
use Rattle.nvme_event.specs.declared.seen.FleetSeen.TheVariants.{Up, Executed, Polled}
use Rattle.nvme_event.specs.Replies.{Reply}
use Rattle.nvme_event.specs.Events.{concerns}
use Rattle.nvme_mailbox.specs.Mailboxes.{Mailbox}
use Rattle.nvme_mailbox.specs.Fleets.{Fleet, Run}
use Rattle.nvme_mailbox.specs.Apart.{HasMailbox}
use Rattle.nvme_mailbox.specs.Answered.{Happens}

abbrev pub IsUnseen : FleetSeen → Type 0
IsUnseen (Executed CqFull) = Unit {0}
IsUnseen (Polled (Err UnknownCommand)) = Unit {0}
IsUnseen (Up (Err NotReady)) = Unit {0}
IsUnseen (Up (Err NoAnswer)) = Unit {0}
IsUnseen (Up (Err (Refused why))) = Unit {0}
IsUnseen other = ⊥

-- an event of host k has such a result
pub record GivesUnseen (k : ℕ) (old : Fleet) (event : FleetEvent) (reply : Reply) (new : Fleet) : Type 0 where
  pub host : concerns event k ≡ true
  pub seen : IsUnseen reply.seen

abbrev pub UnseenNeverComes : Type 0
UnseenNeverComes =
    (tells : Bool) → (old new : Fleet) → (events : List FleetEvent) → (replies : List Reply)
    → (run : Run tells old events replies new)
    → (k : ℕ) → (m : Mailbox) → HasMailbox old k m
    → Happens (GivesUnseen k) tells old events replies new run → ⊥
