-- The invariant of a fleet: the namespaces are on the medium, a raw host's controller has the number of its place, and
-- each request that waits was placed by its driver, so that its command determines the length of its data.
use Rattle.std.specs.Prelude.{◌≡◌, ℕ, ◌*◌, true, false, List, length, None}
use Rattle.std.specs.List.{AllByRecursion}
use Rattle.nvme_spec.specs.Blocks.{Device}
use Rattle.nvme_spec.specs.Configuration.{Configuration, Capacity, config_fault}
use Rattle.nvme_spec.specs.Layout.{IsLaidOut}
use Rattle.nvme_driver.specs.declared.request.Request.{Request}
use Rattle.nvme_driver.specs.Requests.{asked_of, is_bad}
use Rattle.nvme_event.specs.declared.event.FleetEvent.{FleetEvent}
use Rattle.nvme_event.specs.Replies.{Reply}
use Rattle.nvme_mailbox.specs.Mailboxes.{Item, Mailbox}
use Rattle.nvme_mailbox.specs.Fleets.{Fleet, Run, opening}
use Rattle.nvme_mailbox.specs.IoCommands.{AreNumbered}
use Rattle.nvme_mailbox.specs.Apart.{HasMailbox}
use Rattle.nvme_mailbox.specs.Tickets.{waiting}

-- its command and data are those of some valid request
abbrev pub WasTaken : Item → Type 0
WasTaken i = (request : Request) × (is_bad request ≡ false) × (i.asked ≡ asked_of request)

abbrev pub HoldsTaken : Fleet → Type 0
HoldsTaken f = (k : ℕ) → (m : Mailbox) → HasMailbox f k m → AllByRecursion WasTaken (waiting m)

pub record IsRegular (f : Fleet) : Type 0 where
  pub laid : IsLaidOut f.site.world f.site.device.content
  pub numbers : AreNumbered f
  pub taken : HoldsTaken f

abbrev pub OpeningIsRegular : Type 0
OpeningIsRegular =
    (c : Configuration) → (d : Device) → (size : Capacity) → length d.content ≡ 512 * size.medium
    → config_fault c size ≡ None → IsRegular (opening c d)

abbrev pub RegularityStays : Type 0
RegularityStays =
    (old new : Fleet) → (events : List FleetEvent) → (replies : List Reply) → Run true old events replies new
    → IsRegular old → IsRegular new
