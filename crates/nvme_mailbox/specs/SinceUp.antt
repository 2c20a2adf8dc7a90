-- Statements of the law `done_since_it_came_up`: a driver that is down has no waiting request and no answer. So a
-- request that it delivers as done later was placed, and then executed, since it came up.
use Rattle.std.specs.Prelude.{◌≡◌, ℕ, ◌+◌, Bool, false, List, length, Some, Ok, slice_get}
use Rattle.nvme_wire.specs.declared.status.Status.{Status}
use Rattle.nvme_spec.specs.declared.config.ControllerConfig.{ControllerConfig}
use Rattle.nvme_spec.specs.Blocks.{Device}
use Rattle.nvme_spec.specs.Configuration.{Configuration}
use Rattle.nvme_driver.specs.declared.answer.Answer.TheVariants.{Done}
use Rattle.nvme_event.specs.declared.event.FleetEvent.{FleetEvent}
use Rattle.nvme_event.specs.declared.event.FleetEvent.TheVariants.{Poll}
use Rattle.nvme_event.specs.declared.seen.FleetSeen.TheVariants.{Polled}
use Rattle.nvme_event.specs.Replies.{Reply}
use Rattle.nvme_mailbox.specs.Mailboxes.{Mailbox}
use Rattle.nvme_mailbox.specs.Fleets.{Fleet, Step, Run, opening}
use Rattle.nvme_mailbox.specs.Apart.{HasMailbox}
use Rattle.nvme_mailbox.specs.Answered.{IsClear, WasPlacedAndExecuted}

-- in the configuration, the host of the controller at place i is not raw
abbrev pub HasDriver : Configuration → ℕ → Type 0
HasDriver c i = (k : ControllerConfig) × (slice_get c.controllers i ≡ Some k) × (k.raw ≡ false)

-- In every run from an opening: if a driver is down, neither a request nor an answer waits.
abbrev pub DownIsClear : Type 0
DownIsClear =
    (tells : Bool) → (c : Configuration) → (d : Device) → (f : Fleet) → (events : List FleetEvent)
    → (replies : List Reply) → Run tells (opening c d) events replies f
    → (i : ℕ) → HasDriver c i → (m : Mailbox) → HasMailbox f (i + 1) m → m.up ≡ false → IsClear m

-- So a request that a Poll delivers as done after the driver was down was placed, and then executed, since then.
abbrev pub DoneSinceItCameUp : Type 0
DoneSinceItCameUp =
    (tells : Bool) → (c : Configuration) → (d : Device) → (old mid new : Fleet) → (before : List FleetEvent)
    → (given : List Reply) → Run tells (opening c d) before given old
    → (events : List FleetEvent) → (replies : List Reply) → (run : Run tells old events replies mid)
    → (i : ℕ) → HasDriver c i → (m : Mailbox) → HasMailbox old (i + 1) m → m.up ≡ false
    → (reply : Reply) → Step tells mid (Poll (i + 1)) reply new
    → (ticket dw0 len : ℕ) → (status : Status)
    → reply.seen ≡ Polled (Ok (Some (Done (record { 0 = ticket }) status dw0 len)))
    → (len ≡ length reply.bytes)
    × WasPlacedAndExecuted tells (i + 1) ticket (record { status = status; dw0 = dw0; bytes = reply.bytes }) old events
    replies mid run
