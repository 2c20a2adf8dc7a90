-- An example run of both layers of a fleet whose hosts have drivers, for the theorem that a run is the only one.
use Rattle.std.specs.Prelude.{◌≡◌, ◌<◌, ◌-◌, ◌^◌, true, false, List, [], ◌∷◌, take, Option, Some, Ok}
use Rattle.nvme_driver.specs.declared.answer.Answer.TheVariants.{Aborted}
use Rattle.nvme_driver.specs.declared.request.Request.TheVariants.{Flush}
use Rattle.nvme_driver.specs.Drivers.{Driver, entry_of, new_driver}
use Rattle.nvme_machine.specs.declared.fetched.FetchedCommand.{FetchedCommand}
use Rattle.nvme_machine.specs.declared.seen.Fetched.TheVariants.{Took}
use Rattle.nvme_event.specs.declared.event.FleetEvent.{FleetEvent}
use Rattle.nvme_event.specs.declared.event.FleetEvent.TheVariants.{BringUp, Fetch, Place, Poll, PowerCycle, Reset, Ring}
use Rattle.nvme_event.specs.declared.seen.FleetSeen.TheVariants as seen
use Rattle.nvme_event.specs.Replies.{Reply}
use Rattle.nvme_mailbox.specs.Deliveries.{plain}
use Rattle.nvme_fleet.specs.FleetStates.{Layers, opening_layers}
use Rattle.nvme_fleet.specs.Layers.{Run}
use Rattle.nvme_fleet.specs.Unique.{HaveTicketsOnce}
use Rattle.nvme_theorem_runs.specs.Cluster.{blocks, fetched_of, pair}

-- The opening of the two controllers of hosts a1h and b2h: both have drivers, which are down.
abbrev pub opened : Layers
opened = opening_layers pair blocks

-- Host a1h brings its controller up and places a Flush, whose ticket is 1. The controller fetches the command, a reset
-- aborts the request, and a poll delivers it as aborted. Then power is lost.
abbrev pub events : List FleetEvent
events = BringUp 1 ∷ Place 1 (Flush 1) ∷ Ring 1 ∷ Fetch 1 1 ∷ Reset 1 ∷ Poll 1 ∷ PowerCycle ∷ []

abbrev pub replies : List Reply
replies = plain (seen.Up (Ok tt)) ∷ plain (seen.Placed (Ok (record { 0 = 1 }))) ∷ plain (seen.Rung (Ok tt))
    ∷ plain (seen.Fetched Took) ∷ plain seen.Reset
    ∷ plain (seen.Polled (Ok (Some (Aborted (record { 0 = 1 }))))) ∷ plain seen.Cycled ∷ []

-- Both drivers are down in the end. The next ticket of host a1h is 2.
abbrev pub last_drivers : List (Option Driver)
last_drivers = Some (new_driver 2) ∷ Some (new_driver 1) ∷ []

-- The command of that request, as the controller has fetched it from I/O submission queue 1. It is in slot 0.
abbrev pub fetched_flush : FetchedCommand
fetched_flush = record { entry = entry_of (Flush 1) 0; queue = 1; marked = false }

-- LayersRunIsUnique: the events have this run, and every other run without a fault is this one. After four events the
-- controller has fetched the command.
pub record DriversAtWork : Type 0 where
  pub once : HaveTicketsOnce opened
  pub between : Layers
  pub begins : Run true opened (take 4 events) (take 4 replies) between
  pub fetched : fetched_of between.subsystem 1 ≡ fetched_flush ∷ []
  pub left : Layers
  pub run : Run true opened events replies left
  pub drivers : left.drivers ≡ last_drivers
  pub kept : HaveTicketsOnce left
  pub alone : (other : Layers) (others : List Reply) → Run true opened events others other
      → other.subsystem.device.failures ≡ 0 → (others ≡ replies) × (other ≡ left)

-- LayersRunIsUnique without its premise that no driver has a ticket twice.
abbrev pub RunOfAnyTickets : Type 0
RunOfAnyTickets =
    (old new other : Layers) → (events : List FleetEvent) → (replies others : List Reply)
    → Run true old events replies new → Run true old events others other
    → new.subsystem.device.failures ≡ old.subsystem.device.failures
    → other.subsystem.device.failures ≡ old.subsystem.device.failures
    → old.subsystem.device.failures < 2 ^ 64 - 1
    → (others ≡ replies) × (other ≡ new)
