-- For `fleet_driver_events.rt`: the events of the subsystem for calls of a driver and of its port.
use Rattle.std.specs.Prelude.{[], ◌∷◌, ◌≡◌, ℕ, List, Bool, None, Some, Ok, Err}
use Rattle.nvme_driver.specs.declared.answer.Answer.TheVariants.{Done, Aborted}
use Rattle.nvme_driver.specs.declared.ticket.Ticket.{Ticket}
use Rattle.nvme_wire.specs.declared.status.Status.{Status}
use Rattle.nvme_driver.specs.declared.faults.NotUp.{NotUp}
use Rattle.nvme_driver.specs.declared.faults.PollFault.{PollFault}
use Rattle.nvme_driver.specs.declared.lane.Lane.{Lane}
use Rattle.nvme_driver.specs.Calls.{Reads}
use Rattle.nvme_driver.specs.Drivers.{Driver}
use Rattle.nvme_driver.specs.Layout.{head_doorbell}
use Rattle.nvme_machine.specs.declared.event.Event.TheVariants.{Write32}
use Rattle.nvme_machine.specs.declared.seen.Seen.{Seen}
use Rattle.nvme_machine.specs.declared.seen.Seen.TheVariants.{Value}
use Rattle.nvme_machine.specs.Subsystems.{Subsystem}
use Rattle.nvme_event.specs.declared.event.FleetEvent.TheVariants.{Reset}
use Rattle.nvme_event.specs.declared.seen.FleetSeen.{FleetSeen}
use Rattle.nvme_event.specs.declared.seen.FleetSeen.TheVariants as seen
use Rattle.nvme_fleet.specs.FleetStates.{Layers}
use Rattle.nvme_fleet.specs.Layers.{Happens}
use Rattle.nvme_fleet.specs.DriverEvents.{ReturnsWhatIsSeen, Rings, Consumes, Ran, Resets}

pub fleet_port_results_law : (given : List Seen) → ReturnsWhatIsSeen (Reads 0x1c 1) [] given → given ≡ Value 1 ∷ []
fleet_port_results_law given x = x

pub fleet_refused_rings_driver : (tells : Bool) → (k : ℕ) → (d e : Driver) → (before after : Subsystem)
    → (why : NotUp) → Rings tells k d before (Err why) e after → e ≡ d
fleet_refused_rings_driver tells k d e before after why x = let both : (e ≡ d) × (after ≡ before) = x in both.0

pub fleet_refused_rings_subsystem : (tells : Bool) → (k : ℕ) → (d e : Driver) → (before after : Subsystem)
    → (why : NotUp) → Rings tells k d before (Err why) e after → after ≡ before
fleet_refused_rings_subsystem tells k d e before after why x = let both : (e ≡ d) × (after ≡ before) = x in both.1

pub fleet_delivered_answers_done : (tells : Bool) → (k : ℕ) → (before after : Subsystem) → (ticket : Ticket)
    → (status : Status) → (dw0 len : ℕ) → Consumes tells k before (Ok (Some (Done ticket status dw0 len))) after
    → (lane : Lane) × (head : ℕ) × Ran tells before (Write32 k (head_doorbell lane) head ∷ []) after
fleet_delivered_answers_done tells k before after ticket status dw0 len x = x

pub fleet_delivered_answers_aborted : (tells : Bool) → (k : ℕ) → (before after : Subsystem) → (ticket : Ticket)
    → Consumes tells k before (Ok (Some (Aborted ticket))) after → after ≡ before
fleet_delivered_answers_aborted tells k before after ticket x = x

pub fleet_delivered_answers_none : (tells : Bool) → (k : ℕ) → (before after : Subsystem)
    → Consumes tells k before (Ok None) after → after ≡ before
fleet_delivered_answers_none tells k before after x = x

pub fleet_delivered_answers_failed : (tells : Bool) → (k : ℕ) → (before after : Subsystem) → (why : PollFault)
    → Consumes tells k before (Err why) after → after ≡ before
fleet_delivered_answers_failed tells k before after why x = x

pub fleet_resets_gives : (tells : Bool) → (d : Driver) → (s : Subsystem) → (what : FleetSeen) → (after : Layers)
    → Happens tells (record { subsystem = s; drivers = Some d ∷ [] }) (Reset 1) what after → what ≡ seen.Reset
fleet_resets_gives tells d s what after x = x.2.2.0

pub fleet_resets_effect : (tells : Bool) → (d : Driver) → (s : Subsystem) → (what : FleetSeen) → (after : Layers)
    → Happens tells (record { subsystem = s; drivers = Some d ∷ [] }) (Reset 1) what after → (e : Driver)
    × Resets tells 1 d s e after.subsystem
fleet_resets_effect tells d s what after x = (x.2.0, x.2.2.1)

pub fleet_resets_raw : (tells : Bool) → (s : Subsystem) → (what : FleetSeen) → (after : Layers)
    → Happens tells (record { subsystem = s; drivers = None ∷ [] }) (Reset 1) what after → what ≡ seen.NoDriver
fleet_resets_raw tells s what after x =
    let none : (what ≡ seen.NoDriver) × (x.0 ≡ None) × (after.subsystem ≡ s) = x.2 in none.0

pub fleet_resets_raw_unchanged : (tells : Bool) → (s : Subsystem) → (what : FleetSeen) → (after : Layers)
    → Happens tells (record { subsystem = s; drivers = None ∷ [] }) (Reset 1) what after → after.subsystem ≡ s
fleet_resets_raw_unchanged tells s what after x = x.2.2
