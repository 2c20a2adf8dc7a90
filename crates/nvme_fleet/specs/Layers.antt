-- The two layers of a fleet at once, the subsystem and the driver of each controller's host, and the effect of each
-- event on both: on their mailboxes, and on the subsystem, event by event.
use Rattle.std.specs.Prelude.{
  ◌≡◌,
  ◌+◌,
  ℕ,
  zero,
  suc,
  Bool,
  List,
  [],
  ◌∷◌,
  ◌++◌,
  map,
  Option,
  None,
  Some,
  option_map,
  slice_get,
  slice_set,
}
use Rattle.nvme_driver.specs.Drivers.{Driver, after_reset}
use Rattle.nvme_machine.specs.declared.event.Event.{Event}
use Rattle.nvme_machine.specs.declared.event.Event.TheVariants as event
use Rattle.nvme_machine.specs.declared.seen.Seen.{Seen}
use Rattle.nvme_machine.specs.declared.seen.Seen.TheVariants as given
use Rattle.nvme_machine.specs.Subsystems as machine
use Rattle.nvme_machine.specs.Subsystems.{Subsystem}
use Rattle.nvme_event.specs.declared.event.FleetEvent.{FleetEvent}
use Rattle.nvme_event.specs.declared.event.FleetEvent.TheVariants.{
  BringUp,
  Place,
  Ring,
  Fetch,
  Execute,
  Poll,
  Reset,
  RawStore,
  RawWrite32,
  PowerCycle,
}
use Rattle.nvme_event.specs.declared.seen.FleetSeen.{FleetSeen}
use Rattle.nvme_event.specs.declared.seen.FleetSeen.TheVariants as seen
use Rattle.nvme_event.specs.Replies.{Reply}
use Rattle.nvme_fleet.specs.declared.driver_call.DriverCall.{DriverCall}
use Rattle.nvme_fleet.specs.declared.driver_call.DriverCall.TheVariants as call
use Rattle.nvme_fleet.specs.DriverEvents.{DoesIfAny, Ran, reset_events}
use Rattle.nvme_fleet.specs.FleetStates.{Layers, fleet_in}
use Rattle.nvme_mailbox.specs.Fleets as mailboxes

-- the driver's place of controller k, which is empty if its host is raw
abbrev pub driver_at : List (Option Driver) → ℕ → Option (Option Driver)
driver_at drivers zero = None
driver_at drivers (suc n) = slice_get drivers n

abbrev pub with_driver : List (Option Driver) → ℕ → Option Driver → List (Option Driver)
with_driver drivers zero d = drivers
with_driver drivers (suc n) d = slice_set drivers n d

-- A call of the driver of controller k; if there is no such controller, nothing happens.
abbrev pub CallsAt : Option (Option Driver) → Bool → Layers → ℕ → DriverCall → FleetSeen → Layers → Type 0
CallsAt None tells old k call what new = (what ≡ seen.NoController) × (new ≡ old)
CallsAt (Some d) tells old k call what new =
    (e : Option Driver) × (new.drivers ≡ with_driver old.drivers k e)
    × DoesIfAny tells k call d old.subsystem what e new.subsystem

-- a result of a subsystem's event, as a fleet reports it; no event of a fleet reads a register
abbrev pub told : Seen → FleetSeen
told given.Stored = seen.Stored
told given.Outside = seen.Outside
told given.Wrote = seen.Wrote
told (given.Value v) = seen.Wrote
told (given.Fetched fetched) = seen.Fetched fetched
told (given.Executed executed) = seen.Executed executed
told given.Cycled = seen.Cycled
told given.NoController = seen.NoController

-- One event of the subsystem; all drivers stay.
pub record Applies (tells : Bool) (old : Layers) (event : Event) (what : FleetSeen) (new : Layers) : Type 0 where
  pub given : Seen
  pub step : machine.Step tells old.subsystem event given new.subsystem
  pub gives : what ≡ told given
  pub drivers : new.drivers ≡ old.drivers

-- An event of a raw host; a host with a driver is refused, and nothing happens.
abbrev pub AppliesRaw : Option (Option Driver) → Bool → Layers → Event → FleetSeen → Layers → Type 0
AppliesRaw None tells old event what new = (what ≡ seen.NoController) × (new ≡ old)
AppliesRaw (Some None) tells old event what new = Applies tells old event what new
AppliesRaw (Some (Some d)) tells old event what new = (what ≡ seen.NotRaw) × (new ≡ old)

-- the resets of the drivers of these hosts, from controller k; a raw host has none
abbrev pub resets_from : ℕ → List (Option Driver) → List Event
resets_from k [] = []
resets_from k (None ∷ drivers) = resets_from (k + 1) drivers
resets_from k (Some d ∷ drivers) = reset_events k ++ resets_from (k + 1) drivers

-- A power cycle: that of the subsystem, and then the resets of all drivers, which change nothing more there.
pub record Cycles (tells : Bool) (old : Layers) (what : FleetSeen) (new : Layers) : Type 0 where
  pub gives : what ≡ seen.Cycled
  pub ran : Ran tells old.subsystem (event.PowerCycle ∷ resets_from 1 old.drivers) new.subsystem
  pub cycled : new.subsystem ≡ machine.after_power_cycle old.subsystem
  pub drivers : new.drivers ≡ map (option_map after_reset) old.drivers

-- The events of the subsystem for an event of a fleet, exactly, and their effect.
abbrev pub Happens : Bool → Layers → FleetEvent → FleetSeen → Layers → Type 0
Happens tells old (BringUp k) what new = CallsAt (driver_at old.drivers k) tells old k call.BringUp what new
Happens tells old (Place k request) what new =
    CallsAt (driver_at old.drivers k) tells old k (call.Place request) what new
Happens tells old (Ring k) what new = CallsAt (driver_at old.drivers k) tells old k call.Ring what new
Happens tells old (Fetch k q) what new = Applies tells old (event.Fetch k q) what new
Happens tells old (Execute k i) what new = Applies tells old (event.Execute k i) what new
Happens tells old (Poll k) what new = CallsAt (driver_at old.drivers k) tells old k call.Poll what new
Happens tells old (Reset k) what new = CallsAt (driver_at old.drivers k) tells old k call.Reset what new
Happens tells old (RawStore k address bytes) what new =
    AppliesRaw (driver_at old.drivers k) tells old (event.Store k address bytes) what new
Happens tells old (RawWrite32 k offset v) what new =
    AppliesRaw (driver_at old.drivers k) tells old (event.Write32 k offset v) what new
Happens tells old PowerCycle what new = Cycles tells old what new

-- One event, for both layers at once.
pub record Step (tells : Bool) (old : Layers) (event : FleetEvent) (reply : Reply) (new : Layers) : Type 0 where
  pub mailboxes : mailboxes.Step tells (fleet_in old) event reply (fleet_in new)
  pub below : Happens tells old event reply.seen new

-- Events in order, and their replies. There is one state of both layers between two events.
abbrev pub Run : Bool → Layers → List FleetEvent → List Reply → Layers → Type 0
Run tells old [] [] new = new ≡ old
Run tells old (event ∷ events) (reply ∷ later) new =
    (mid : Layers) × Step tells old event reply mid × Run tells mid events later new
Run tells old [] (reply ∷ later) new = ⊥
Run tells old (event ∷ events) [] new = ⊥
