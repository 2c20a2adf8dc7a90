-- The events of the subsystem that each call of a driver is: exactly these events of its controller, in this order.
use Rattle.std.specs.Prelude.{
  ◌≡◌,
  ◌+◌,
  ℕ,
  Bool,
  List,
  [],
  ◌∷◌,
  ◌++◌,
  length,
  slice_range,
  Option,
  Some,
  None,
  Result,
  Ok,
  Err,
}
use Rattle.nvme_driver.specs.declared.request.Request.{Request}
use Rattle.nvme_driver.specs.declared.ticket.Ticket.{Ticket}
use Rattle.nvme_driver.specs.declared.answer.Answer.{Answer}
use Rattle.nvme_driver.specs.declared.answer.Answer.TheVariants.{Done, Aborted}
use Rattle.nvme_driver.specs.declared.faults.NotUp.{NotUp}
use Rattle.nvme_driver.specs.declared.faults.PlaceRefusal.{PlaceRefusal}
use Rattle.nvme_driver.specs.declared.faults.PollFault.{PollFault}
use Rattle.nvme_driver.specs.declared.faults.UpFault.{UpFault}
use Rattle.nvme_driver.specs.declared.lane.Lane.{Lane}
use Rattle.nvme_driver.specs.declared.lane.Lane.TheVariants.{Admin, Io}
use Rattle.nvme_driver.specs.Calls.{Call, Stores, Writes, Reads, Turns, Sees, Loads}
use Rattle.nvme_driver.specs.Drivers.{Driver, free_slot, placed, stores_of, tail_of, after_reset, cc}
use Rattle.nvme_driver.specs.Layout.{tail_doorbell, head_doorbell}
use Rattle.nvme_driver.specs.Polls.{IsOldest, polled, seen_in}
use Rattle.nvme_driver.specs.Rises.{Rises}
use Rattle.nvme_machine.specs.declared.event.Event.{Event}
use Rattle.nvme_machine.specs.declared.event.Event.TheVariants.{Store, Write32, Read32, Fetch, Execute}
use Rattle.nvme_machine.specs.declared.seen.Seen.{Seen}
use Rattle.nvme_machine.specs.declared.seen.Seen.TheVariants.{Value}
use Rattle.nvme_machine.specs.Controllers.{Controller}
use Rattle.nvme_machine.specs.Subsystems.{Subsystem, Run, controller_at}
use Rattle.nvme_event.specs.declared.seen.FleetSeen.{FleetSeen}
use Rattle.nvme_event.specs.declared.seen.FleetSeen.TheVariants as seen
use Rattle.nvme_fleet.specs.declared.driver_call.DriverCall.{DriverCall}
use Rattle.nvme_fleet.specs.declared.driver_call.DriverCall.TheVariants.{BringUp, Place, Ring, Poll, Reset}
use Rattle.nvme_fleet.specs.Linked.{Linked}

-- the window of controller k
abbrev pub window_of : Option Controller → List ℕ
window_of None = []
window_of (Some c) = c.window

abbrev pub window_at : Subsystem → ℕ → List ℕ
window_at s k = window_of (controller_at s k)

-- the events of controller k for a call of its driver's port
abbrev pub events_of : ℕ → Call → List Event
events_of k (Stores address bytes) = Store k address (record { ref_ptr = (0, 0); now = bytes }) ∷ []
events_of k (Writes offset v) = Write32 k offset v ∷ []
events_of k (Reads offset v) = Read32 k offset ∷ []
events_of k Turns = Fetch k 0 ∷ Execute k 0 ∷ []
events_of k (Sees lane head expected seen) = []
events_of k (Loads at part) = []

-- a read returns the value of its event; a look and a load return what the window has
abbrev pub ReturnsWhatIsSeen : Call → List ℕ → List Seen → Type 0
ReturnsWhatIsSeen (Stores address bytes) window given = Unit {0}
ReturnsWhatIsSeen (Writes offset v) window given = Unit {0}
ReturnsWhatIsSeen (Reads offset v) window given = given ≡ Value v ∷ []
ReturnsWhatIsSeen Turns window given = Unit {0}
ReturnsWhatIsSeen (Sees lane head expected seen) window given = seen ≡ seen_in lane head expected window
ReturnsWhatIsSeen (Loads at part) window given = part ≡ slice_range window at (at + length part)

-- a call at controller k is a run of the subsystem over exactly its events, and returns their result
pub record CallStep (tells : Bool) (k : ℕ) (old : Subsystem) (call : Call) (new : Subsystem) : Type 0 where
  pub given : List Seen
  pub run : Run tells old (events_of k call) given new
  pub answers : ReturnsWhatIsSeen call (window_at old k) given

-- a call over a link, which reaches the same controller afterwards, in the same way
pub record CallOver (tells : Bool) (old : Linked) (call : Call) (new : Linked) : Type 0 where
  pub step : CallStep tells (old.place + 1) old.subsystem call new.subsystem
  pub place : new.place ≡ old.place
  pub name : new.name ≡ old.name

-- the events of several calls
abbrev pub events_of_calls : ℕ → List Call → List Event
events_of_calls k [] = []
events_of_calls k (call ∷ calls) = events_of k call ++ events_of_calls k calls

-- a run of the subsystem over exactly these events
abbrev pub Ran : Bool → Subsystem → List Event → Subsystem → Type 0
Ran tells old events new = (given : List Seen) × Run tells old events given new

-- A placing stores the data, the list page and the entry, in the lowest free slot; if it is refused, there is no event.
abbrev pub Places : Bool → ℕ → Request → Driver → Subsystem → Result Ticket PlaceRefusal → Driver → Subsystem → Type 0
Places tells k request d old (Ok ticket) d' new =
    (slot : ℕ) × (free_slot d ≡ Some slot) × (d' ≡ placed d request slot)
    × Ran tells old (events_of_calls k (stores_of d request slot)) new
Places tells k request d old (Err why) d' new = (d' ≡ d) × (new ≡ old)

-- A ringing writes both tail doorbells; if it is refused, there is no event.
abbrev pub ring_events : ℕ → Driver → List Event
ring_events k d = Write32 k (tail_doorbell Admin) (tail_of d.admin) ∷ Write32 k (tail_doorbell Io) (tail_of d.io) ∷ []

abbrev pub Rings : Bool → ℕ → Driver → Subsystem → Result (Unit {0}) NotUp → Driver → Subsystem → Type 0
Rings tells k d old (Ok u) d' new = (d' ≡ d) × Ran tells old (ring_events k d) new
Rings tells k d old (Err e) d' new = (d' ≡ d) × (new ≡ old)

-- A poll writes one head doorbell exactly if it delivers a completion; otherwise there is no event.
abbrev pub Consumes : Bool → ℕ → Subsystem → Result (Option Answer) PollFault → Subsystem → Type 0
Consumes tells k old (Ok (Some (Done ticket status dw0 len))) new =
    (lane : Lane) × (head : ℕ) × Ran tells old (Write32 k (head_doorbell lane) head ∷ []) new
Consumes tells k old (Ok (Some (Aborted ticket))) new = new ≡ old
Consumes tells k old (Ok None) new = new ≡ old
Consumes tells k old (Err fault) new = new ≡ old

-- Some request, or none, is the oldest aborted one, and the poll's outcome gives its answer, the driver and the calls.
pub record Polls (tells : Bool) (k : ℕ) (d : Driver) (old : Subsystem) (result : Result (Option Answer) PollFault)
    (d' : Driver) (new : Subsystem) : Type 0 where
  pub oldest : Option ℕ
  pub is_oldest : IsOldest d.slots oldest
  pub gives : result ≡ (polled d oldest (window_at old k)).answer
  pub driver : d' ≡ (polled d oldest (window_at old k)).driver
  pub ran : Ran tells old (events_of_calls k (polled d oldest (window_at old k)).calls) new
  pub consumes : Consumes tells k old result new

-- A reset writes 0 to Controller Configuration.
abbrev pub reset_events : ℕ → List Event
reset_events k = Write32 k cc 0 ∷ []

abbrev pub Resets : Bool → ℕ → Driver → Subsystem → Driver → Subsystem → Type 0
Resets tells k d old d' new = (d' ≡ after_reset d) × Ran tells old (reset_events k) new

-- A driver comes up by calls that are each exactly their events; one that is up stays up.
abbrev pub ComesUp : Bool → ℕ → Driver → Subsystem → Result (Unit {0}) UpFault → Driver → Subsystem → Type 0
ComesUp tells k d old (Ok u) d' new = Rises (CallStep tells k) d old (Ok u) d' new
ComesUp tells k d old (Err fault) d' new = (d' ≡ d) × (new ≡ old)

-- The result of a call of controller k's driver, and its effect on the driver and the subsystem.
abbrev pub Does : Bool → ℕ → DriverCall → Driver → Subsystem → FleetSeen → Driver → Subsystem → Type 0
Does tells k BringUp d old what d' new =
    (result : Result (Unit {0}) UpFault) × (what ≡ seen.Up result) × ComesUp tells k d old result d' new
Does tells k (Place request) d old what d' new =
    (result : Result Ticket PlaceRefusal) × (what ≡ seen.Placed result) × Places tells k request d old result d' new
Does tells k Ring d old what d' new =
    (result : Result (Unit {0}) NotUp) × (what ≡ seen.Rung result) × Rings tells k d old result d' new
Does tells k Poll d old what d' new =
    (result : Result (Option Answer) PollFault) × (what ≡ seen.Polled result) × Polls tells k d old result d' new
Does tells k Reset d old what d' new = (what ≡ seen.Reset) × Resets tells k d old d' new

-- A raw host has no driver, and nothing happens.
abbrev pub DoesIfAny : Bool → ℕ → DriverCall → Option Driver → Subsystem → FleetSeen → Option Driver → Subsystem
    → Type 0
DoesIfAny tells k call None old what e new = (what ≡ seen.NoDriver) × (e ≡ None) × (new ≡ old)
DoesIfAny tells k call (Some d) old what e new = (d' : Driver) × (e ≡ Some d') × Does tells k call d old what d' new
