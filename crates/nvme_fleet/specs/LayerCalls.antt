-- The calls of the medium that the events of a fleet make: an execution makes those of its command, and no other event
-- makes any; bringing up makes none either, since it executes only admin commands.
use Rattle.std.specs.Prelude.{◌≡◌, Bool, List, [], ◌∷◌, ◌++◌}
use Rattle.nvme_spec.specs.MediumCalls.{MediumCall}
use Rattle.nvme_machine.specs.declared.event.Event.{Event}
use Rattle.nvme_machine.specs.declared.event.Event.TheVariants as event
use Rattle.nvme_machine.specs.declared.seen.Seen.{Seen}
use Rattle.nvme_machine.specs.EventCalls as machine
use Rattle.nvme_event.specs.declared.event.FleetEvent.{FleetEvent}
use Rattle.nvme_event.specs.declared.event.FleetEvent.TheVariants.{
  BringUp,
  Place,
  Ring,
  Fetch,
  Execute,
  Poll,
  Reset,
  RawStore,
  RawWrite32,
  PowerCycle,
}
use Rattle.nvme_event.specs.declared.seen.FleetSeen.{FleetSeen}
use Rattle.nvme_event.specs.Replies.{Reply}
use Rattle.nvme_fleet.specs.FleetStates.{Layers, fleet_in}
use Rattle.nvme_mailbox.specs.Fleets as mailboxes
use Rattle.nvme_fleet.specs.Layers.{Happens, Step, Run, told}

-- One event of the subsystem, and its calls; all drivers stay.
pub record AppliesCalling (tells : Bool) (old : Layers) (event : Event) (what : FleetSeen) (new : Layers)
    (calls : List MediumCall) : Type 0 where
  pub given : Seen
  pub step : machine.AreCallsOfStep tells old.subsystem event given new.subsystem calls
  pub gives : what ≡ told given
  pub drivers : new.drivers ≡ old.drivers

-- the events of the subsystem for an event of a fleet, and the calls that it makes
abbrev pub HappensCalling : Bool → Layers → FleetEvent → FleetSeen → Layers → List MediumCall → Type 0
HappensCalling tells old (BringUp k) what new calls = Happens tells old (BringUp k) what new × (calls ≡ [])
HappensCalling tells old (Place k request) what new calls = Happens tells old (Place k request) what new × (calls ≡ [])
HappensCalling tells old (Ring k) what new calls = Happens tells old (Ring k) what new × (calls ≡ [])
HappensCalling tells old (Fetch k q) what new calls = Happens tells old (Fetch k q) what new × (calls ≡ [])
HappensCalling tells old (Execute k i) what new calls = AppliesCalling tells old (event.Execute k i) what new calls
HappensCalling tells old (Poll k) what new calls = Happens tells old (Poll k) what new × (calls ≡ [])
HappensCalling tells old (Reset k) what new calls = Happens tells old (Reset k) what new × (calls ≡ [])
HappensCalling tells old (RawStore k address bytes) what new calls =
    Happens tells old (RawStore k address bytes) what new × (calls ≡ [])
HappensCalling tells old (RawWrite32 k offset v) what new calls =
    Happens tells old (RawWrite32 k offset v) what new × (calls ≡ [])
HappensCalling tells old PowerCycle what new calls = Happens tells old PowerCycle what new × (calls ≡ [])

-- One event, for both layers at once, and the calls that it makes.
pub record AreCallsOfStep (tells : Bool) (old : Layers) (event : FleetEvent) (reply : Reply) (new : Layers)
    (calls : List MediumCall) : Type 0 where
  pub mailboxes : mailboxes.Step tells (fleet_in old) event reply (fleet_in new)
  pub below : HappensCalling tells old event reply.seen new calls

-- Events in order, with their calls. There is one state between two events, and the calls of the first come
-- before those of the second.
abbrev pub AreCallsOfRun : Bool → Layers → List FleetEvent → List Reply → Layers → List MediumCall → Type 0
AreCallsOfRun tells old [] [] new calls = (new ≡ old) × (calls ≡ [])
AreCallsOfRun tells old (event ∷ events) (reply ∷ later) new calls =
    (mid : Layers) × (here : List MediumCall) × (behind : List MediumCall)
    × AreCallsOfStep tells old event reply mid here × AreCallsOfRun tells mid events later new behind
    × (calls ≡ here ++ behind)
AreCallsOfRun tells old [] (reply ∷ later) new calls = ⊥
AreCallsOfRun tells old (event ∷ events) [] new calls = ⊥

-- A step with calls is a step of both layers, and a run with calls is a run of both.
abbrev pub LayerCallsAreOfAStep : Type 0
LayerCallsAreOfAStep =
    (tells : Bool) → (old new : Layers) → (event : FleetEvent) → (reply : Reply) → (calls : List MediumCall)
    → AreCallsOfStep tells old event reply new calls → Step tells old event reply new

abbrev pub LayerCallsAreOfARun : Type 0
LayerCallsAreOfARun =
    (tells : Bool) → (old new : Layers) → (events : List FleetEvent) → (replies : List Reply)
    → (calls : List MediumCall) → AreCallsOfRun tells old events replies new calls → Run tells old events replies new
