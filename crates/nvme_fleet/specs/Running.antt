-- A run of events whose replies are appended to others, for the contract of `Fleet::run`.
use Rattle.std.specs.Prelude.{◌≡◌, ◌<◌, ℕ, Bool, List, [], ◌∷◌, ◌++◌, length, take}
use Rattle.nvme_spec.specs.Limits.{most_bytes}
use Rattle.nvme_event.specs.declared.event.FleetEvent.{FleetEvent}
use Rattle.nvme_event.specs.declared.event.FleetEvent.TheVariants.{Poll}
use Rattle.nvme_event.specs.Replies.{Reply}
use Rattle.nvme_spec.specs.MediumCalls.{MediumCall, MakesCalls}
use Rattle.nvme_subsys.specs.OverMedium.{OverMedium}
use Rattle.nvme_fleet.specs.FleetStates.{FleetState, data_in, layers_of}
use Rattle.nvme_fleet.specs.LayerCalls.{AreCallsOfRun}
use Rattle.nvme_fleet.specs.Layers.{Run}

-- the data after events: those of the last one, or the former ones if there was none
abbrev pub data_behind : List ℕ → List Reply → List ℕ
data_behind before [] = before
data_behind before (reply ∷ later) = data_behind reply.bytes later

-- the run, and the calls of the medium that it made
pub record RunsBehind {M : Type 0} (step : M → MediumCall → M → Type 0) (tells : Bool) (before : List Reply)
    (old : OverMedium FleetState M) (events : List FleetEvent) (after : List Reply) (new : OverMedium FleetState M)
    : Type 0 where
  pub added : List Reply
  pub behind : after ≡ before ++ added
  pub ran : Run tells (layers_of old.state) events added (layers_of new.state)
  pub calls : MakesCalls step (AreCallsOfRun tells (layers_of old.state) events added (layers_of new.state)) old.medium
      new.medium
  pub holds : data_in new.state ≡ data_behind (data_in old.state) added

-- only the events before some place have happened
pub record RunsInPart {M : Type 0} (step : M → MediumCall → M → Type 0) (tells : Bool) (before : List Reply)
    (old : OverMedium FleetState M) (events : List FleetEvent) (after : List Reply) (new : OverMedium FleetState M)
    : Type 0 where
  pub count : ℕ
  pub fewer : count < length events
  pub runs : RunsBehind step tells before old (take count events) after new

-- the most bytes of an event's data
abbrev pub room_for : FleetEvent → ℕ
room_for (Poll k) = most_bytes
room_for other = 0
