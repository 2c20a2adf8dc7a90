-- For `fleet_runs.rt`: runs of a fleet without an event, and turns of a controller.
use Rattle.std.proofs.Common.{arith}
use Rattle.std.specs.Prelude.{[], ◌+◌, ◌<◌, ◌≡◌, ◌≤◌, ℕ, List, Bool, length}
use Rattle.nvme_spec.specs.MediumCalls.{MediumCall, MakesCalls}
use Rattle.nvme_medium.specs.Examples.{logs}
use Rattle.nvme_driver.specs.Calls.{Turns}
use Rattle.nvme_machine.specs.Subsystems.{Subsystem}
use Rattle.nvme_event.specs.declared.event.FleetEvent.{FleetEvent}
use Rattle.nvme_event.specs.Replies.{Reply}
use Rattle.nvme_subsys.specs.OverMedium.{OverMedium}
use Rattle.nvme_fleet.specs.FleetStates.{FleetState, Layers, IsSoundFleet}
use Rattle.nvme_fleet.specs.AllowedCalls.{CallsWhere}
use Rattle.nvme_fleet.specs.LinkCalls.{ReachesMedium, AreCallsOfTurn}
use Rattle.nvme_fleet.specs.Linked.{IsThere, Linked, KeepsSite, Reaches, linked_controller}
use Rattle.nvme_fleet.specs.RawEvents.{IsOfHost}
use Rattle.nvme_machine.specs.declared.event.Event.TheVariants.{Read32}
use Rattle.nvme_fleet.specs.Running.{RunsInPart}

pub fleet_empty_runs_unchanged : (tells : Bool) → (before after : Layers) → (calls : List MediumCall)
    → CallsWhere (λ l event. ⊥) tells before [] [] after calls → after ≡ before
fleet_empty_runs_unchanged tells before after calls x = let both : (after ≡ before) × (calls ≡ []) = x in both.0

pub fleet_empty_runs_calls : (tells : Bool) → (before after : Layers) → (calls : List MediumCall)
    → CallsWhere (λ l event. ⊥) tells before [] [] after calls → calls ≡ []
fleet_empty_runs_calls tells before after calls x = let both : (after ≡ before) × (calls ≡ []) = x in both.1

pub fleet_turns_calls : (tells : Bool) → (k : ℕ) → (before after : Subsystem) → (made : List MediumCall)
    → ReachesMedium logs tells k before after Turns [] made
    → MakesCalls logs (AreCallsOfTurn tells k before after) [] made
fleet_turns_calls tells k before after made x = x

pub fleet_links_zero : (s : Subsystem) → IsThere s 0 → ⊥
fleet_links_zero s x = omega (arith, x.0)

pub fleet_links_last : (s : Subsystem) → length s.controllers ≡ 2 → IsThere s 2
fleet_links_last s two = (omega arith, omega (arith, two))

pub fleet_links_beyond : (s : Subsystem) → length s.controllers ≡ 2 → IsThere s 3 → ⊥
fleet_links_beyond s two x = omega (arith, two, x.1)

pub fleet_links_name : (before after : Linked) → KeepsSite before after → after.name ≡ before.name
fleet_links_name before after x = x.name

pub fleet_links_reached : (p : Linked) → Reaches p → p.place < length p.subsystem.controllers
fleet_links_reached p x =
    let both : (p.place < length p.subsystem.controllers) × ((linked_controller p).cntlid ≡ p.place + 1) = x in both.0

pub fleet_buffers_filled : (s : FleetState) → IsSoundFleet s → s.filled ≤ length s.buffer
fleet_buffers_filled s x = x.fits

pub fleet_other_events_looked : IsOfHost (Read32 7 0x14) → ⊥
fleet_other_events_looked x = x

pub fleet_partial_runs_fewer : (tells : Bool) → (gave all : List Reply)
    → (before after : OverMedium FleetState (List MediumCall)) → (events : List FleetEvent)
    → (x : RunsInPart logs tells gave before events all after) → x.count < length events
fleet_partial_runs_fewer tells gave all before after events x = x.fewer
