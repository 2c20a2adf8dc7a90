-- Example runs of the laws on the calls of the medium that a run makes.
use Rattle.std.specs.Prelude.{◌≡◌, ℕ, true, List, [], ◌∷◌, Ok, replicate}
use Rattle.nvme_spec.specs.FaultFreeCalls.{content_step}
use Rattle.nvme_spec.specs.MediumCalls.{Calls, MediumCall, Writes}
use Rattle.nvme_machine.specs.EventCalls as machine
use Rattle.nvme_event.specs.declared.event.FleetEvent.{FleetEvent}
use Rattle.nvme_event.specs.declared.event.FleetEvent.TheVariants.{Execute}
use Rattle.nvme_event.specs.Replies.{Reply}
use Rattle.nvme_fleet.specs.FleetStates.{Layers}
use Rattle.nvme_fleet.specs.LayerCalls.{AreCallsOfRun}
use Rattle.nvme_theorem_runs.specs.Cluster.{blocks}
use Rattle.nvme_theorem_runs.specs.Fencing.{after_fenced, fenced, fenced_events, fenced_seen}
use Rattle.nvme_session_runs.specs.BothLayers.{executed_at, raw_layers, reply_at}

abbrev pub one_write : List MediumCall
one_write = Writes 1 (replicate 512 0) (Ok tt) ∷ []

abbrev pub execution : List FleetEvent
execution = Execute 2 1 ∷ []

-- RunsHaveCalls and RunCallsAreUnique for a fleet: the execution of a Write Zeroes writes block 1, and makes no other
-- call. RunCallsAreComputed for a subsystem: nor does the run of FencingAtWork, in which the other host's is denied.
pub record CallsAtWork : Type 0 where
  pub calls : AreCallsOfRun true raw_layers execution (reply_at 2 1 ∷ []) (executed_at 2 1) one_write
  pub only : (other : Layers) (others : List Reply) (these : List MediumCall) (left : List ℕ)
      → AreCallsOfRun true raw_layers execution others other these
      → Calls content_step blocks.content these left → other.subsystem.device.failures ≡ 0 → these ≡ one_write
  pub computed : (these : List MediumCall) (left : List ℕ)
      → machine.AreCallsOfRun true fenced fenced_events fenced_seen after_fenced these
      → Calls content_step blocks.content these left → (these ≡ one_write) × (left ≡ after_fenced.device.content)
