-- For `outcomes.rt`: the calls of the medium of the runs of LayerRuns and FencingRuns.
use Rattle.std.proofs.Common.{◌≡◌, ◌<◌, ◌-◌, ◌^◌, ◌∙◌, zero, suc, true, [], ◌∷◌, refl, sym, subst, arith}
use Rattle.std.specs.Prelude.{replicate}
use Rattle.nvme_spec.specs.Bytes.{with_bytes}
use Rattle.nvme_spec.specs.FaultFreeCalls.{content_step}
use Rattle.nvme_spec.specs.MediumCalls.{Calls}
use Rattle.nvme_machine.specs.declared.event.Event.TheVariants as below
use Rattle.nvme_machine.specs.EventCalls as machine
use Rattle.nvme_machine.specs.FaultFree.{fault_free_step}
use Rattle.nvme_machine.specs.FaultFreeCalls.{event_calls, fault_free_calls}
use Rattle.nvme_machine.proofs.CallLaws.{run_calls_are_computed}
use Rattle.nvme_event.specs.declared.event.FleetEvent.TheVariants.{Execute}
use Rattle.nvme_fleet.specs.LayerCalls.{AreCallsOfRun, AreCallsOfStep}
use Rattle.nvme_fleet.specs.FleetStates.{fleet_in}
use Rattle.nvme_fleet.specs.Layers.{told}
use Rattle.nvme_fleet.specs.Unique.{HaveTicketsOnce}
use Rattle.nvme_fleet.proofs.CallLaws.{run_calls_are_unique}
use Rattle.nvme_theorem_runs.specs.Cluster.{blocks, held_by_a1}
use Rattle.nvme_theorem_runs.specs.Fencing.{after_fenced, fenced, fenced_events, fenced_seen}
use Rattle.nvme_theorem_runs.proofs.Computing.{step-calls}
use Rattle.nvme_theorem_runs.proofs.FleetUnfolding.{fleet_computing}
use Rattle.nvme_theorem_runs.proofs.Laying.{laid}
use Rattle.nvme_theorem_runs.proofs.Unfolding.{computing}
use Rattle.nvme_session_runs.proofs.LayerRuns.{layers_at_work}
use Rattle.nvme_session_runs.specs.BothLayers.{executed_at, raw_layers, reply_at}
use Rattle.nvme_session_runs.specs.RunCalls.{CallsAtWork, execution, one_write}

-- A fleet.

writes-one : event_calls raw_layers.subsystem (below.Execute 2 1) ≡ one_write
unfolding computing raw_layers
writes-one = refl

calm : ((executed_at 2 1).subsystem.device.failures ≡ 0) × (raw_layers.subsystem.device.failures ≡ 0)
    × (raw_layers.subsystem.device.content ≡ blocks.content)
unfolding computing raw_layers
calm = (refl, refl, refl)

few : raw_layers.subsystem.device.failures < 2 ^ 64 - 1
few = subst (λ n. n < 2 ^ 64 - 1) (sym calm.1) (omega arith)

undriven : HaveTicketsOnce raw_layers
unfolding raw_layers
undriven zero d found = absurd (cc)
undriven (suc zero) d found = absurd (cc)
undriven (suc (suc i)) d found = absurd (cc)

seen-so : (reply_at 2 1).seen ≡ told (fault_free_step raw_layers.subsystem (below.Execute 2 1)).seen
unfolding computing fleet_computing raw_layers fleet_in
seen-so = refl

step : AreCallsOfStep true raw_layers (Execute 2 1) (reply_at 2 1) (executed_at 2 1) one_write
step = record {
  mailboxes = layers_at_work.written.mailboxes;
  below = record {
    given = (fault_free_step raw_layers.subsystem (below.Execute 2 1)).seen;
    step = subst (λ calls. machine.AreCallsOfStep true raw_layers.subsystem (below.Execute 2 1)
        (fault_free_step raw_layers.subsystem (below.Execute 2 1)).seen (executed_at 2 1).subsystem calls) writes-one
        (step-calls raw_layers.subsystem (below.Execute 2 1) layers_at_work.laid);
    gives = seen-so;
    drivers = refl;
  };
}

run : AreCallsOfRun true raw_layers execution (reply_at 2 1 ∷ []) (executed_at 2 1) one_write
run = (executed_at 2 1, one_write, [], step, (refl, refl), refl)

made : Calls content_step blocks.content one_write (with_bytes blocks.content 512 (replicate 512 0))
made = (with_bytes blocks.content 512 (replicate 512 0), (refl, refl), refl)

-- A subsystem.

calls-so : fault_free_calls fenced fenced_events ≡ one_write
unfolding computing fenced_events
calls-so = refl

content-so : (fenced.device.content ≡ blocks.content) × (after_fenced.device.failures ≡ fenced.device.failures)
    × (fenced.device.failures ≡ 0)
unfolding computing fenced_events
content-so = (refl, refl, refl)

pub calls_at_work : CallsAtWork
calls_at_work = record {
  calls = run;
  only = λ other others these left h possible quiet.
      run_calls_are_unique raw_layers (executed_at 2 1) other execution (reply_at 2 1 ∷ []) others one_write these
      blocks.content (with_bytes blocks.content 512 (replicate 512 0)) left undriven run h made possible
      (calm.0 ∙ sym calm.1) (quiet ∙ sym calm.1) few;
  computed = λ these left h possible.
      let law = run_calls_are_computed fenced after_fenced fenced_events fenced_seen these left
      (laid (held_by_a1 1) [] []) h (subst (λ content. Calls content_step content these left) (sym content-so.0)
      possible) content-so.1 (subst (λ n. n < 2 ^ 64 - 1) (sym content-so.2) (omega arith)) in
      (law.0 ∙ calls-so, law.1);
}
