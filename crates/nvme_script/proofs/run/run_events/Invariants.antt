use Rattle.std.proofs.Common.{◌≡◌, take}
use Rattle.nvme_spec.specs.Execution.{no_marks}
use Rattle.nvme_subsys.specs.OverMedium.{over}
use Rattle.nvme_fleet.specs.FleetStates.{layers_of}
use Rattle.nvme_grammar.specs.Kept.{kept_events}
use Rattle.nvme_script.specs.ScriptCalls.{RanCalling}
use Rattle.nvme_script.specs.ScriptWrites.{TranscribesBy}
use Rattle.nvme_script.proofs.run.run_events.Given as goal

-- the events so far have happened
abbrev pub invariant-loop-kept : goal.invariant-loop-kept
invariant-loop-kept g l = record {
  called : TranscribesBy (RanCalling g.M.Medium.step g.M.Medium.tells) g.W.Sink.step g.W.Sink.contents
      (over (layers_of l.fn.fleet.state) l.fn.fleet.medium) (kept_events l.text (take l.kept-index l.events))
      (over (layers_of l.fleet.state) l.fleet.medium)
      l.fn.writer l.writer;
  unmarked : l.marks ≡ no_marks;
}
