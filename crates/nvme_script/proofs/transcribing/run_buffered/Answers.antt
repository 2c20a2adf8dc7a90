use Rattle.std.proofs.Common.{◌∙◌}
use Rattle.nvme_script.specs.ProgramRuns.{RunsText}
use Rattle.nvme_script.proofs.Buffering.{fails-over, fault-name, lines-stay, runs-through, stops-through}
use Rattle.nvme_script.proofs.transcribing.run_buffered.Goals as goal

pub returns-in-Ok-flush-clause-name : goal.returns-in-Ok-flush-clause-name
returns-in-Ok-flush-clause-name g c =
    c.flush.ensures.name
    ∙ lines-stay g.O.Sink _ c.args.buffered.now c.run_reasoned.new.writer c.in-Ok.ensures.ok.1.written

pub returns-in-Ok-flush-clause-ran : goal.returns-in-Ok-flush-clause-ran
unfolding RunsText
returns-in-Ok-flush-clause-ran g c = (
  c.in-Ok.ensures.ok.0,
  runs-through g.O.Sink g.M.Medium c.args.max_blocks c.args.text.now c.args.medium c.in-Ok.medium c.args.buffered.now
      c.flush.new.self g.O.FlushedSink.flushes
      c.requires.empty c.run_reasoned.new.writer c.in-Ok.ensures.ok.1 c.flush.ensures.few c.flush.ensures.bytes
      c.in-Ok-flush.ensures.ok c.in-Ok-flush.ensures.sent,
)

pub returns-in-Err-flush-clause-name : goal.returns-in-Err-flush-clause-name
returns-in-Err-flush-clause-name g c =
    c.flush.ensures.name
    ∙ lines-stay g.O.Sink _ c.args.buffered.now c.run_reasoned.new.writer c.in-Ok.ensures.ok.1.written

pub returns-in-Err-flush-clause-ran : goal.returns-in-Err-flush-clause-ran
unfolding RunsText
returns-in-Err-flush-clause-ran g c = rw (c.unwritten.ensures) (stops-through g.O.Sink g.M.Medium c.args.max_blocks
    c.args.text.now c.args.medium c.in-Ok.medium c.args.buffered.now
    c.flush.new.self g.O.FlushedSink.flushes c.requires.empty c.run_reasoned.new.writer c.in-Ok.ensures.ok.1
    c.flush.ensures.few c.flush.ensures.bytes c.in-Ok.ensures.ok.0 c.in-Err-flush.ensures.broken)

pub returns-in-Err-clause-name : goal.returns-in-Err-clause-name
returns-in-Err-clause-name g c = fault-name g.O.Sink g.M.Medium c.args.max_blocks c.args.text.now c.args.medium
    c.in-Err.refusal.1 c.args.buffered.now
    c.run_reasoned.new.writer c.in-Err.refusal.0.fault c.in-Err.ensures.fault c.in-Err.ensures.early

pub returns-in-Err-clause-ran : goal.returns-in-Err-clause-ran
unfolding RunsText
returns-in-Err-clause-ran g c = fails-over g.O.Sink g.M.Medium c.args.max_blocks c.args.text.now c.args.medium
    c.in-Err.refusal.1 c.args.buffered.now
    c.run_reasoned.new.writer g.O.FlushedSink.flushes c.requires.empty c.in-Err.refusal.0.fault c.in-Err.ensures.fault
    c.in-Err.ensures.early
