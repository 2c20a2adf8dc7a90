use Rattle.nvme_live.proofs.SessionScripts.{
  played_is_a_run,
  refused_is_a_fault,
  replays_alike,
  session_is_a_script,
  session_is_a_script_amid_looks,
}
use Rattle.nvme_live.proofs.laws.session_is_a_script.Goals as goal

pub returns-clause-script : goal.returns-clause-script
returns-clause-script g c = session_is_a_script g.M.Medium.step g.M.Medium.tells g.M.Medium.device g.R.LineSource.step
    g.R.LineSource.remaining g.W.Sink.step g.W.FlushedSink.flushes g.W.Sink.contents

pub returns-clause-amid_looks : goal.returns-clause-amid_looks
returns-clause-amid_looks g c = session_is_a_script_amid_looks g.M.Medium.step g.M.Medium.tells g.M.Medium.device
    g.R.LineSource.step g.R.LineSource.remaining g.W.Sink.step g.W.FlushedSink.flushes g.W.Sink.contents

pub returns-clause-run : goal.returns-clause-run
returns-clause-run g c = played_is_a_run

pub returns-clause-refused : goal.returns-clause-refused
returns-clause-refused g c = refused_is_a_fault

pub returns-clause-alike : goal.returns-clause-alike
returns-clause-alike g c = replays_alike
