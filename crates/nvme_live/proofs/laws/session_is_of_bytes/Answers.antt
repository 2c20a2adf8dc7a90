use Rattle.nvme_live.proofs.InBytes.{ends_in_bytes, failures_in_bytes}
use Rattle.nvme_live.proofs.laws.session_is_of_bytes.Goals as goal

pub returns-clause-end : goal.returns-clause-end
returns-clause-end g c =
    ends_in_bytes g.R.LineSource.step g.R.LineSource.remaining g.W.Sink.step g.W.FlushedSink.flushes g.W.Sink.contents

pub returns-clause-failure : goal.returns-clause-failure
returns-clause-failure g c = failures_in_bytes g.R.LineSource.step g.R.LineSource.remaining g.W.Sink.step
    g.W.FlushedSink.flushes g.W.Sink.contents
