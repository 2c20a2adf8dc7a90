use Rattle.nvme_live.specs.Streams.{ReadsBy, SendsBy}
use Rattle.nvme_live.proofs.Alone.{ends_stand_alone, sessions_stand_alone}
use Rattle.nvme_live.proofs.laws.session_stands_alone.Goals as goal

pub returns-clause-lines : goal.returns-clause-lines
returns-clause-lines g c = sessions_stand_alone g.M.Medium.step g.M.Medium.tells

pub returns-clause-end : goal.returns-clause-end
returns-clause-end g c =
    ends_stand_alone g.M.Medium.step g.M.Medium.tells (ReadsBy g.R.LineSource.step g.R.LineSource.remaining)
    (SendsBy g.W.Sink.step g.W.FlushedSink.flushes g.W.Sink.contents)
