use Rattle.nvme_live.proofs.Streaming.{reads-front, reads-line}
use Rattle.nvme_live.proofs.streams.AnyLineSource.take_line.Goals as goal

pub returns-clause-line : goal.returns-clause-line
returns-clause-line g c = reads-line g.R.Read.remaining c.read_line.result c.args.self.now c.read_line.new.reader
    c.read_line.new.line.items c.read_line.ensures.line

pub returns-clause-fault : goal.returns-clause-fault
returns-clause-fault g c =
    reads-front g.R.Read.remaining c.read_line.result c.args.self.now c.read_line.new.reader c.read_line.ensures.fault
