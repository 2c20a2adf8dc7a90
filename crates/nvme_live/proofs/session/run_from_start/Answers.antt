use Rattle.nvme_spec.specs.Configuration.{capacity}
use Rattle.std.proofs.Common.{refl}
use Rattle.nvme_live.specs.SetUps.{set_up_of}
use Rattle.nvme_live.specs.Streams.{ReadsBy, SendsBy}
use Rattle.nvme_fleet.specs.FleetStates.{layers_of}
use Rattle.nvme_live.proofs.Starting.{start-err, start-fails, start-ok}
use Rattle.nvme_live.proofs.session.run_from_start.Goals as goal

pub returns-in-Ok-clause-ok : goal.returns-in-Ok-clause-ok
returns-in-Ok-clause-ok g c =
    start-ok (ReadsBy g.R.LineSource.step g.R.LineSource.remaining)
    (SendsBy g.W.Sink.step g.W.FlushedSink.flushes g.W.Sink.contents) g.M.Medium.step g.M.Medium.device g.M.Medium.tells
    (capacity c.args.max_blocks (g.M.Medium.size c.args.medium)) (g.M.Medium.device c.args.medium) c.args.number
    (set_up_of c.args.config.now c.args.numbers.now) (layers_of c.in-Ok.fleet.state) c.args.medium c.in-Ok.fleet.medium
    c.args.reader.now c.run_on.new.reader c.args.writer.now c.start-started.new.writer c.run_on.new.writer
    c.in-Ok.ensures.opened c.in-Ok.ensures.medium c.in-Ok.ensures.accepted c.in-Ok.ensures.said c.run_on.result
    c.run_on.ensures.ok

pub returns-in-Ok-clause-fault : goal.returns-in-Ok-clause-fault
returns-in-Ok-clause-fault g c =
    start-err (ReadsBy g.R.LineSource.step g.R.LineSource.remaining)
    (SendsBy g.W.Sink.step g.W.FlushedSink.flushes g.W.Sink.contents) g.M.Medium.step g.M.Medium.device g.M.Medium.tells
    (capacity c.args.max_blocks (g.M.Medium.size c.args.medium)) (g.M.Medium.device c.args.medium) c.args.number
    (set_up_of c.args.config.now c.args.numbers.now) (layers_of c.in-Ok.fleet.state) c.args.medium c.in-Ok.fleet.medium
    c.args.reader.now c.run_on.new.reader c.args.writer.now c.start-started.new.writer c.run_on.new.writer
    c.in-Ok.ensures.opened c.in-Ok.ensures.medium c.in-Ok.ensures.accepted c.in-Ok.ensures.said c.run_on.result
    c.run_on.ensures.fault

pub returns-in-Err-clause-fault : goal.returns-in-Err-clause-fault
returns-in-Err-clause-fault g c = λ line between taken starts.
    start-fails (ReadsBy g.R.LineSource.step g.R.LineSource.remaining)
    (SendsBy g.W.Sink.step g.W.FlushedSink.flushes g.W.Sink.contents) g.M.Medium.step g.M.Medium.device g.M.Medium.tells
    (capacity c.args.max_blocks (g.M.Medium.size c.args.medium)) (g.M.Medium.device c.args.medium) c.args.number
    (set_up_of c.args.config.now c.args.numbers.now) c.args.medium line between c.args.reader.now
    c.args.writer.now taken starts
    c.in-Err.fault.0 c.start-started.new.writer c.in-Err.fault.1 c.in-Err.ensures.fault c.in-Err.ensures.kept refl
