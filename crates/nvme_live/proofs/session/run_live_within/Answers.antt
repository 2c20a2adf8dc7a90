use Rattle.nvme_spec.specs.Configuration.{capacity}
use Rattle.std.proofs.Common.{◌≡◌, Some, rules}
use Rattle.nvme_fleet.specs.FleetStates.{layers_of}
use Rattle.nvme_live.specs.SetUps.{set_up_of}
use Rattle.nvme_live.specs.Streams.{ReadsBy}
use Rattle.nvme_live.proofs.Living.{live-ran-err, live-ran-ok, live-set-err, live-set-ok, live-unready, not-some}
use Rattle.nvme_live.proofs.session.run_live_within.Goals as goal

pub returns-in_default-clause-ok : goal.returns-in_default-clause-ok
returns-in_default-clause-ok g c =
    live-set-ok g.S.Source.step g.S.Source.remaining c.args.script.now c.prepare.new.script g.M.Medium.step
    g.M.Medium.tells g.M.Medium.device (ReadsBy g.R.LineSource.step g.R.LineSource.remaining) g.W.Sink.step
    g.W.FlushedSink.flushes g.W.Sink.contents (capacity c.args.max_blocks (g.M.Medium.size c.args.medium))
    c.in-Ok.opening.text.items c.in-Ok.opening.script c.in-Ok.ensures.script c.in-Ok.ensures.text c.args.medium
    c.args.reader.now c.run_from_setting.new.reader
    c.args.writer.now c.run_from_setting.new.writer c.in-Ok.opening.numbers c.in-Ok.ensures.numbers
    (set_up_of c.make_room.new.config c.make_room.new.numbers) c.make_room.ensures.kept c.run_from_setting.result
    (not-some c.in-Ok.opening.script.start c.in_default.not-Some) c.run_from_setting.ensures.ok

pub returns-in_default-clause-fault : goal.returns-in_default-clause-fault
returns-in_default-clause-fault g c =
    live-set-err g.S.Source.step g.S.Source.remaining c.args.script.now c.prepare.new.script g.M.Medium.step
    g.M.Medium.tells g.M.Medium.device (ReadsBy g.R.LineSource.step g.R.LineSource.remaining) g.W.Sink.step
    g.W.FlushedSink.flushes g.W.Sink.contents (capacity c.args.max_blocks (g.M.Medium.size c.args.medium))
    c.in-Ok.opening.text.items c.in-Ok.opening.script c.in-Ok.ensures.script c.in-Ok.ensures.text c.args.medium
    c.args.reader.now c.run_from_setting.new.reader
    c.args.writer.now c.run_from_setting.new.writer c.in-Ok.opening.numbers c.in-Ok.ensures.numbers
    (set_up_of c.make_room.new.config c.make_room.new.numbers) c.make_room.ensures.kept c.run_from_setting.result
    (not-some c.in-Ok.opening.script.start c.in_default.not-Some) c.run_from_setting.ensures.fault

pub returns-in-Ok-run_first-clause-ok : goal.returns-in-Ok-run_first-clause-ok
returns-in-Ok-run_first-clause-ok g c =
    let starts : c.in-Ok.opening.script.start ≡ Some c.in-Some.start = search rules in
    live-ran-ok g.S.Source.step g.S.Source.remaining c.args.script.now c.prepare.new.script g.M.Medium.step
    g.M.Medium.tells g.M.Medium.device (ReadsBy g.R.LineSource.step g.R.LineSource.remaining) g.W.Sink.step
    g.W.FlushedSink.flushes g.W.Sink.contents (capacity c.args.max_blocks (g.M.Medium.size c.args.medium))
    c.in-Ok.opening.text.items c.in-Ok.opening.script c.in-Ok.ensures.script c.in-Ok.ensures.text c.args.medium
    c.args.reader.now c.run_on.new.reader
    c.args.writer.now c.run_on.new.writer c.in-Some.start starts
    (layers_of c.in-Ok-run_first.fleet.state) c.in-Ok-run_first.fleet.medium c.run_first.new.writer
    c.in-Ok-run_first.ensures.ok c.run_on.result c.run_on.ensures.ok

pub returns-in-Ok-run_first-clause-fault : goal.returns-in-Ok-run_first-clause-fault
returns-in-Ok-run_first-clause-fault g c =
    let starts : c.in-Ok.opening.script.start ≡ Some c.in-Some.start = search rules in
    live-ran-err g.S.Source.step g.S.Source.remaining c.args.script.now c.prepare.new.script g.M.Medium.step
    g.M.Medium.tells g.M.Medium.device (ReadsBy g.R.LineSource.step g.R.LineSource.remaining) g.W.Sink.step
    g.W.FlushedSink.flushes g.W.Sink.contents (capacity c.args.max_blocks (g.M.Medium.size c.args.medium))
    c.in-Ok.opening.text.items c.in-Ok.opening.script c.in-Ok.ensures.script c.in-Ok.ensures.text c.args.medium
    c.args.reader.now c.run_on.new.reader
    c.args.writer.now c.run_on.new.writer c.in-Some.start starts
    (layers_of c.in-Ok-run_first.fleet.state) c.in-Ok-run_first.fleet.medium c.run_first.new.writer
    c.in-Ok-run_first.ensures.ok c.run_on.result c.run_on.ensures.fault

pub returns-in-Err-clause-fault : goal.returns-in-Err-clause-fault
returns-in-Err-clause-fault g c =
    live-unready g.S.Source.step g.S.Source.remaining c.args.script.now c.prepare.new.script g.M.Medium.step
    g.M.Medium.tells g.M.Medium.device (ReadsBy g.R.LineSource.step g.R.LineSource.remaining) g.W.Sink.step
    g.W.FlushedSink.flushes g.W.Sink.contents (capacity c.args.max_blocks (g.M.Medium.size c.args.medium))
    c.in-Err.fault c.args.medium c.args.reader.now c.args.writer.now c.in-Err.ensures.fault
