use Rattle.nvme_spec.specs.Configuration.{capacity}
use Rattle.std.proofs.Common.{◌≡◌, Ok, None, Some, refl, subst, rules}
use Rattle.nvme_live.specs.SetUps.{set_up_of}
use Rattle.nvme_live.specs.Conversations.{SetsUp}
use Rattle.nvme_live.specs.Standings.{Setting}
use Rattle.nvme_live.specs.Streams.{ReadsBy, SendsBy}
use Rattle.nvme_subsys.specs.OverMedium.{over}
use Rattle.nvme_live.proofs.Lifting.{ends-over, ends_by-over}
use Rattle.nvme_live.proofs.Starting.{set-err, set-ok}
use Rattle.nvme_live.proofs.session.run_from_setting.Goals as goal

pub run_from_start-requires-clause-countable : goal.run_from_start-requires-clause-countable
run_from_start-requires-clause-countable g c =
    let is : c.set_up-set.result ≡ Ok (Some c.in-Ok-Some.number) = search rules in
    let comes = subst (λ r. SetsUp (ReadsBy g.R.LineSource.step g.R.LineSource.remaining) (SendsBy g.W.Sink.step
    g.W.FlushedSink.flushes g.W.Sink.contents) r (set_up_of c.args.opening.now.script.config c.args.opening.now.numbers)
    (set_up_of c.set_up-set.new.config c.set_up-set.new.numbers) c.args.reader.now c.set_up-set.new.reader
    c.args.writer.now c.set_up-set.new.writer) is c.set_up-set.ensures in
    let start = comes g.M.Medium.tells (capacity c.args.max_blocks (g.M.Medium.size c.args.medium))
    (g.M.Medium.device c.args.medium) in
    start.countable

pub returns-in-Ok-None-clause-ok : goal.returns-in-Ok-None-clause-ok
returns-in-Ok-None-clause-ok g c =
    let is : c.set_up-set.result ≡ Ok None = search rules in
    let comes = subst (λ r. SetsUp (ReadsBy g.R.LineSource.step g.R.LineSource.remaining) (SendsBy g.W.Sink.step
    g.W.FlushedSink.flushes g.W.Sink.contents) r (set_up_of c.args.opening.now.script.config c.args.opening.now.numbers)
    (set_up_of c.set_up-set.new.config c.set_up-set.new.numbers) c.args.reader.now c.set_up-set.new.reader
    c.args.writer.now c.set_up-set.new.writer) is c.set_up-set.ensures in
    record {
      last = over (Setting (set_up_of c.set_up-set.new.config c.set_up-set.new.numbers)) c.args.medium;
      ended = ends-over g.M.Medium.step g.M.Medium.tells (capacity c.args.max_blocks (g.M.Medium.size c.args.medium))
          (g.M.Medium.device c.args.medium) c.args.medium (ReadsBy g.R.LineSource.step g.R.LineSource.remaining)
          (SendsBy g.W.Sink.step g.W.FlushedSink.flushes g.W.Sink.contents)
          (set_up_of c.args.opening.now.script.config c.args.opening.now.numbers)
          (set_up_of c.set_up-set.new.config c.set_up-set.new.numbers)
          c.args.reader.now c.set_up-set.new.reader c.args.writer.now c.set_up-set.new.writer (comes g.M.Medium.tells
          (capacity c.args.max_blocks (g.M.Medium.size c.args.medium)) (g.M.Medium.device c.args.medium));
      medium = refl;
      rests = refl;
    }

pub returns-in-Err-clause-fault : goal.returns-in-Err-clause-fault
returns-in-Err-clause-fault g c =
    let comes = subst (λ r. SetsUp (ReadsBy g.R.LineSource.step g.R.LineSource.remaining) (SendsBy g.W.Sink.step
    g.W.FlushedSink.flushes g.W.Sink.contents) r (set_up_of c.args.opening.now.script.config c.args.opening.now.numbers)
    (set_up_of c.set_up-set.new.config c.set_up-set.new.numbers) c.args.reader.now c.set_up-set.new.reader
    c.args.writer.now c.set_up-set.new.writer) c.in-Err.is c.set_up-set.ensures in
    record {
      last = over (Setting (set_up_of c.set_up-set.new.config c.set_up-set.new.numbers)) c.args.medium;
      ended = ends_by-over g.M.Medium.step g.M.Medium.tells (capacity c.args.max_blocks (g.M.Medium.size c.args.medium))
          (g.M.Medium.device c.args.medium) c.args.medium (ReadsBy g.R.LineSource.step g.R.LineSource.remaining)
          (SendsBy g.W.Sink.step g.W.FlushedSink.flushes g.W.Sink.contents) c.in-Err.fault
          (set_up_of c.args.opening.now.script.config c.args.opening.now.numbers)
          (set_up_of c.set_up-set.new.config c.set_up-set.new.numbers)
          c.args.reader.now c.set_up-set.new.reader c.args.writer.now c.set_up-set.new.writer (comes g.M.Medium.tells
          (capacity c.args.max_blocks (g.M.Medium.size c.args.medium)) (g.M.Medium.device c.args.medium));
      medium = refl;
      rests = refl;
    }

pub returns-in-Ok-Some-clause-ok : goal.returns-in-Ok-Some-clause-ok
returns-in-Ok-Some-clause-ok g c =
    let is : c.set_up-set.result ≡ Ok (Some c.in-Ok-Some.number) = search rules in
    let comes = subst (λ r. SetsUp (ReadsBy g.R.LineSource.step g.R.LineSource.remaining) (SendsBy g.W.Sink.step
    g.W.FlushedSink.flushes g.W.Sink.contents) r (set_up_of c.args.opening.now.script.config c.args.opening.now.numbers)
    (set_up_of c.set_up-set.new.config c.set_up-set.new.numbers) c.args.reader.now c.set_up-set.new.reader
    c.args.writer.now c.set_up-set.new.writer) is c.set_up-set.ensures in
    set-ok (ReadsBy g.R.LineSource.step g.R.LineSource.remaining)
    (SendsBy g.W.Sink.step g.W.FlushedSink.flushes g.W.Sink.contents) g.M.Medium.step g.M.Medium.device g.M.Medium.tells
    (capacity c.args.max_blocks (g.M.Medium.size c.args.medium)) (g.M.Medium.device c.args.medium) c.in-Ok-Some.number
    (set_up_of c.args.opening.now.script.config c.args.opening.now.numbers)
    (set_up_of c.set_up-set.new.config c.set_up-set.new.numbers) c.args.medium
    c.args.reader.now c.set_up-set.new.reader c.run_from_start.new.reader c.args.writer.now c.set_up-set.new.writer
    c.run_from_start.new.writer
    (comes g.M.Medium.tells (capacity c.args.max_blocks (g.M.Medium.size c.args.medium))
    (g.M.Medium.device c.args.medium)) c.run_from_start.result c.run_from_start.ensures.ok

pub returns-in-Ok-Some-clause-fault : goal.returns-in-Ok-Some-clause-fault
returns-in-Ok-Some-clause-fault g c =
    let is : c.set_up-set.result ≡ Ok (Some c.in-Ok-Some.number) = search rules in
    let comes = subst (λ r. SetsUp (ReadsBy g.R.LineSource.step g.R.LineSource.remaining) (SendsBy g.W.Sink.step
    g.W.FlushedSink.flushes g.W.Sink.contents) r (set_up_of c.args.opening.now.script.config c.args.opening.now.numbers)
    (set_up_of c.set_up-set.new.config c.set_up-set.new.numbers) c.args.reader.now c.set_up-set.new.reader
    c.args.writer.now c.set_up-set.new.writer) is c.set_up-set.ensures in
    set-err (ReadsBy g.R.LineSource.step g.R.LineSource.remaining)
    (SendsBy g.W.Sink.step g.W.FlushedSink.flushes g.W.Sink.contents) g.M.Medium.step g.M.Medium.device g.M.Medium.tells
    (capacity c.args.max_blocks (g.M.Medium.size c.args.medium)) (g.M.Medium.device c.args.medium) c.in-Ok-Some.number
    (set_up_of c.args.opening.now.script.config c.args.opening.now.numbers)
    (set_up_of c.set_up-set.new.config c.set_up-set.new.numbers) c.args.medium
    c.args.reader.now c.set_up-set.new.reader c.run_from_start.new.reader c.args.writer.now c.set_up-set.new.writer
    c.run_from_start.new.writer
    (comes g.M.Medium.tells (capacity c.args.max_blocks (g.M.Medium.size c.args.medium))
    (g.M.Medium.device c.args.medium)) c.run_from_start.result c.run_from_start.ensures.fault
