use Rattle.std.proofs.Common.{Ok, length, inl, inr, ap, subst, ◌∙◌, rules, arith}
use Rattle.nvme_live.specs.SetUps.{set_up_of}
use Rattle.live_text.specs.Asking.{asked, asked_by_value}
use Rattle.nvme_live.specs.Settling.{Comes}
use Rattle.nvme_live.specs.Standings.{Setting, TurnOf}
use Rattle.nvme_live.specs.Streams.{GivesLine, ReadsBy, SendsBy}
use Rattle.nvme_live.proofs.Sessions.{conversed-none}
use Rattle.nvme_live.proofs.Conversing.{
  came-answered,
  came-started,
  came-to-fault,
  no-more,
  not-counted,
  not-read,
  short-read,
}
use Rattle.nvme_live.proofs.conversation.set_up.Goals as goal

pub loop-number-init : goal.loop-number-init
loop-number-init g c = record {
  bytes = c.requires.bytes_room;
  identifiers = c.requires.identifiers_room;
  blocks = c.requires.blocks_room;
  room = c.requires.room;
  conversed =
      λ tells size d. conversed-none (TurnOf tells size d) (ReadsBy g.R.LineSource.step g.R.LineSource.remaining)
      (SendsBy g.W.Sink.step g.W.FlushedSink.flushes g.W.Sink.contents) 1
      (Setting (set_up_of c.args.config.now c.args.numbers.now)) c.args.reader.now c.args.writer.now;
}

pub returns-in-Err : goal.returns-in-Err
returns-in-Err g c = λ tells size d.
    inl (not-read (TurnOf tells size d) (ReadsBy g.R.LineSource.step g.R.LineSource.remaining) (SendsBy
    g.W.Sink.step g.W.FlushedSink.flushes g.W.Sink.contents) (Setting (set_up_of c.args.config.now c.args.numbers.now))
    (Setting (set_up_of c.loop-number.config c.loop-number.numbers)) 1 c.loop-number.number c.args.reader.now
    c.loop-number.reader c.args.writer.now c.loop-number.writer (c.loop-number.invariant.conversed tells size d)
    c.take_line.new.self c.in-Err.ensures.fault)

pub returns : goal.returns
returns g c = λ tells size d.
    inr (not-counted (TurnOf tells size d) (ReadsBy g.R.LineSource.step g.R.LineSource.remaining) (SendsBy
    g.W.Sink.step g.W.FlushedSink.flushes g.W.Sink.contents) (Setting (set_up_of c.args.config.now c.args.numbers.now))
    (Setting (set_up_of c.loop-number.config c.loop-number.numbers)) 1 c.loop-number.number c.args.reader.now
    c.loop-number.reader c.args.writer.now c.loop-number.writer (c.loop-number.invariant.conversed tells size d)
    (omega (arith, c.loop-number-test.false)))

pub returns-in-Ok-false : goal.returns-in-Ok-false
returns-in-Ok-false g c = λ tells size d.
    no-more (TurnOf tells size d) (ReadsBy g.R.LineSource.step g.R.LineSource.remaining)
    (SendsBy g.W.Sink.step g.W.FlushedSink.flushes g.W.Sink.contents)
    (Setting (set_up_of c.args.config.now c.args.numbers.now))
    (Setting (set_up_of c.loop-number.config c.loop-number.numbers)) 1 c.loop-number.number c.args.reader.now
    c.loop-number.reader c.args.writer.now c.loop-number.writer (c.loop-number.invariant.conversed tells size d)
    c.take_line.new.self c.take_line.new.line.items
    (subst (λ t. GivesLine (ReadsBy g.R.LineSource.step g.R.LineSource.remaining) t c.loop-number.reader
    c.take_line.new.self c.take_line.new.line.items) c.in-Ok-false.field-0-test c.in-Ok-false.ensures.line)

pub asked_of-asked-requires-clause-bytes_room : goal.asked_of-asked-requires-clause-bytes_room
asked_of-asked-requires-clause-bytes_room g c =
    let reads = subst (λ t. GivesLine (ReadsBy g.R.LineSource.step g.R.LineSource.remaining) t c.loop-number.reader
    c.take_line.new.self c.take_line.new.line.items) c.in-Ok-true.field-0-test c.in-Ok-true.ensures.line in
    let short = short-read (ReadsBy g.R.LineSource.step g.R.LineSource.remaining) c.loop-number.reader
    c.take_line.new.self c.take_line.new.line.items reads in
    let same = ap length c.as_slice.ensures.value in
    (omega (arith, c.loop-number.invariant.bytes), omega (arith, c.loop-number.invariant.bytes, short, same))

pub asked_of-asked-requires-clause-identifiers_room : goal.asked_of-asked-requires-clause-identifiers_room
asked_of-asked-requires-clause-identifiers_room g c =
    let reads = subst (λ t. GivesLine (ReadsBy g.R.LineSource.step g.R.LineSource.remaining) t c.loop-number.reader
    c.take_line.new.self c.take_line.new.line.items) c.in-Ok-true.field-0-test c.in-Ok-true.ensures.line in
    let short = short-read (ReadsBy g.R.LineSource.step g.R.LineSource.remaining) c.loop-number.reader
    c.take_line.new.self c.take_line.new.line.items reads in
    let same = ap length c.as_slice.ensures.value in
    omega (arith, c.loop-number.invariant.identifiers, short, same)

pub asked_of-asked-requires-clause-spare_room : goal.asked_of-asked-requires-clause-spare_room
asked_of-asked-requires-clause-spare_room g c =
    let reads = subst (λ t. GivesLine (ReadsBy g.R.LineSource.step g.R.LineSource.remaining) t c.loop-number.reader
    c.take_line.new.self c.take_line.new.line.items) c.in-Ok-true.field-0-test c.in-Ok-true.ensures.line in
    let short = short-read (ReadsBy g.R.LineSource.step g.R.LineSource.remaining) c.loop-number.reader
    c.take_line.new.self c.take_line.new.line.items reads in
    let same = ap length c.as_slice.ensures.value in
    (omega (arith, c.loop-number.invariant.blocks), omega (arith, c.loop-number.invariant.blocks, short, same))

pub returns-in-Ok-Started : goal.returns-in-Ok-Started
returns-in-Ok-Started g c = λ tells size d.
    let reads = subst (λ t. GivesLine (ReadsBy g.R.LineSource.step g.R.LineSource.remaining) t c.loop-number.reader
    c.take_line.new.self c.take_line.new.line.items) c.in-Ok-true.field-0-test c.in-Ok-true.ensures.line in
    let comes = subst (λ r. Comes (SendsBy g.W.Sink.step g.W.FlushedSink.flushes g.W.Sink.contents) r
    c.loop-number.number (set_up_of c.loop-number.config c.loop-number.numbers) (asked_by_value c.asked_of-asked.result)
    (set_up_of c.settle.new.config c.settle.new.numbers) c.loop-number.writer c.settle.new.writer)
    (c.in-Ok-Started.is ∙ ap Ok c.in-Ok-Started.field-0-is) c.settle.ensures.comes in
    came-started (ReadsBy g.R.LineSource.step g.R.LineSource.remaining)
    (SendsBy g.W.Sink.step g.W.FlushedSink.flushes g.W.Sink.contents) tells size d c.loop-number.number
    (set_up_of c.args.config.now c.args.numbers.now) (set_up_of c.loop-number.config c.loop-number.numbers)
    (set_up_of c.settle.new.config c.settle.new.numbers) c.args.reader.now c.loop-number.reader c.args.writer.now
    c.loop-number.writer (c.loop-number.invariant.conversed tells size d)
    c.take_line.new.self c.settle.new.writer c.take_line.new.line.items (asked_by_value c.asked_of-asked.result) reads
    (c.asked_of-asked.ensures ∙ ap asked c.as_slice.ensures.value) comes (omega (arith, c.loop-number-test.true))

pub returns-in-Err-settle : goal.returns-in-Err-settle
returns-in-Err-settle g c = λ tells size d.
    let reads = subst (λ t. GivesLine (ReadsBy g.R.LineSource.step g.R.LineSource.remaining) t c.loop-number.reader
    c.take_line.new.self c.take_line.new.line.items) c.in-Ok-true.field-0-test c.in-Ok-true.ensures.line in
    let comes = subst (λ r. Comes (SendsBy g.W.Sink.step g.W.FlushedSink.flushes g.W.Sink.contents) r
    c.loop-number.number (set_up_of c.loop-number.config c.loop-number.numbers) (asked_by_value c.asked_of-asked.result)
    (set_up_of c.settle.new.config c.settle.new.numbers) c.loop-number.writer c.settle.new.writer)
    c.in-Err-settle.is c.settle.ensures.comes in
    came-to-fault (ReadsBy g.R.LineSource.step g.R.LineSource.remaining)
    (SendsBy g.W.Sink.step g.W.FlushedSink.flushes g.W.Sink.contents) tells size d c.loop-number.number
    (set_up_of c.args.config.now c.args.numbers.now) (set_up_of c.loop-number.config c.loop-number.numbers)
    (set_up_of c.settle.new.config c.settle.new.numbers) c.args.reader.now c.loop-number.reader c.args.writer.now
    c.loop-number.writer (c.loop-number.invariant.conversed tells size d)
    c.take_line.new.self c.settle.new.writer c.take_line.new.line.items (asked_by_value c.asked_of-asked.result) reads
    (c.asked_of-asked.ensures ∙ ap asked c.as_slice.ensures.value) c.in-Err-settle.fault comes

pub loop-number-preserved : goal.loop-number-preserved
loop-number-preserved g c =
    let reads = subst (λ t. GivesLine (ReadsBy g.R.LineSource.step g.R.LineSource.remaining) t c.loop-number.reader
    c.take_line.new.self c.take_line.new.line.items) c.in-Ok-true.field-0-test c.in-Ok-true.ensures.line in
    let comes = subst (λ r. Comes (SendsBy g.W.Sink.step g.W.FlushedSink.flushes g.W.Sink.contents) r
    c.loop-number.number (set_up_of c.loop-number.config c.loop-number.numbers) (asked_by_value c.asked_of-asked.result)
    (set_up_of c.settle.new.config c.settle.new.numbers) c.loop-number.writer c.settle.new.writer)
    (c.in-Ok-Answered.is ∙ ap Ok c.in-Ok-Answered.field-0-is) c.settle.ensures.comes in
    record {
      bytes = search rules;
      identifiers = search rules;
      blocks = search rules;
      room = c.settle.ensures.room;
      conversed = λ tells size d.
          came-answered (ReadsBy g.R.LineSource.step g.R.LineSource.remaining)
          (SendsBy g.W.Sink.step g.W.FlushedSink.flushes g.W.Sink.contents) tells size d c.loop-number.number
          (set_up_of c.args.config.now c.args.numbers.now) (set_up_of c.loop-number.config c.loop-number.numbers)
          (set_up_of c.settle.new.config c.settle.new.numbers) c.args.reader.now c.loop-number.reader c.args.writer.now
          c.loop-number.writer (c.loop-number.invariant.conversed tells size d)
          c.take_line.new.self c.settle.new.writer c.take_line.new.line.items (asked_by_value c.asked_of-asked.result)
          reads (c.asked_of-asked.ensures ∙ ap asked c.as_slice.ensures.value) comes;
    }
