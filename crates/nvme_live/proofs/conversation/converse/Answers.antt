use Rattle.std.proofs.Common.{length, inl, inr, ap, subst, ◌∙◌, rules, arith}
use Rattle.nvme_fleet.specs.FleetStates.{layers_of}
use Rattle.nvme_live.specs.Answers.{Answered}
use Rattle.live_text.specs.Asking.{asked, asked_by_value}
use Rattle.nvme_subsys.specs.OverMedium.{over}
use Rattle.nvme_live.specs.AnswerCalls.{AnswersLineBy, TurnOver}
use Rattle.nvme_live.specs.Standings.{MayLackRoom, Running}
use Rattle.nvme_live.specs.Streams.{GivesLine, ReadsBy, SendsBy}
use Rattle.nvme_live.proofs.Sessions.{conversed-none}
use Rattle.nvme_live.proofs.Conversing.{no-more, not-counted, not-read, ran-answered, ran-stopped, short-read}
use Rattle.nvme_live.proofs.conversation.converse.Goals as goal

pub loop-number-init : goal.loop-number-init
loop-number-init g c = record {
  bytes = c.requires.bytes_room;
  identifiers = c.requires.identifiers_room;
  blocks = c.requires.blocks_room;
  conversed = λ size d. conversed-none
      (TurnOver g.M.Medium.step g.M.Medium.tells size d) (ReadsBy g.R.LineSource.step g.R.LineSource.remaining)
      (SendsBy g.W.Sink.step g.W.FlushedSink.flushes g.W.Sink.contents) c.args.first
      (over (Running (layers_of c.args.fleet.now.state)) c.args.fleet.now.medium) c.args.reader.now c.args.writer.now;
}

pub returns-in-Err-clause-fault : goal.returns-in-Err-clause-fault
returns-in-Err-clause-fault g c = λ size d.
    inl
    (not-read (TurnOver g.M.Medium.step g.M.Medium.tells size d) (ReadsBy g.R.LineSource.step g.R.LineSource.remaining)
    (SendsBy g.W.Sink.step g.W.FlushedSink.flushes g.W.Sink.contents) (over (Running (layers_of c.args.fleet.now.state))
    c.args.fleet.now.medium) (over (Running (layers_of c.loop-number.fleet.state)) c.loop-number.fleet.medium)
    c.args.first c.loop-number.number c.args.reader.now c.loop-number.reader c.args.writer.now c.loop-number.writer
    (c.loop-number.invariant.conversed size d)
    c.take_line.new.self c.in-Err.ensures.fault)

pub returns-clause-fault : goal.returns-clause-fault
returns-clause-fault g c = λ size d.
    inr (not-counted (TurnOver g.M.Medium.step g.M.Medium.tells size d)
    (ReadsBy g.R.LineSource.step g.R.LineSource.remaining) (SendsBy g.W.Sink.step g.W.FlushedSink.flushes
    g.W.Sink.contents) (over (Running (layers_of c.args.fleet.now.state)) c.args.fleet.now.medium)
    (over (Running (layers_of c.loop-number.fleet.state)) c.loop-number.fleet.medium) c.args.first
    c.loop-number.number c.args.reader.now c.loop-number.reader c.args.writer.now c.loop-number.writer
    (c.loop-number.invariant.conversed size d)
    (omega (arith, c.loop-number-test.false)))

pub returns-in-Ok-false-clause-ok : goal.returns-in-Ok-false-clause-ok
returns-in-Ok-false-clause-ok g c = λ size d.
    no-more (TurnOver g.M.Medium.step g.M.Medium.tells size d) (ReadsBy g.R.LineSource.step g.R.LineSource.remaining)
    (SendsBy g.W.Sink.step g.W.FlushedSink.flushes g.W.Sink.contents)
    (over (Running (layers_of c.args.fleet.now.state)) c.args.fleet.now.medium)
    (over (Running (layers_of c.loop-number.fleet.state)) c.loop-number.fleet.medium)
    c.args.first c.loop-number.number c.args.reader.now c.loop-number.reader c.args.writer.now c.loop-number.writer
    (c.loop-number.invariant.conversed size d)
    c.take_line.new.self c.take_line.new.line.items
    (subst (λ t. GivesLine (ReadsBy g.R.LineSource.step g.R.LineSource.remaining) t c.loop-number.reader
    c.take_line.new.self c.take_line.new.line.items) c.in-Ok-false.field-0-test c.in-Ok-false.ensures.line)

pub asked_of-asked-requires-clause-bytes_room : goal.asked_of-asked-requires-clause-bytes_room
asked_of-asked-requires-clause-bytes_room g c =
    let reads = subst (λ t. GivesLine (ReadsBy g.R.LineSource.step g.R.LineSource.remaining) t c.loop-number.reader
    c.take_line.new.self c.take_line.new.line.items) c.in-Ok-true.field-0-test c.in-Ok-true.ensures.line in
    let short = short-read (ReadsBy g.R.LineSource.step g.R.LineSource.remaining) c.loop-number.reader
    c.take_line.new.self c.take_line.new.line.items reads in
    let same = ap length c.as_slice.ensures.value in
    (omega (arith, c.loop-number.invariant.bytes), omega (arith, c.loop-number.invariant.bytes, short, same))

pub asked_of-asked-requires-clause-identifiers_room : goal.asked_of-asked-requires-clause-identifiers_room
asked_of-asked-requires-clause-identifiers_room g c =
    let reads = subst (λ t. GivesLine (ReadsBy g.R.LineSource.step g.R.LineSource.remaining) t c.loop-number.reader
    c.take_line.new.self c.take_line.new.line.items) c.in-Ok-true.field-0-test c.in-Ok-true.ensures.line in
    let short = short-read (ReadsBy g.R.LineSource.step g.R.LineSource.remaining) c.loop-number.reader
    c.take_line.new.self c.take_line.new.line.items reads in
    let same = ap length c.as_slice.ensures.value in
    omega (arith, c.loop-number.invariant.identifiers, short, same)

pub asked_of-asked-requires-clause-spare_room : goal.asked_of-asked-requires-clause-spare_room
asked_of-asked-requires-clause-spare_room g c =
    let reads = subst (λ t. GivesLine (ReadsBy g.R.LineSource.step g.R.LineSource.remaining) t c.loop-number.reader
    c.take_line.new.self c.take_line.new.line.items) c.in-Ok-true.field-0-test c.in-Ok-true.ensures.line in
    let short = short-read (ReadsBy g.R.LineSource.step g.R.LineSource.remaining) c.loop-number.reader
    c.take_line.new.self c.take_line.new.line.items reads in
    let same = ap length c.as_slice.ensures.value in
    (omega (arith, c.loop-number.invariant.blocks), omega (arith, c.loop-number.invariant.blocks, short, same))

pub returns-in-Err-answer-clause-fault : goal.returns-in-Err-answer-clause-fault
returns-in-Err-answer-clause-fault g c = λ size d.
    let reads = subst (λ t. GivesLine (ReadsBy g.R.LineSource.step g.R.LineSource.remaining) t c.loop-number.reader
    c.take_line.new.self c.take_line.new.line.items) c.in-Ok-true.field-0-test c.in-Ok-true.ensures.line in
    ran-stopped (ReadsBy g.R.LineSource.step g.R.LineSource.remaining)
    (SendsBy g.W.Sink.step g.W.FlushedSink.flushes g.W.Sink.contents) g.M.Medium.step
    g.M.Medium.tells size d c.args.first c.loop-number.number (layers_of c.args.fleet.now.state) c.args.fleet.now.medium
    (layers_of c.loop-number.fleet.state) c.loop-number.fleet.medium
    (layers_of c.answer.new.fleet.state) c.answer.new.fleet.medium
    c.args.reader.now c.loop-number.reader c.args.writer.now c.loop-number.writer
    (c.loop-number.invariant.conversed size d) c.take_line.new.self c.answer.new.writer
    c.take_line.new.line.items (asked_by_value c.asked_of-asked.result) reads
    (c.asked_of-asked.ensures ∙ ap asked c.as_slice.ensures.value) c.in-Err-answer.unsaid
    (subst (λ r. Answered (SendsBy g.W.Sink.step g.W.FlushedSink.flushes g.W.Sink.contents)
    (MayLackRoom (Running (layers_of c.loop-number.fleet.state)) (asked_by_value c.asked_of-asked.result)) r (λ answer.
    AnswersLineBy g.M.Medium.step g.M.Medium.tells c.loop-number.number (asked_by_value c.asked_of-asked.result)
    (over (layers_of c.loop-number.fleet.state) c.loop-number.fleet.medium) answer
    (over (layers_of c.answer.new.fleet.state) c.answer.new.fleet.medium)) c.loop-number.writer c.answer.new.writer)
    c.in-Err-answer.is c.answer.ensures)

pub loop-number-preserved : goal.loop-number-preserved
loop-number-preserved g c =
    let reads = subst (λ t. GivesLine (ReadsBy g.R.LineSource.step g.R.LineSource.remaining) t c.loop-number.reader
    c.take_line.new.self c.take_line.new.line.items) c.in-Ok-true.field-0-test c.in-Ok-true.ensures.line in
    record {
      bytes = search rules;
      identifiers = search rules;
      blocks = search rules;
      conversed = λ size d.
          ran-answered (ReadsBy g.R.LineSource.step g.R.LineSource.remaining)
          (SendsBy g.W.Sink.step g.W.FlushedSink.flushes g.W.Sink.contents) g.M.Medium.step g.M.Medium.tells
          size d c.args.first c.loop-number.number (layers_of c.args.fleet.now.state) c.args.fleet.now.medium
          (layers_of c.loop-number.fleet.state) c.loop-number.fleet.medium
          (layers_of c.answer.new.fleet.state) c.answer.new.fleet.medium
          c.args.reader.now c.loop-number.reader c.args.writer.now c.loop-number.writer
          (c.loop-number.invariant.conversed size d) c.take_line.new.self c.answer.new.writer
          c.take_line.new.line.items (asked_by_value c.asked_of-asked.result) reads
          (c.asked_of-asked.ensures ∙ ap asked c.as_slice.ensures.value) c.in-Ok.field-0
          (subst (λ r. Answered (SendsBy g.W.Sink.step g.W.FlushedSink.flushes g.W.Sink.contents)
          (MayLackRoom (Running (layers_of c.loop-number.fleet.state)) (asked_by_value c.asked_of-asked.result)) r
          (λ answer. AnswersLineBy g.M.Medium.step g.M.Medium.tells c.loop-number.number (asked_by_value
          c.asked_of-asked.result) (over (layers_of c.loop-number.fleet.state) c.loop-number.fleet.medium) answer (over
          (layers_of c.answer.new.fleet.state) c.answer.new.fleet.medium)) c.loop-number.writer c.answer.new.writer)
          c.in-Ok.is c.answer.ensures);
    }
