use Rattle.std.proofs.Common.{refl, sym, ap, subst}
use Rattle.std.specs.Prelude.{codes}
use Rattle.live_text.specs.Faults.{refusal, why_by_value}
use Rattle.live_text.specs.declared.fault.Why.TheVariants.{BeforeStart}
use Rattle.nvme_fleet.specs.FleetStates.{layers_of}
use Rattle.nvme_subsys.specs.OverMedium.{over}
use Rattle.nvme_live.specs.Answers.{Answered}
use Rattle.nvme_live.specs.AnswerCalls.{AnswersLineBy}
use Rattle.live_text.specs.Asking.{asked_by_value}
use Rattle.nvme_live.specs.Saying.{with_feed}
use Rattle.nvme_live.specs.Standings.{MayLackRoom, Running}
use Rattle.nvme_live.specs.Streams.{SendsBy}
use Rattle.nvme_lines.specs.LineTexts.{reading_text}
use Rattle.nvme_lines.proofs.ByValue.{reading_by_value}
use Rattle.nvme_live.proofs.turn.answer.Goals as goal

pub returns-in-Fails : goal.returns-in-Fails
returns-in-Fails g c =
    subst (λ q. Answered (SendsBy g.W.Sink.step g.W.FlushedSink.flushes g.W.Sink.contents)
    (MayLackRoom (Running (layers_of c.args.fleet.now.state)) (asked_by_value q)) c.refuse.result
    (λ answer. AnswersLineBy g.M.Medium.step g.M.Medium.tells c.args.number
    (asked_by_value q) (over (layers_of c.args.fleet.now.state) c.args.fleet.now.medium) answer
    (over (layers_of c.args.fleet.now.state) c.args.fleet.now.medium))
    c.args.writer.now c.refuse.new.writer) (sym c.in-Fails.is)
    (with_feed (refusal c.args.number (why_by_value c.in-Fails.why)), (refl, refl), c.refuse.ensures)

pub returns-in-Nothing : goal.returns-in-Nothing
returns-in-Nothing g c =
    subst (λ q. Answered (SendsBy g.W.Sink.step g.W.FlushedSink.flushes g.W.Sink.contents)
    (MayLackRoom (Running (layers_of c.args.fleet.now.state)) (asked_by_value q)) c.send.result (λ answer. AnswersLineBy
    g.M.Medium.step g.M.Medium.tells c.args.number (asked_by_value q) (over (layers_of c.args.fleet.now.state)
    c.args.fleet.now.medium) answer (over (layers_of c.args.fleet.now.state) c.args.fleet.now.medium))
    c.args.writer.now c.send.new.writer) (sym c.in-Nothing.is) (with_feed (codes "ok"), (refl, refl), c.send.ensures)

pub returns-in-Parses : goal.returns-in-Parses
returns-in-Parses g c =
    subst (λ q. Answered (SendsBy g.W.Sink.step g.W.FlushedSink.flushes g.W.Sink.contents)
    (MayLackRoom (Running (layers_of c.args.fleet.now.state)) (asked_by_value q)) c.say.result (λ answer. AnswersLineBy
    g.M.Medium.step g.M.Medium.tells c.args.number (asked_by_value q) (over (layers_of c.args.fleet.now.state)
    c.args.fleet.now.medium) answer (over (layers_of c.args.fleet.now.state) c.args.fleet.now.medium))
    c.args.writer.now c.say.new.writer) (sym c.in-Parses.is) (
      with_feed (reading_text c.in-Parses.line),
      (ap with_feed (sym (reading_by_value c.in-Parses.line)), refl),
      c.say.ensures,
    )

pub returns-in-Sets : goal.returns-in-Sets
returns-in-Sets g c =
    subst (λ q. Answered (SendsBy g.W.Sink.step g.W.FlushedSink.flushes g.W.Sink.contents)
    (MayLackRoom (Running (layers_of c.args.fleet.now.state)) (asked_by_value q)) c.refuse-in-Sets.result
    (λ answer. AnswersLineBy g.M.Medium.step g.M.Medium.tells c.args.number
    (asked_by_value q) (over (layers_of c.args.fleet.now.state) c.args.fleet.now.medium) answer
    (over (layers_of c.args.fleet.now.state) c.args.fleet.now.medium))
    c.args.writer.now c.refuse-in-Sets.new.writer) (sym c.in-Sets.is)
    (with_feed (refusal c.args.number BeforeStart), (refl, refl), c.refuse-in-Sets.ensures)
