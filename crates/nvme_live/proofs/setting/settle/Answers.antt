use Rattle.std.proofs.Common.{refl, sym, ap, subst}
use Rattle.live_text.specs.Faults.{refusal, why_by_value}
use Rattle.live_text.specs.declared.fault.Why.TheVariants.{BehindStart}
use Rattle.nvme_grammar.specs.Lent.{event_by_value, line_by_value}
use Rattle.live_text.specs.Asking.{asked_by_value}
use Rattle.live_text.specs.declared.asking.Asked.TheVariants.{Does, Fails, Looks, Parses}
use Rattle.nvme_live.specs.Saying.{LacksRoom, with_feed}
use Rattle.nvme_live.specs.Settling.{Comes}
use Rattle.nvme_live.specs.SetUps.{set_up_of}
use Rattle.live_views.specs.Shown.{shown_by}
use Rattle.nvme_live.specs.Streams.{SendsBy}
use Rattle.nvme_live.proofs.Conversing.{comes-by}
use Rattle.nvme_lines.specs.LineTexts.{reading_text}
use Rattle.nvme_lines.proofs.ByValue.{reading_by_value}
use Rattle.nvme_live.proofs.setting.settle.Goals as goal

pub returns-in-Fails-clause-comes : goal.returns-in-Fails-clause-comes
returns-in-Fails-clause-comes g c =
    subst (λ q. Comes (SendsBy g.W.Sink.step g.W.FlushedSink.flushes g.W.Sink.contents) c.answered.result c.args.number
    (set_up_of c.args.config.now c.args.numbers.now) (asked_by_value q)
    (set_up_of c.args.config.now c.args.numbers.now) c.args.writer.now c.refuse.new.writer) (sym c.in-Fails.is)
    (comes-by (SendsBy g.W.Sink.step g.W.FlushedSink.flushes g.W.Sink.contents) c.refuse.result c.answered.result
    c.args.number (set_up_of c.args.config.now c.args.numbers.now) (Fails (why_by_value c.in-Fails.why))
    (set_up_of c.args.config.now c.args.numbers.now) c.args.writer.now c.refuse.new.writer
    (with_feed (refusal c.args.number (why_by_value c.in-Fails.why))) LacksRoom (λ u. u)
    c.answered.ensures.ok c.answered.ensures.fault (λ size d. (refl, refl)) c.refuse.ensures)

pub returns-in-Looks-clause-comes : goal.returns-in-Looks-clause-comes
returns-in-Looks-clause-comes g c =
    subst (λ q. Comes (SendsBy g.W.Sink.step g.W.FlushedSink.flushes g.W.Sink.contents)
    c.answered-in-Looks.result c.args.number (set_up_of c.args.config.now c.args.numbers.now) (asked_by_value q)
    (set_up_of c.args.config.now c.args.numbers.now) c.args.writer.now c.say.new.writer) (sym c.in-Looks.is)
    (comes-by (SendsBy g.W.Sink.step g.W.FlushedSink.flushes g.W.Sink.contents)
    c.say.result c.answered-in-Looks.result c.args.number (set_up_of c.args.config.now c.args.numbers.now)
    (Looks c.in-Looks.looking) (set_up_of c.args.config.now c.args.numbers.now) c.args.writer.now c.say.new.writer
    (with_feed (shown_by c.shown_early.result)) LacksRoom (λ u. u)
    c.answered-in-Looks.ensures.ok c.answered-in-Looks.ensures.fault
    (λ size d. (ap with_feed c.shown_early.ensures, refl)) c.say.ensures)

pub returns-in-Parses-clause-comes : goal.returns-in-Parses-clause-comes
returns-in-Parses-clause-comes g c =
    subst (λ q. Comes (SendsBy g.W.Sink.step g.W.FlushedSink.flushes g.W.Sink.contents)
    c.answered-in-Parses.result c.args.number (set_up_of c.args.config.now c.args.numbers.now) (asked_by_value q)
    (set_up_of c.args.config.now c.args.numbers.now) c.args.writer.now c.say-in-Parses.new.writer) (sym c.in-Parses.is)
    (comes-by (SendsBy g.W.Sink.step g.W.FlushedSink.flushes g.W.Sink.contents)
    c.say-in-Parses.result c.answered-in-Parses.result c.args.number (set_up_of c.args.config.now c.args.numbers.now)
    (Parses (line_by_value c.in-Parses.line)) (set_up_of c.args.config.now c.args.numbers.now) c.args.writer.now
    c.say-in-Parses.new.writer (with_feed (reading_text c.in-Parses.line)) LacksRoom (λ u. u)
    c.answered-in-Parses.ensures.ok c.answered-in-Parses.ensures.fault
    (λ size d. (ap with_feed (sym (reading_by_value c.in-Parses.line)), refl)) c.say-in-Parses.ensures)

pub returns-in-Does-clause-comes : goal.returns-in-Does-clause-comes
returns-in-Does-clause-comes g c =
    subst (λ q. Comes (SendsBy g.W.Sink.step g.W.FlushedSink.flushes g.W.Sink.contents) c.answered-in-Does.result
    c.args.number (set_up_of c.args.config.now c.args.numbers.now) (asked_by_value q)
    (set_up_of c.args.config.now c.args.numbers.now) c.args.writer.now c.refuse-in-Does.new.writer) (sym c.in-Does.is)
    (comes-by (SendsBy g.W.Sink.step g.W.FlushedSink.flushes g.W.Sink.contents)
    c.refuse-in-Does.result c.answered-in-Does.result c.args.number (set_up_of c.args.config.now c.args.numbers.now)
    (Does (event_by_value c.in-Does.field-0)) (set_up_of c.args.config.now c.args.numbers.now) c.args.writer.now
    c.refuse-in-Does.new.writer (with_feed (refusal c.args.number BehindStart)) LacksRoom (λ u. u)
    c.answered-in-Does.ensures.ok c.answered-in-Does.ensures.fault (λ size d. (refl, refl)) c.refuse-in-Does.ensures)
