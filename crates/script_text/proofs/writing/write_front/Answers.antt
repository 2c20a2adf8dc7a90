use Rattle.std.proofs.Common.{◌≡◌, ◌-◌, Ok, Err, take_all, length, take, drop, refl, sym, ap, subst, rules, arith}
use Rattle.std.proofs.lemmas.List.{length-drop, drop-drop}
use Rattle.std.proofs.Math.Seq.{take-add}
use Rattle.script_text.specs.Writing.{IsWritten}
use Rattle.script_text.proofs.WritingLemmas.{Appends-more, written-whole, write-failed, write-stopped, write-more}
use Rattle.script_text.proofs.writing.write_front.Goals as goal

pub loop-written-preserved : goal.loop-written-preserved
loop-written-preserved g c =
    let bytes = c.args.bytes.now in
    let written = c.loop-written.written in
    let count = c.in-Ok.count in
    let kept = c.loop-written.invariant in
    let long = length-drop written bytes in
    let fits = c.in-Ok.ensures.bound in
    let rest : take (length bytes - written) (drop written bytes) ≡ drop written bytes =
    take_all (length bytes - written) (drop written bytes) (omega (arith, long)) in
    record {
      within = omega (arith, fits, long, c.loop-written-test.true);
      appended = rw (take-add written count bytes) (Appends-more (g.W.Sink.contents c.args.writer.now)
          (g.W.Sink.contents c.loop-written.writer) (g.W.Sink.contents c.give_some.new.self)
          (take written bytes) (take count (drop written bytes)) kept.appended (rw rest at c.in-Ok.ensures.bytes));
      rest = λ outcome new h. kept.rest outcome new
          (write-more g.W.Sink.step (drop written bytes) c.loop-written.writer outcome c.give_some.new.self
          (omega (arith, long)) count (omega arith) (omega (arith, ap length rest, fits))
          (rw rest at c.in-Ok.ensures.step) new
          (subst (λ t. IsWritten g.W.Sink.step t c.give_some.new.self outcome new)
          (sym (drop-drop count written bytes)) h));
    }

pub returns-in-Err-clause-writes : goal.returns-in-Err-clause-writes
returns-in-Err-clause-writes g c =
    let bytes = c.args.bytes.now in
    let written = c.loop-written.written in
    let long = length-drop written bytes in
    let rest : take (length bytes - written) (drop written bytes) ≡ drop written bytes =
    take_all (length bytes - written) (drop written bytes) (omega (arith, long)) in
    c.loop-written.invariant.rest (Err c.in-Err.error) c.give_some.new.self
    (write-failed g.W.Sink.step (drop written bytes) c.loop-written.writer (Err c.in-Err.error) c.give_some.new.self
    (omega (arith, long)) (rw rest at c.in-Err.ensures.step) c.in-Err.error refl)

pub returns-in-Ok-eq0-clause-writes : goal.returns-in-Ok-eq0-clause-writes
returns-in-Ok-eq0-clause-writes g c =
    let bytes = c.args.bytes.now in
    let zero : c.in-Ok-eq0.field-0 ≡ 0 = search rules in
    let written = c.loop-written.written in
    let long = length-drop written bytes in
    let rest : take (length bytes - written) (drop written bytes) ≡ drop written bytes =
    take_all (length bytes - written) (drop written bytes) (omega (arith, long)) in
    c.loop-written.invariant.rest (Err c.from.result) c.give_some.new.self
    (write-stopped g.W.Sink.step (drop written bytes) c.loop-written.writer (Err c.from.result) c.give_some.new.self
    (omega (arith, long)) (rw rest at (rw zero at c.in-Ok-eq0.ensures.step)) c.from.result refl)

pub returns-clause-writes : goal.returns-clause-writes
returns-clause-writes g c =
    c.loop-written.invariant.rest (Ok tt) c.loop-written.writer
    (written-whole g.W.Sink.step (drop c.loop-written.written c.args.bytes.now) c.loop-written.writer (Ok tt)
    (omega (arith, length-drop c.loop-written.written c.args.bytes.now)) refl)
