use Rattle.std.proofs.Common.{Ok, Err, ◌≡◌, ◌++◌, length, take, drop, sym, ap, subst, ◌∙◌, arith}
use Rattle.std.proofs.lemmas.List.{length-take-le, length-append, take-append-le}
use Rattle.script_text.specs.Reading.{IsNext, ReadsOn}
use Rattle.script_text.specs.declared.reading.ReadFault.TheVariants.{NoMemory, Read}
use Rattle.script_text.proofs.ReadingLemmas.{read-failed, read-ended, read-refused, read-more}
use Rattle.script_text.proofs.reading.read_text.Goals as goal

pub returns-in_default-clause-fault : goal.returns-in_default-clause-fault
returns-in_default-clause-fault g c =
    let room = length-take-le c.min-room.result c.loop-chunk.chunk (omega arith) in
    let next : IsNext c.loop-chunk.text.items _ = (omega arith, omega (arith, room)) in
    c.loop-chunk.invariant.rest (Err Read) c.take_some.new.self
    (read-failed g.R.Source.step g.R.Source.remaining c.loop-chunk.text.items c.loop-chunk.reader c.take_some.new.self _
    next c.in_default.ensures.step c.in_default.ensures.bytes)

pub returns-then-count-eq0-clause-text : goal.returns-then-count-eq0-clause-text
returns-then-count-eq0-clause-text g c =
    let room = length-take-le c.min-room.result c.loop-chunk.chunk (omega arith) in
    let next : IsNext c.loop-chunk.text.items _ = (omega arith, omega (arith, room)) in
    let bytes = c.in-Ok.ensures.bytes in
    c.loop-chunk.invariant.rest (Ok c.loop-chunk.text.items) c.take_some.new.self
    (read-ended g.R.Source.step g.R.Source.remaining c.loop-chunk.text.items c.loop-chunk.reader c.take_some.new.self _
    next (take c.in-Ok.count c.take_some.new.part)
    (sym c.in-Ok.ensures.bound.1 ∙ c.if-count-eq0.true) c.in-Ok.ensures.step bytes.0
    (bytes.1 c.if-count-eq0.true (omega (arith, room, c.take_some.auto.part))))

pub returns-then-is_err-clause-fault : goal.returns-then-is_err-clause-fault
returns-then-is_err-clause-fault g c =
    let room = length-take-le c.min-room.result c.loop-chunk.chunk (omega arith) in
    let next : IsNext c.loop-chunk.text.items _ = (omega arith, omega (arith, room)) in
    let bound = c.in-Ok.ensures.bound in
    c.loop-chunk.invariant.rest (Err NoMemory) c.take_some.new.self
    (read-refused g.R.Source.step g.R.Source.remaining c.loop-chunk.text.items c.loop-chunk.reader c.take_some.new.self
    _ next (take c.in-Ok.count c.take_some.new.part)
    (omega (arith, bound.1, c.if-count-eq0.false))
    (omega (arith, bound.0, bound.1, c.take_some.auto.part)) c.in-Ok.ensures.step c.in-Ok.ensures.bytes.0)

pub loop-chunk-preserved : goal.loop-chunk-preserved
loop-chunk-preserved g c =
    let room = length-take-le c.min-room.result c.loop-chunk.chunk (omega arith) in
    let next : IsNext c.loop-chunk.text.items _ = (omega arith, omega (arith, room)) in
    let bound = c.in-Ok.ensures.bound in
    let bytes = take c.in-Ok.count c.take_some.new.part in
    let front : take c.in-Ok.count (c.take_some.new.part ++ drop c.min-room.result c.loop-chunk.chunk) ≡ bytes =
    take-append-le c.in-Ok.count c.take_some.new.part _ bound.0 in
    let items = rw (c.if-is_err.ensures.negation) at c.extend_from_slice.ensures.items in
    let grown : c.extend_from_slice.new.self.items ≡ c.loop-chunk.text.items ++ bytes = rw front at items in
    record {
      rest = λ outcome new h. c.loop-chunk.invariant.rest outcome new
          (read-more g.R.Source.step g.R.Source.remaining c.loop-chunk.text.items c.loop-chunk.reader
          c.take_some.new.self _ next bytes
          (omega (arith, bound.1, c.if-count-eq0.false)) (omega (arith, bound.0, bound.1, c.take_some.auto.part))
          c.in-Ok.ensures.step c.in-Ok.ensures.bytes.0 outcome new
          (subst (λ t. ReadsOn g.R.Source.step g.R.Source.remaining t c.take_some.new.self outcome new) grown h));
      bound = omega (
        arith,
        ap length grown,
        bound.0,
        bound.1,
        c.take_some.auto.part,
        room,
        length-append c.loop-chunk.text.items bytes,
      );
    }
