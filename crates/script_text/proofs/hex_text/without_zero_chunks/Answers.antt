use Rattle.std.proofs.Common.{◌≡◌, ◌-◌, ◌++◌, length, take-append-drop, sym, ap, ◌∙◌}
use Rattle.script_text.specs.HexText.{without_trailing_zeros}
use Rattle.script_text.proofs.TrimLemmas.{trailing-zeros}
use Rattle.script_text.proofs.hex_text.without_zero_chunks.Goals as goal

pub loop-front-preserved : goal.loop-front-preserved
loop-front-preserved g c =
    let rest = c.loop-front.rest.now in
    let ends = c.in-Some.ensures.cases in
    let joined : c.in-Some.front.now ++ c.in-Some.last.now ≡ rest =
    rw (ends.0, ends.1) (take-append-drop (length rest - g.row.N) rest) in
    sym (trailing-zeros c.in-Some.front.now c.in-Some.last.now (sym c.are_zeros.ensures ∙ c.if-not-are_zeros.false))
    ∙ ap without_trailing_zeros joined ∙ c.loop-front.invariant
