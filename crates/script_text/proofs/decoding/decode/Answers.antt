use Rattle.std.proofs.Common.{arith, refl, slice_index, ◌*◌, ◌+◌}
use Rattle.hex.specs.Hex.{hex_digit_value}
use Rattle.script_text.proofs.DecodeLemmas.{decoded-next, decoded-all}
use Rattle.script_text.proofs.decoding.decode.Goals as goal

pub loop-i-preserved : goal.loop-i-preserved
loop-i-preserved c =
    let digits = c.args.digits.now in
    let i = c.loop-i.i in
    rw (c.value_of-high.ensures, c.value_of-low.ensures)
    (decoded-next digits c.loop-i.bytes i c.loop-i.good (omega (arith, c.requires.pairs, c.loop-i-test.true))
    (omega (arith, c.loop-i.auto.bytes, c.loop-i-test.true)) c.loop-i.invariant
    (hex_digit_value (slice_index digits (2 * i))) (hex_digit_value (slice_index digits (2 * i + 1))) refl refl)

pub returns : goal.returns
returns c =
    decoded-all c.args.digits.now c.loop-i.bytes c.loop-i.i c.loop-i.good
    (omega (arith, c.loop-i.auto.bytes, c.loop-i-test.false))
    (omega (arith, c.loop-i.auto.bytes, c.requires.pairs)) c.loop-i.invariant
