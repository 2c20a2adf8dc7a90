use Rattle.std.proofs.Common.{◌++◌, refl}
use Rattle.std.specs.Simd.Lanes.{pick_l}
use Rattle.script_text.proofs.LaneLemmas.{
  lanes,
  lanes-long,
  pairs-woven,
  vector-encoded,
  vector-length,
  vectors-done,
  weave,
}
use Rattle.script_text.proofs.hex_text.encode.Goals as goal

pub loop-k-preserved : goal.loop-k-preserved
loop-k-preserved c =
    let bytes = c.args.bytes.now in
    let digits = c.loop-k.digits in
    let k = c.loop-k.k in
    let fewer = c.loop-k-test.true in
    let told = c.told-bytes in
    let size = c.loop-k.invariant.size in
    let both = c.high_digits.result ++ c.low_digits.result in
    let front = pick_l 0 both (weave 0 32 16) in
    let back = pick_l 0 both (weave 16 48 16) in
    let pairs = pairs-woven 32 (lanes bytes k) c.high_digits.result c.low_digits.result
    (lanes-long bytes k fewer told) c.high_digits.ensures c.low_digits.ensures in
    record {
      size = vector-length bytes k fewer told digits front back size refl refl;
      encoded = vector-encoded bytes k fewer told digits front back size refl refl pairs c.loop-k.invariant.encoded;
    }

pub returns : goal.returns
returns c = vectors-done c.args.bytes.now c.loop-k.digits c.loop-k.k c.loop-k-test.false c.told-bytes
    c.loop-k.invariant.size c.loop-k.invariant.encoded
