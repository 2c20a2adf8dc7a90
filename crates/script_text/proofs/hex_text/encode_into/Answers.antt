use Rattle.std.proofs.Common.{◌≡◌, ◌+◌, ◌-◌, ◌*◌, ◌≤◌, ◌++◌, ◌∙◌, length, take, take-append-drop, sym, ap, arith}
use Rattle.std.specs.List.{flat_map}
use borrow.Rule.Slice.PartMut.{put_mid}
use Rattle.script_text.specs.HexText.{hex_pair}
use Rattle.script_text.proofs.EncodingLemmas.{chunk-put, last-put, put-length}
use Rattle.script_text.proofs.HexTextLemmas.{length-pairs, pairs-take}
use Rattle.script_text.proofs.hex_text.encode_into.Goals as goal

pub loop-chunk-preserved : goal.loop-chunk-preserved
loop-chunk-preserved c =
    let inv = c.loop-chunk.invariant in
    let at = c.loop-chunk.at in
    let k = at + 256 - at in
    let buffer = c.loop-chunk.buffer in
    let chunk = c.in-Some.chunk.now in
    let behind = c.in-Some.behind.now in
    let rest = c.loop-chunk.rest.now in
    let ends = c.in-Some.ensures.cases in
    let joined : chunk ++ behind ≡ rest = rw (ends.0, ends.1) (take-append-drop 128 rest) in
    let lengths : length behind + 128 ≡ length rest = ends.2 in
    let digits : c.copy_from_slice.new.self ≡ flat_map hex_pair chunk =
    c.copy_from_slice.ensures.after ∙ c.encode.ensures in
    let wide : k ≡ 256 = omega arith in
    let long : length c.copy_from_slice.new.self ≡ k =
    ap length c.copy_from_slice.ensures.after ∙ c.encode.array_long ∙ sym wide in
    let within : at + k ≤ length buffer = omega (arith, wide, lengths, inv.place, inv.size) in
    record {
      size =
          put-length buffer c.copy_from_slice.new.self (flat_map hex_pair c.args.bytes.now) at k within long ∙ inv.size;
      place = omega (arith, inv.place, lengths);
      encoded = ap (λ n. take n (put_mid at k buffer c.copy_from_slice.new.self) ++ flat_map hex_pair behind)
          (ap (λ n. at + n) (sym wide))
          ∙ chunk-put buffer c.copy_from_slice.new.self
          (flat_map hex_pair c.args.bytes.now) at k within long chunk behind rest digits joined inv.encoded;
    }

pub returns : goal.returns
returns c =
    let inv = c.loop-chunk.invariant in
    let at = c.loop-chunk.at in
    let buffer = c.loop-chunk.buffer in
    let k = length buffer - at in
    let rest = c.loop-chunk.rest.now in
    let digits : c.copy_from_slice-2.new.self ≡ flat_map hex_pair rest =
    c.copy_from_slice-2.ensures.after ∙ ap (take (2 * length rest)) c.encode-2.ensures
    ∙ pairs-take (length rest) c.padded.result ∙ ap (flat_map hex_pair) c.padded.ensures in
    let end : at + k ≡ length buffer = omega (arith, inv.place, inv.size) in
    let long : length c.copy_from_slice-2.new.self ≡ k =
    ap length digits ∙ length-pairs rest ∙ omega (arith, inv.place, inv.size) in
    last-put buffer c.copy_from_slice-2.new.self (flat_map hex_pair c.args.bytes.now) at k
    (omega (arith, end)) long rest digits end inv.encoded
