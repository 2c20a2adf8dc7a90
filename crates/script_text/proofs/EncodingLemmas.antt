-- For the answer of `encode_into`: digits are put into a buffer, a chunk of bytes at a time.
use Rattle.std.proofs.Common.{◌≡◌, ℕ, ◌+◌, ◌≤◌, List, [], ◌++◌, length, take, drop, sym, ap, ◌∙◌, arith}
use Rattle.std.proofs.lemmas.Grind.{flat_map-append}
use Rattle.std.proofs.lemmas.List.{append_assoc, append-nil, length-append, length-drop, length-take-le, take_all}
use Rattle.std.proofs.lemmas.Slice.{take-put_mid}
use Rattle.std.specs.List.{flat_map}
use borrow.Rule.Slice.PartMut.{put_mid}
use Rattle.script_text.specs.HexText.{hex_pair}

module _ (buffer digits all : List ℕ) (at k : ℕ) (within : at + k ≤ length buffer) (long : length digits ≡ k) where
  -- a put keeps the buffer's length
  pub put-length : length (put_mid at k buffer digits) ≡ length buffer
  put-length =
      let front = length-take-le at buffer (omega (arith, within)) in
      let back = length-drop k (drop at buffer) in
      let rest = length-drop at buffer in
      let both = length-append digits (drop k (drop at buffer)) in
      let all-of = length-append (take at buffer) (digits ++ drop k (drop at buffer)) in
      omega (arith, within, long, front, back, rest, both, all-of)

  -- the digits of a chunk are put after those of the bytes before it
  pub chunk-put : (chunk behind rest : List ℕ) → digits ≡ flat_map hex_pair chunk → chunk ++ behind ≡ rest
      → take at buffer ++ flat_map hex_pair rest ≡ all
      → take (at + k) (put_mid at k buffer digits) ++ flat_map hex_pair behind ≡ all
  chunk-put chunk behind rest is joined before =
      ap (λ t. t ++ flat_map hex_pair behind)
      (take-put_mid at k buffer digits (at + k) (omega (arith, long)) (omega (arith, within)))
      ∙ append_assoc (take at buffer) digits (flat_map hex_pair behind)
      ∙ ap (λ t. take at buffer ++ t) (ap (λ t. t ++ flat_map hex_pair behind) is
      ∙ sym (flat_map-append hex_pair chunk behind) ∙ ap (flat_map hex_pair) joined)
      ∙ before

  -- those of the last bytes are put at the end
  pub last-put : (rest : List ℕ) → digits ≡ flat_map hex_pair rest → at + k ≡ length buffer
      → take at buffer ++ flat_map hex_pair rest ≡ all → put_mid at k buffer digits ≡ all
  last-put rest is end before =
      let whole = chunk-put rest [] rest is (append-nil rest) before in
      let long : length (put_mid at k buffer digits) ≤ at + k = omega (arith, put-length, end) in
      sym (take_all (at + k) (put_mid at k buffer digits) long) ∙ sym (append-nil _) ∙ whole
