-- For `ReadBack`: bytes that are formatted are parsed as the same.
use Rattle.std.proofs.Common.{
  ◌≡◌,
  ◌∙◌,
  ℕ,
  suc,
  ◌+◌,
  ◌-◌,
  ◌*◌,
  ◌/◌,
  ◌%◌,
  ◌<◌,
  ◌≤◌,
  Bool,
  true,
  false,
  List,
  [],
  ◌∷◌,
  ◌++◌,
  length,
  replicate,
  Some,
  Ok,
  refl,
  sym,
  ap,
  arith,
}
use Rattle.std.specs.Prelude.{◌==◌, codes, if◌then◌else◌, nat_eq}
use Rattle.std.specs.Fmt.{digit_glyph}
use Rattle.std.specs.List.{flat_map, list_all, starts_with}
use Rattle.std.proofs.lemmas.Bool.{and_parts, eqb-true, le-leb}
use Rattle.hex.specs.Hex.{decode_of, decode_pairs, hex_digit_value}
use Rattle.hex.proofs.HexLemmas.{decode_of-even}
use Rattle.script_text.specs.Data.{bytes_at, data_at, some_bytes, filled_up, hex_data, transfer_len}
use Rattle.script_text.specs.HexText.{hex_pair, without_trailing_zeros}
use Rattle.script_text.specs.Words.{is_visible}
use Rattle.nvme_spec.specs.Limits.{block_size}
use Rattle.nvme_lines.specs.LineLaws.{AreBytes, IsData}
use Rattle.nvme_lines.specs.LineTexts.{data_word, some_bytes_word}
use Rattle.nvme_lines.proofs.Wording.{IsWord}

digit-value : (d : ℕ) → d < 16 → hex_digit_value (digit_glyph false d) ≡ Some d
digit-value d h = grind (arith)

digit-visible : (d : ℕ) → d < 16 → is_visible (digit_glyph false d) ≡ true
digit-visible d h = grind (arith)

pub digits-visible : (bs : List ℕ) → AreBytes bs → list_all is_visible (flat_map hex_pair bs) ≡ true
digits-visible [] are = refl
digits-visible (b ∷ bs) are =
    rw (digit-visible (b / 16) (omega (arith, are.0)), digit-visible (b % 16) (omega arith), digits-visible bs are.1)
    refl

pub length-digits : (bs : List ℕ) → length (flat_map hex_pair bs) ≡ 2 * length bs
length-digits [] = refl
length-digits (b ∷ bs) = let e = length-digits bs in omega (arith, e)

pairs-decode : (i : ℕ) (bs : List ℕ) → AreBytes bs → decode_pairs i (flat_map hex_pair bs) ≡ Ok bs
unfolding decode_pairs
pairs-decode i [] are = refl
pairs-decode i (b ∷ bs) are =
    let same : b / 16 * 16 + b % 16 ≡ b = omega arith in
    rw (
      digit-value (b / 16) (omega (arith, are.0)),
      digit-value (b % 16) (omega arith),
      pairs-decode (i + 2) bs are.1,
      same,
    ) refl

pub decode-digits : (bs : List ℕ) → AreBytes bs → decode_of (flat_map hex_pair bs) ≡ Ok bs
decode-digits bs are =
    decode_of-even (flat_map hex_pair bs) (omega (arith, length-digits bs)) ∙ pairs-decode 0 bs are

pub bytes-written : (b : ℕ) (bs : List ℕ)
    → AreBytes (b ∷ bs) → bytes_at (codes "hex:" ++ flat_map hex_pair (b ∷ bs)) ≡ Some (b ∷ bs)
unfolding bytes_at
bytes-written b bs are = ap some_bytes (decode-digits (b ∷ bs) are)

pub bytes-word : (bs : List ℕ) → AreBytes bs → IsWord (codes "hex:" ++ flat_map hex_pair bs)
bytes-word bs are = record { some = omega arith; visible = digits-visible bs are }

zeros-only : (bs : List ℕ) → list_all (λ x. x == 0) bs ≡ true → bs ≡ replicate (length bs) 0
zeros-only [] h = refl
zeros-only (b ∷ bs) h =
    let parts = and_parts (b == 0) (list_all (λ x. x == 0) bs) h in
    rw (eqb-true b 0 parts.0) (ap (λ t. 0 ∷ t) (zeros-only bs parts.1))

-- zeros are added to bytes that are too short
abbrev left : Bool → ℕ → List ℕ → List ℕ
left t b bs = if t then [] else b ∷ bs

refilled-by : (b : ℕ) (bs rest : List ℕ) (t : Bool) → list_all (λ x. x == 0) (b ∷ bs) ≡ t
    → rest ++ replicate (length bs - length rest) 0 ≡ bs
    → left t b rest ++ replicate (length (b ∷ bs) - length (left t b rest)) 0 ≡ b ∷ bs
refilled-by b bs rest true e same =
    let none : suc (length bs) - 0 ≡ suc (length bs) = omega arith in
    rw none (sym (zeros-only (b ∷ bs) e))
refilled-by b bs rest false e same =
    let less : suc (length bs) - suc (length rest) ≡ length bs - length rest = omega arith in
    rw less (ap (λ t. b ∷ t) same)

pub refilled : (bs : List ℕ)
    → without_trailing_zeros bs ++ replicate (length bs - length (without_trailing_zeros bs)) 0 ≡ bs
refilled [] = refl
refilled (b ∷ bs) = refilled-by b bs (without_trailing_zeros bs) (list_all (λ x. x == 0) (b ∷ bs)) refl (refilled bs)

shorter-by : (b n : ℕ) (rest : List ℕ) (t : Bool) → length rest ≤ n → length (left t b rest) ≤ suc n
shorter-by b n rest true less = omega arith
shorter-by b n rest false less = omega (arith, less)

pub trimmed-shorter : (bs : List ℕ) → length (without_trailing_zeros bs) ≤ length bs
trimmed-shorter [] = omega arith
trimmed-shorter (b ∷ bs) =
    shorter-by b (length bs) (without_trailing_zeros bs) (list_all (λ x. x == 0) (b ∷ bs)) (trimmed-shorter bs)

bytes-by : (b : ℕ) (rest : List ℕ) (t : Bool) → b < 256 → AreBytes rest → AreBytes (left t b rest)
bytes-by b rest true small are = tt
bytes-by b rest false small are = (small, are)

trimmed-bytes : (bs : List ℕ) → AreBytes bs → AreBytes (without_trailing_zeros bs)
trimmed-bytes [] are = are
trimmed-bytes (b ∷ bs) are =
    bytes-by b (without_trailing_zeros bs) (list_all (λ x. x == 0) (b ∷ bs)) are.0 (trimmed-bytes bs are.1)

-- the rest of a transfer's data
filled : (front bytes : List ℕ) (len : ℕ) → length front ≤ len → length bytes ≡ len
    → front ++ replicate (len - length front) 0 ≡ bytes → filled_up len front ≡ Some bytes
filled front bytes len fits whole same = rw (le-leb (length front) len fits) (ap Some same)

some-read : (front bytes : List ℕ) (len : ℕ) → 0 < len → length front ≤ len → length bytes ≡ len → AreBytes front
    → front ++ replicate (len - length front) 0 ≡ bytes
    → hex_data (Some len) (bytes_at (some_bytes_word front)) ≡ Some bytes
some-read [] bytes len some fits whole are same =
    let zero_read : bytes_at (codes "hex:00") ≡ Some (0 ∷ []) = bytes-written 0 [] (omega arith, tt) in
    let one_less : len ≡ suc (len - 1) = omega (arith, some) in
    rw zero_read (filled (0 ∷ []) bytes len some whole
    (sym (ap (λ n. replicate n 0) one_less) ∙ ap (λ n. replicate n 0) (omega arith) ∙ same))
some-read (b ∷ bs) bytes len some fits whole are same =
    rw (bytes-written b bs are) (filled (b ∷ bs) bytes len fits whole same)

no-fill : (front : List ℕ) → starts_with nat_eq (some_bytes_word front) (codes "fill:") ≡ false
no-fill [] = refl
no-fill (b ∷ bs) = refl

has-length : (n : ℕ) → 1 ≤ n → n ≤ 256 → transfer_len n ≡ Some (512 * n)
has-length n some few = rw (le-leb 1 n some, le-leb n 256 few) refl

pub data-read : (bytes : List ℕ) → IsData bytes → data_at (length bytes / block_size) (data_word bytes) ≡ Some bytes
unfolding data_at bytes_at decode_pairs
data-read [] is = refl
data-read (b ∷ bs) is =
    let n = length (b ∷ bs) / block_size in
    let front = without_trailing_zeros (b ∷ bs) in
    let whole : length (b ∷ bs) ≡ 512 * n = omega (arith, is.whole) in
    let some : 1 ≤ n = omega (arith, whole) in
    let few : n ≤ 256 = omega (arith, is.most) in
    let read = some-read front (b ∷ bs) (512 * n) (omega (arith, some))
    (omega (arith, whole, trimmed-shorter (b ∷ bs))) whole (trimmed-bytes (b ∷ bs) is.bytes)
    (ap (λ k. front ++ replicate (k - length front) 0) (sym whole) ∙ refilled (b ∷ bs)) in
    rw (no-fill front, has-length n some few) read

some-word : (front : List ℕ) → AreBytes front → IsWord (some_bytes_word front)
some-word [] are = record { some = omega arith; visible = refl }
some-word (b ∷ bs) are = bytes-word (b ∷ bs) are

pub data-is_word : (bytes : List ℕ) → AreBytes bytes → IsWord (data_word bytes)
data-is_word bytes are = some-word (without_trailing_zeros bytes) (trimmed-bytes bytes are)
