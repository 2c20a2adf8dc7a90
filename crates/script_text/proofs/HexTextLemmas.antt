-- For the answers of `encode_into` and `text_of`: bytes as digits, their number, and that they are ASCII.
use Rattle.std.proofs.Common.{
  ◌≡◌,
  ◌==◌,
  ℕ,
  zero,
  suc,
  ◌*◌,
  ◌/◌,
  ◌%◌,
  ◌<◌,
  List,
  [],
  ◌∷◌,
  length,
  take,
  get_or,
  false,
  Fits,
  w8,
  refl,
  arith,
}
use Rattle.std.proofs.lemmas.Bool.{true≢false}
use Rattle.std.specs.Fmt.{digit_glyph}
use Rattle.std.specs.List.{flat_map}
use Rattle.std.specs.Str.{IsAscii}
use Rattle.std.proofs.lemmas.Str.Ascii.{IsAscii-nil, IsAscii-cons}
use Rattle.script_text.specs.HexText.{hex_pair, hex_or_dash}

pub length-pairs : (bs : List ℕ) → length (flat_map hex_pair bs) ≡ 2 * length bs
length-pairs [] = refl
length-pairs (b ∷ bs) = let e = length-pairs bs in omega (arith, e)

glyph-ascii : (d : ℕ) → d < 16 → digit_glyph false d < 128
glyph-ascii d h = grind (arith)

-- digits are ASCII
pub pairs-ascii : (bs : List ℕ) → ((i : ℕ) → Fits w8 (get_or bs i 0)) → IsAscii (flat_map hex_pair bs)
pairs-ascii [] h = IsAscii-nil
pairs-ascii (b ∷ bs) h =
    let fits : b < 256 = (h 0).fits in
    let high : b / 16 < 16 = omega (arith, fits) in
    let low : b % 16 < 16 = omega arith in
    IsAscii-cons (digit_glyph false (b / 16)) (digit_glyph false (b % 16) ∷ flat_map hex_pair bs)
    (glyph-ascii (b / 16) high)
    (IsAscii-cons (digit_glyph false (b % 16)) (flat_map hex_pair bs) (glyph-ascii (b % 16) low)
    (pairs-ascii bs (λ i. h (suc i))))

-- the digits of the first bytes are the first digits
pub pairs-take : (n : ℕ) (bs : List ℕ) → take (2 * n) (flat_map hex_pair bs) ≡ flat_map hex_pair (take n bs)
pairs-take zero bs = refl
pairs-take (suc n) [] = let two : 2 * suc n ≡ suc (suc (2 * n)) = omega arith in rw two refl
pairs-take (suc n) (b ∷ bs) =
    let two : 2 * suc n ≡ suc (suc (2 * n)) = omega arith in
    rw (two, pairs-take n bs) refl

-- a list that is not empty has digits instead of a dash
pub no-dash : (bs : List ℕ) → (length bs == 0) ≡ false → hex_or_dash bs ≡ flat_map hex_pair bs
no-dash [] h = absurd (true≢false h)
no-dash (b ∷ bs) h = refl
