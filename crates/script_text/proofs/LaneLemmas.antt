-- For the answers of `encode.rt`: bytes as digits, a vector of n bytes at a time. `zip2` applies an operation lane by
-- lane, `sel_l` selects, `pick_l` takes the lanes at positions, and `put_chunk` stores a vector.
use Rattle.std.proofs.Common.{
  ◌≡◌,
  ℕ,
  zero,
  suc,
  ◌+◌,
  ◌-◌,
  ◌*◌,
  ◌/◌,
  ◌%◌,
  ◌^◌,
  ◌<◌,
  ◌≤◌,
  cond,
  ltb,
  leb,
  false,
  List,
  [],
  ◌∷◌,
  ◌++◌,
  length,
  take,
  drop,
  map,
  get_or,
  bit_and,
  replicate,
  Fits,
  w8,
  refl,
  sym,
  subst,
  ap,
  ◌∙◌,
  arith,
}
use Rattle.std.proofs.Math.Seq.{drop-cons}
use Rattle.std.proofs.lemmas.Grind.{flat_map-append}
use Rattle.std.proofs.lemmas.List.{
  append_assoc,
  append-nil,
  drop_all,
  drop_at,
  length-append,
  length-drop,
  length-map,
  take_all,
  take_at,
}
use Rattle.std.proofs.lemmas.Nat.{and_mask}
use Rattle.std.proofs.lemmas.Simd.{chunk-drop, length-chunk, length-put_chunk, take_more_put_chunk}
use Rattle.std.specs.Fmt.{digit_glyph}
use Rattle.std.specs.List.{flat_map}
use Rattle.std.specs.Simd.Lanes.{Each1, chunk, pick_l, put_chunk, sel_l, top, zip2}
use borrow.Rule.Slice.PartMut.{mid_of, put_mid}
use Rattle.script_text.specs.HexText.{hex_pair, high_digit, low_digit}

-- the digits of numbers below 16; those above 9 are letters
abbrev lane_digits : ℕ → List ℕ → List ℕ
lane_digits n xs =
    zip2 (λ a b. (a + b) % 256) xs
    (sel_l (map (top 7) (zip2 (λ a b. cond (ltb a b) 255 0) (replicate n 9) xs)) (replicate n 87) (replicate n 48))

digit-lane : (x : ℕ) → x < 16 → (x + cond (leb 128 (cond (ltb 9 x) 255 0)) 87 48) % 256 ≡ digit_glyph false x
digit-lane x small = grind (arith)

low-each : (xs : List ℕ) → lane_digits (length xs) (zip2 bit_and xs (replicate (length xs) 15)) ≡ map low_digit xs
low-each [] = refl
low-each (x ∷ xs) =
    let first = ap (λ n. (n + cond (leb 128 (cond (ltb 9 n) 255 0)) 87 48) % 256) (and_mask x 4)
    ∙ digit-lane (x % 16) (omega arith) in
    λ i. first i ∷ low-each xs i

-- the second digit of each byte
pub low-lanes : (n : ℕ) (xs : List ℕ)
    → length xs ≡ n → lane_digits n (zip2 bit_and xs (replicate n 15)) ≡ map low_digit xs
low-lanes n xs long =
    subst (λ (n : ℕ). lane_digits n (zip2 bit_and xs (replicate n 15)) ≡ map low_digit xs) long (low-each xs)

high-each : (xs : List ℕ)
    → Each1 (Fits w8) xs → map low_digit (zip2 (λ a b. a / 2 ^ b) xs (replicate (length xs) 4)) ≡ map high_digit xs
high-each [] fits = refl
high-each (x ∷ xs) fits =
    let byte : x < 256 = fits.0.fits in
    let half : x / 16 % 16 ≡ x / 16 = omega (arith, byte) in
    λ i. digit_glyph false (half i) ∷ high-each xs fits.1 i

-- the first digit of each byte is the second one of its upper half
pub high-lanes : (n : ℕ) (xs : List ℕ) → length xs ≡ n → Each1 (Fits w8) xs
    → map low_digit (zip2 (λ a b. a / 2 ^ b) xs (replicate n 4)) ≡ map high_digit xs
high-lanes n xs long fits = subst
    (λ (n : ℕ). map low_digit (zip2 (λ a b. a / 2 ^ b) xs (replicate n 4)) ≡ map high_digit xs) long (high-each xs fits)

-- the elements of two lists, alternating
abbrev woven : List ℕ → List ℕ → List ℕ
woven [] ys = []
woven (x ∷ xs) [] = []
woven (x ∷ xs) (y ∷ ys) = x ∷ y ∷ woven xs ys

-- n positions from a and n from b, alternating
abbrev pub weave : ℕ → ℕ → ℕ → List ℕ
weave a b zero = []
weave a b (suc n) = a ∷ b ∷ weave (suc a) (suc b) n

woven-at : (zs : List ℕ) (a b n : ℕ) → a + n ≤ length zs → b + n ≤ length zs
    → pick_l 0 zs (weave a b n) ≡ woven (chunk a n zs) (chunk b n zs)
woven-at zs a b zero first second = refl
woven-at zs a b (suc n) first second =
    rw (drop-cons zs a 0 (omega (arith, first)), drop-cons zs b 0 (omega (arith, second)))
    (λ i.
    get_or zs a 0 ∷ get_or zs b 0 ∷ woven-at zs (suc a) (suc b) n (omega (arith, first)) (omega (arith, second)) i)

woven-pairs : (bs : List ℕ) → woven (map high_digit bs) (map low_digit bs) ≡ flat_map hex_pair bs
woven-pairs [] = refl
woven-pairs (b ∷ bs) = λ i. high_digit b ∷ low_digit b ∷ woven-pairs bs i

-- n first digits and n second ones, alternating, are the digits of n bytes
pub pairs-woven : (n : ℕ) (bs highs lows : List ℕ) → length bs ≡ n → highs ≡ map high_digit bs → lows ≡ map low_digit bs
    → pick_l 0 (highs ++ lows) (weave 0 n n) ≡ flat_map hex_pair bs
pairs-woven n bs highs lows long first second =
    let high : length highs ≡ n = ap length first ∙ length-map bs high_digit ∙ long in
    let low : length lows ≡ n = ap length second ∙ length-map bs low_digit ∙ long in
    let both = length-append highs lows in
    woven-at (highs ++ lows) 0 n n (omega (arith, both, high, low)) (omega (arith, both, high, low))
    ∙ (λ i. woven (take_at highs lows n high i) (take n (drop_at highs lows n high i)))
    ∙ (λ i. woven (first i) (take_all n lows (omega (arith, low)) i))
    ∙ ap (woven (map high_digit bs)) second ∙ woven-pairs bs

-- a vector stored at the front of the rest from a is stored at a
rest-put : (a : ℕ) (old v : List ℕ) → take a old ++ put_chunk 0 (drop a old) v ≡ put_chunk a old v
rest-put zero old v = refl
rest-put (suc a) [] v = refl
rest-put (suc a) (x ∷ old) v = λ i. x ∷ rest-put a old v i

abbrev stored : ℕ → ℕ → List ℕ → List ℕ → List ℕ
stored a e old v = put_mid a e old (put_chunk 0 (mid_of a e old) v)

stored-at : (a e : ℕ) (old v : List ℕ) → length old ≡ a + e → stored a e old v ≡ put_chunk a old v
stored-at a e old v long =
    let cut = length-drop a old in
    let whole : take e (drop a old) ≡ drop a old = take_all e (drop a old) (omega (arith, cut, long)) in
    (λ i. take a old ++ (put_chunk 0 (whole i) v ++ drop_all e (drop a old) (omega (arith, cut, long)) i))
    ∙ ap (λ t. take a old ++ t) (append-nil _) ∙ rest-put a old v

-- the k-th of the vectors of 32 bytes
abbrev pub lanes : List ℕ → ℕ → List ℕ
lanes bytes k = chunk 0 32 (mid_of (32 * k) (128 - 32 * k) bytes)

module _ (bytes : List ℕ) (k : ℕ) (within : k < 4) (told : length bytes ≡ 128) where
  lanes-are : lanes bytes k ≡ chunk (32 * k) 32 bytes
  lanes-are =
      let cut = length-drop (32 * k) bytes in
      ap (take 32) (take_all (128 - 32 * k) (drop (32 * k) bytes) (omega (arith, cut, told)))

  pub lanes-long : length (lanes bytes k) ≡ 32
  lanes-long = ap length lanes-are ∙ length-chunk (32 * k) 32 bytes (omega (arith, within, told))

  -- its digits are put after those of the bytes before it
  module _ (digits front back : List ℕ) (size : length digits ≡ 256) (first : length front ≡ 32)
      (second : length back ≡ 32) where
    abbrev vector_put : List ℕ
    vector_put = stored (64 * k + 32) (256 - (64 * k + 32)) (stored (64 * k) (256 - 64 * k) digits front) back

    vector-put-is : vector_put ≡ put_chunk (64 * k + 32) (put_chunk (64 * k) digits front) back
    vector-put-is =
        let one = stored-at (64 * k) (256 - 64 * k) digits front (omega (arith, within, size)) in
        let long = length-put_chunk (64 * k) digits front in
        ap (λ t. stored (64 * k + 32) (256 - (64 * k + 32)) t back) one
        ∙ stored-at (64 * k + 32) (256 - (64 * k + 32)) (put_chunk (64 * k) digits front) back
        (omega (arith, within, size, long))

    pub vector-length : length vector_put ≡ 256
    vector-length =
        ap length vector-put-is ∙ length-put_chunk (64 * k + 32) (put_chunk (64 * k) digits front) back
        ∙ length-put_chunk (64 * k) digits front ∙ size

    pub vector-encoded : front ++ back ≡ flat_map hex_pair (lanes bytes k)
        → take (64 * k) digits ++ flat_map hex_pair (drop (32 * k) bytes) ≡ flat_map hex_pair bytes
        → take (64 * (k + 1)) vector_put ++ flat_map hex_pair (drop (32 * (k + 1)) bytes) ≡ flat_map hex_pair bytes
    vector-encoded is before =
        let a = 64 * k in
        let i = 32 * k in
        let one = take_more_put_chunk a digits front (a + 32) (omega (arith, first)) (omega (arith, within, size)) in
        let long = length-put_chunk a digits front in
        let two = take_more_put_chunk (a + 32) (put_chunk a digits front) back (64 * (k + 1)) (omega (arith, second))
        (omega (arith, within, size, long)) in
        let next : 32 * (k + 1) ≡ i + 32 = omega arith in
        let rest = flat_map hex_pair (drop (i + 32) bytes) in
        let joined : flat_map hex_pair (chunk i 32 bytes) ++ rest ≡ flat_map hex_pair (drop i bytes) =
        sym (flat_map-append hex_pair (chunk i 32 bytes) (drop (i + 32) bytes))
        ∙ ap (flat_map hex_pair) (sym (chunk-drop i 32 bytes)) in
        (λ j. take (64 * (k + 1)) (vector-put-is j) ++ flat_map hex_pair (drop (next j) bytes))
        ∙ (λ j. (two ∙ ap (λ t. t ++ back) one) j ++ rest)
        ∙ ap (λ t. t ++ rest) (append_assoc (take a digits) front back)
        ∙ append_assoc (take a digits) (front ++ back) rest
        ∙ ap (λ t. take a digits ++ t) (ap (λ t. t ++ rest) (is ∙ ap (flat_map hex_pair) lanes-are) ∙ joined)
        ∙ before

-- all of them are
pub vectors-done : (bytes digits : List ℕ) (k : ℕ) → 4 ≤ k → length bytes ≡ 128 → length digits ≡ 256
    → take (64 * k) digits ++ flat_map hex_pair (drop (32 * k) bytes) ≡ flat_map hex_pair bytes
    → digits ≡ flat_map hex_pair bytes
vectors-done bytes digits k past told size encoded =
    rw (
      drop_all (32 * k) bytes (omega (arith, past, told)),
      take_all (64 * k) digits (omega (arith, past, size)),
      append-nil,
    ) at encoded
