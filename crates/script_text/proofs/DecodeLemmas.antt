-- For the answers of `decode` and `decoded`: pairs of hexadecimal digits, one after the other.
use Rattle.std.proofs.Common.{
  ◌≡◌,
  ℕ,
  ◌+◌,
  ◌*◌,
  ◌%◌,
  ◌<◌,
  ◌≤◌,
  Bool,
  true,
  false,
  ◌&&◌,
  List,
  [],
  ◌∷◌,
  length,
  take,
  drop,
  slice_index,
  slice_set,
  Option,
  Some,
  None,
  Ok,
  Err,
  refl,
  arith,
}
use Rattle.std.specs.Prelude.{MatchResult, nat_lt, unwrap_or}
use Rattle.std.proofs.lemmas.Bool.{lt-ltb}
use Rattle.script_text.specs.Data.{some_bytes}
use Rattle.hex.specs.Hex.{decode_of, decode_pairs, hex_digit_value, pair_value}
use Rattle.hex.specs.declared.error.FromHexError.{FromHexError}
use Rattle.hex.specs.declared.error.FromHexError.TheVariants.{InvalidHexCharacter}
use Rattle.hex.proofs.Pairs.{prepend, decode_step, decode_err, decode_done}

-- i pairs are decoded, or one of them is not a pair of digits
abbrev pub Decoded : List ℕ → List ℕ → ℕ → Bool → Type 0
Decoded digits bytes i true =
    decode_pairs 0 digits ≡ prepend (take i bytes) (decode_pairs (2 * i) (drop (2 * i) digits))
Decoded digits bytes i false = (e : FromHexError) × (decode_pairs 0 digits ≡ Err e)

-- the byte of two values
abbrev pub joined : ℕ → ℕ → ℕ
joined h l = (h * 16 % 256 + l) % 256

digit-small : (c v : ℕ) → hex_digit_value c ≡ Some v → v < 16
digit-small c v h = grind (arith)

-- one pair more
pub decoded-next : (digits bytes : List ℕ) (i : ℕ) (good : Bool) → 2 * i + 1 < length digits → i < length bytes
    → Decoded digits bytes i good → (a b : Option ℕ)
    → hex_digit_value (slice_index digits (2 * i)) ≡ a → hex_digit_value (slice_index digits (2 * i + 1)) ≡ b
    → Decoded digits (slice_set bytes i (joined (unwrap_or a 255) (unwrap_or b 255))) (i + 1)
    ((good && nat_lt (unwrap_or a 255) 16) && nat_lt (unwrap_or b 255) 16)
decoded-next digits bytes i false some room h a b e f = h
decoded-next digits bytes i true some room h (Some v) (Some w) e f =
    let high : v < 16 = digit-small (slice_index digits (2 * i)) v e in
    let low : w < 16 = digit-small (slice_index digits (2 * i + 1)) w f in
    let byte : joined v w ≡ v * 16 + w = omega arith in
    let pair : pair_value (slice_index digits (2 * i)) (slice_index digits (2 * i + 1)) (2 * i) ≡ Ok (joined v w) =
    rw (e, f, byte) refl in
    rw (lt-ltb v 16 high, lt-ltb w 16 low) (decode_step digits bytes i (joined v w) some room pair h)
decoded-next digits bytes i true some room h None b e f =
    (InvalidHexCharacter (slice_index digits (2 * i)) (2 * i), decode_err digits bytes i _ some (rw e refl) h)
decoded-next digits bytes i true some room h (Some v) None e f =
    let high : v < 16 = digit-small (slice_index digits (2 * i)) v e in
    rw (lt-ltb v 16 high) (
      InvalidHexCharacter (slice_index digits (2 * i + 1)) (2 * i + 1),
      decode_err digits bytes i _ some (rw (e, f) refl) h,
    )

-- all pairs
pub decoded-all : (digits bytes : List ℕ) (i : ℕ) (good : Bool) → length bytes ≤ i → length digits ≡ 2 * length bytes
    → Decoded digits bytes i good
    → MatchResult (decode_pairs 0 digits) (λ all. (good ≡ true) × (bytes ≡ all)) (λ _. good ≡ false)
decoded-all digits bytes i true past pairs h =
    rw (decode_done digits bytes i past (omega (arith, pairs)) h) (refl, refl)
decoded-all digits bytes i false past pairs h = rw h.1 refl

-- no digits, no bytes
pub no_bytes : (digits : List ℕ) → length digits ≡ 0 → None ≡ some_bytes (decode_of digits)
unfolding decode_pairs
no_bytes [] none = refl
no_bytes (d ∷ digits) none = absurd (omega (arith, none))
