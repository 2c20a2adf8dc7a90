-- For `Readings`: a number that is parsed from a word fits its width, and data are bytes of a valid length.
use Rattle.std.proofs.Common.{
  ◌≡◌,
  ◌∙◌,
  ℕ,
  zero,
  suc,
  ◌-◌,
  ◌*◌,
  ◌%◌,
  ◌^◌,
  ◌<◌,
  ◌≤◌,
  Bool,
  true,
  false,
  List,
  [],
  ◌∷◌,
  ◌++◌,
  length,
  drop,
  replicate,
  length-append,
  Option,
  None,
  Some,
  Result,
  Ok,
  Err,
  refl,
  ap,
  subst,
  arith,
}
use Rattle.std.specs.Prelude.{◌&&◌, codes, if◌then◌else◌, nat_eq, nat_le, nat_lt}
use Rattle.std.specs.List.{starts_with}
use Rattle.std.proofs.lemmas.Bool.{and_parts, leb-true, ltb-true}
use Rattle.std.proofs.lemmas.List.{length-replicate}
use Rattle.hex.specs.Hex.{IsBytes, decode_of}
use Rattle.hex.specs.declared.error.FromHexError.{FromHexError}
use Rattle.hex.proofs.HexLemmas.{decode_of-ok}
use Rattle.script_text.specs.Data.{bytes_at, data_at, fill_data, filled_up, hex_data, some_bytes, transfer_len}
use Rattle.script_text.specs.Numbers.{below, number, number_at}
use Rattle.nvme_spec.specs.Limits.{block_size, most_bytes}
use Rattle.nvme_lines.specs.LineLaws.{AreBytes, IsData}

below-fits : (limit n : ℕ) (o : Option ℕ) → below limit o ≡ Some n → n < limit
below-fits limit n None h = absurd (cc)
below-fits limit n (Some m) h = by (nat_lt m limit) refl h
  where
    same : (a b : ℕ) → Some a ≡ Some b → a ≡ b
    same a b e = cc

    by : (t : Bool) → nat_lt m limit ≡ t → (if t then Some m else None) ≡ Some n → n < limit
    by true e f = subst (λ k. k < limit) (same m n f) (ltb-true m limit e)
    by false e f = absurd (cc)

pub number-fits : (bits n : ℕ) (word : List ℕ) → number_at bits word ≡ Some n → n < 2 ^ bits
unfolding number_at
number-fits bits n word h = below-fits (2 ^ bits) n (number word) h

are-bytes : (bs : List ℕ) → IsBytes bs → AreBytes bs
are-bytes [] h = tt
are-bytes (b ∷ bs) h = (h zero, are-bytes bs (λ i. h (suc i)))

bytes-append : (xs ys : List ℕ) → AreBytes xs → AreBytes ys → AreBytes (xs ++ ys)
bytes-append [] ys h k = k
bytes-append (x ∷ xs) ys h k = (h.0, bytes-append xs ys h.1 k)

bytes-replicate : (n b : ℕ) → b < 256 → AreBytes (replicate n b)
bytes-replicate zero b h = tt
bytes-replicate (suc n) b h = (h, bytes-replicate n b h)

decoded : (ds bs : List ℕ) → decode_of ds ≡ Ok bs → AreBytes bs
decoded ds bs h = are-bytes bs (decode_of-ok ds bs h).3

abbrev HasBytes : List ℕ → Type 0
HasBytes bytes = AreBytes bytes × (0 < length bytes)

some-fit : (ds bytes : List ℕ) (r : Result (List ℕ) FromHexError) → decode_of ds ≡ r → some_bytes r ≡ Some bytes
    → HasBytes bytes
some-fit ds bytes (Ok []) is h = absurd (cc)
some-fit ds bytes (Ok (b ∷ bs)) is h = subst HasBytes (same (b ∷ bs) bytes h) (decoded ds (b ∷ bs) is, omega arith)
  where
    same : (a c : List ℕ) → Some a ≡ Some c → a ≡ c
    same a c e = cc
some-fit ds bytes (Err e) is h = absurd (cc)

pub bytes-fit : (word bytes : List ℕ) → bytes_at word ≡ Some bytes → HasBytes bytes
unfolding bytes_at
bytes-fit word bytes h = by (starts_with nat_eq word (codes "hex:")) h
  where
    by : (t : Bool) → (if t then some_bytes (decode_of (drop 4 word)) else None) ≡ Some bytes → HasBytes bytes
    by true k = some-fit (drop 4 word) bytes (decode_of (drop 4 word)) refl k
    by false k = absurd (cc)

-- the bytes of a transfer
abbrev IsLength : Option ℕ → Type 0
IsLength None = Unit {0}
IsLength (Some len) = (len % block_size ≡ 0) × (len ≤ most_bytes)

length-fits : (blocks : ℕ) → IsLength (transfer_len blocks)
length-fits blocks = by (nat_le 1 blocks && nat_le blocks 256) refl
  where
    by : (t : Bool) → (nat_le 1 blocks && nat_le blocks 256) ≡ t → IsLength (if t then Some (512 * blocks) else None)
    by true e =
        let few = leb-true blocks 256 (and_parts (nat_le 1 blocks) (nat_le blocks 256) e).1 in
        (omega arith, omega (arith, few))
    by false e = tt

nothing : IsData []
nothing = record { bytes = tt; whole = refl; most = omega arith }

same-bytes : (a b : List ℕ) → Some a ≡ Some b → a ≡ b
same-bytes a b e = cc

one-byte : (ds : List ℕ) (b : ℕ) → decode_of ds ≡ Ok (b ∷ []) → b < 256
one-byte ds b h = (decoded ds (b ∷ []) h).0

fill-fits : (ds bytes : List ℕ) (len : Option ℕ) → IsLength len → (r : Result (List ℕ) FromHexError)
    → decode_of ds ≡ r → fill_data len r ≡ Some bytes → IsData bytes
fill-fits ds bytes (Some len) fits (Ok (b ∷ [])) is h = subst IsData (same-bytes (replicate len b) bytes h) (record {
  bytes = bytes-replicate len b (one-byte ds b is);
  whole = ap (λ k. k % block_size) (length-replicate len b) ∙ fits.0;
  most = omega (arith, length-replicate len b, fits.1);
})
fill-fits ds bytes None fits (Ok (b ∷ [])) is h = subst IsData (same-bytes [] bytes h) nothing
fill-fits ds bytes (Some len) fits (Ok []) is h = absurd (cc)
fill-fits ds bytes None fits (Ok []) is h = absurd (cc)
fill-fits ds bytes (Some len) fits (Ok (b ∷ c ∷ bs)) is h = absurd (cc)
fill-fits ds bytes None fits (Ok (b ∷ c ∷ bs)) is h = absurd (cc)
fill-fits ds bytes (Some len) fits (Err e) is h = absurd (cc)
fill-fits ds bytes None fits (Err e) is h = absurd (cc)

filled-fits : (len : ℕ) (front bytes : List ℕ) → IsLength (Some len) → AreBytes front → filled_up len front ≡ Some bytes
    → IsData bytes
filled-fits len front bytes fits are h = by (nat_le (length front) len) refl h
  where
    by : (t : Bool) → nat_le (length front) len ≡ t
        → (if t then Some (front ++ replicate (len - length front) 0) else None) ≡ Some bytes → IsData bytes
    by true e k =
        let room = leb-true (length front) len e in
        let whole : length (front ++ replicate (len - length front) 0) ≡ len =
        omega (
          arith,
          length-append front (replicate (len - length front) 0),
          length-replicate {A = ℕ} (len - length front) 0,
          room,
        ) in
        subst IsData (same-bytes (front ++ replicate (len - length front) 0) bytes k) (record {
          bytes = bytes-append front (replicate (len - length front) 0) are
              (bytes-replicate (len - length front) 0 (omega arith));
          whole = ap (λ k. k % block_size) whole ∙ fits.0;
          most = omega (arith, whole, fits.1);
        })
    by false e k = absurd (cc)

hex-fits : (word bytes : List ℕ) (len : Option ℕ) → IsLength len → (o : Option (List ℕ))
    → bytes_at word ≡ o → hex_data len o ≡ Some bytes → IsData bytes
hex-fits word bytes (Some len) fits (Some front) is h = filled-fits len front bytes fits (bytes-fit word front is).0 h
hex-fits word bytes None fits (Some front) is h = subst IsData (same-bytes [] bytes h) nothing
hex-fits word bytes (Some len) fits None is h = absurd (cc)
hex-fits word bytes None fits None is h = absurd (cc)

pub data-fits : (blocks : ℕ) (word bytes : List ℕ) → data_at blocks word ≡ Some bytes → IsData bytes
unfolding data_at
data-fits blocks word bytes h = by (starts_with nat_eq word (codes "fill:")) h
  where
    by : (t : Bool) → (if t then fill_data (transfer_len blocks) (decode_of (drop 5 word))
        else hex_data (transfer_len blocks) (bytes_at word)) ≡ Some bytes → IsData bytes
    by true k =
        fill-fits (drop 5 word) bytes (transfer_len blocks) (length-fits blocks) (decode_of (drop 5 word)) refl k
    by false k = hex-fits word bytes (transfer_len blocks) (length-fits blocks) (bytes_at word) refl k
