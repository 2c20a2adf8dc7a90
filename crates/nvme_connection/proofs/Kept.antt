-- The first 128 bytes of a PDU, of which more and more come.
use Rattle.std.proofs.Common.{
  ◌≡◌,
  ℕ,
  zero,
  suc,
  ◌+◌,
  ◌-◌,
  ◌≤◌,
  ◌<◌,
  List,
  [],
  ◌∷◌,
  length,
  ◌++◌,
  take,
  drop,
  refl,
  sym,
  ap,
  ◌∙◌,
  inl,
  inr,
  arith,
}
use Rattle.std.specs.Prelude.{◌⊎◌, get_or, min}
use Rattle.std.proofs.Math.Nat.{eq-or-lt_of_le}
use Rattle.std.proofs.Math.Seq.{take-append-add}
use Rattle.std.proofs.lemmas.List.{
  append_assoc,
  append-nil,
  length-append,
  length-take-le,
  take_all,
  take_at,
  take-append-le,
  take-take,
  drop_all,
}

-- what is past the new bytes does not count
by_end : (front kept : List ℕ) (m last : ℕ) → length kept ≡ 128 → length front ≡ last → last ≡ min m 128
    → take m (front ++ drop last kept) ≡ front
by_end front kept m last size is ends = by (eq-or-lt_of_le (omega (arith, ends)))
  where
    by : (last ≡ m) ⊎ (last < m) → take m (front ++ drop last kept) ≡ front
    by (inl same) = take_at front (drop last kept) m (is ∙ same)
    by (inr less) =
        ap (λ xs. take m (front ++ xs)) (drop_all last kept (omega (arith, size, ends, less)))
        ∙ ap (take m) (append-nil front) ∙ take_all m front (omega (arith, is, ends))

-- the lesser of a number and the length are as many
enough : (n : ℕ) (bytes : List ℕ) (a b : ℕ) → a ≤ b → a ≡ min n b → n ≡ length bytes → take a bytes ≡ take b bytes
enough n bytes a b below is all = by (eq-or-lt_of_le below)
  where
    by : (a ≡ b) ⊎ (a < b) → take a bytes ≡ take b bytes
    by (inl same) = ap (λ k. take k bytes) same
    by (inr less) = take_all a bytes (omega (arith, is, all, less))
        ∙ sym (take_all b bytes (omega (arith, is, all, less)))

-- the first 128 of all
first_of : (unit bytes : List ℕ) (first last : ℕ) → first ≡ min (length unit) 128
    → last ≡ min (length unit + length bytes) 128
    → take first unit ++ take (last - first) bytes ≡ take 128 (unit ++ bytes)
first_of unit bytes first last begins ends = by (eq-or-lt_of_le (omega (arith, begins)))
  where
    by : (first ≡ length unit) ⊎ (first < length unit)
        → take first unit ++ take (last - first) bytes ≡ take 128 (unit ++ bytes)
    by (inl same) =
        let end : length unit + (128 - length unit) ≡ 128 = omega (arith, same, begins) in
        ap (λ xs. xs ++ take (last - first) bytes) (take_all first unit (omega (arith, same)))
        ∙ ap (λ xs. unit ++ xs) (enough (length bytes) bytes (last - first) (128 - length unit) (omega
        (arith, same, begins, ends)) (omega (arith, same, begins, ends)) refl)
        ∙ sym (take-append-add unit bytes (128 - length unit))
        ∙ ap (λ k. take k (unit ++ bytes)) end
    by (inr less) =
        let none : last - first ≡ 0 = omega (arith, begins, ends, less) in
        let all : first ≡ 128 = omega (arith, begins, less) in
        ap (λ k. take first unit ++ take k bytes) none
        ∙ append-nil (take first unit)
        ∙ ap (λ k. take k unit) all
        ∙ sym (take-append-le 128 unit bytes (omega (arith, less, all)))

pub some-kept : (kept unit : List ℕ) (n m : ℕ) → m ≤ n → m ≤ 128 → take n kept ≡ take 128 unit
    → take m kept ≡ take m unit
some-kept kept unit n m few within same =
    sym (take-take m n kept few) ∙ ap (take m) same ∙ take-take m 128 unit within

pub kept_with : (kept unit bytes : List ℕ) (n first last : ℕ) → length kept ≡ 128 → n ≡ length unit
    → first ≡ min n 128 → last ≡ min (n + length bytes) 128 → take n kept ≡ take 128 unit
    → take (n + length bytes) (take first kept ++ (take (last - first) bytes ++ drop last kept)) ≡ take 128 (unit
    ++ bytes)
kept_with kept unit bytes n first last size is begins ends same =
    let new : length (take (last - first) bytes)
    ≡ last - first = length-take-le (last - first) bytes (omega (arith, begins, ends)) in
    let old : length (take first kept) ≡ first = length-take-le first kept (omega (arith, size, begins)) in
    let front : length (take first kept ++ take (last - first) bytes) ≡ last =
    omega (arith, length-append (take first kept) (take (last - first) bytes), new, old, begins, ends) in
    let first-is : take first kept ≡ take first unit = some-kept kept unit n first (omega (arith, begins)) (omega
    (arith, begins)) same in
    ap (take (n + length bytes)) (sym (append_assoc (take first kept) (take (last - first) bytes) (drop last kept)))
    ∙ by_end (take first kept ++ take (last - first) bytes) kept (n + length bytes) last size front ends
    ∙ ap (λ xs. xs ++ take (last - first) bytes) first-is
    ∙ first_of unit bytes first last (begins ∙ ap (λ k. min k 128) is) (ends ∙ ap (λ k. min (k + length bytes) 128) is)

pub get-take : (n : ℕ) (xs : List ℕ) → 0 < n → get_or (take n xs) 0 0 ≡ get_or xs 0 0
get-take zero xs some = absurd (omega (arith, some))
get-take (suc n) [] some = refl
get-take (suc n) (x ∷ xs) some = refl

-- the first byte, and the first few
pub first-kept : (kept unit : List ℕ) (n : ℕ) → 0 < n → take n kept ≡ take 128 unit → get_or kept 0 0 ≡ get_or unit 0 0
first-kept kept unit n some same =
    sym (get-take n kept some) ∙ ap (λ xs. get_or xs 0 0) same ∙ get-take 128 unit (omega arith)
