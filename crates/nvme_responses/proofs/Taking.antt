-- For `take_out`: a command is taken out of the first ones of an array.
use Rattle.std.proofs.Common.{
  ◌≡◌,
  ℕ,
  zero,
  suc,
  ◌-◌,
  ◌<◌,
  ◌≤◌,
  List,
  [],
  ◌∷◌,
  length,
  take,
  Some,
  slice_index_or,
  slice_set,
  refl,
  sym,
  ap,
  ◌∙◌,
  arith,
}
use Rattle.std.specs.Prelude.{◌==◌}
use Rattle.std.proofs.lemmas.Bool.{lt-ltb}
use Rattle.std.proofs.lemmas.List.{get_or-take, length-take-le}
use Rattle.std.proofs.lemmas.List.Quantifiers.{position-Some}
use Rattle.nvme_responses.specs.Responses.{most, place, without}

take-take : (m n : ℕ) (xs : List ℕ) → m ≤ n → take m (take n xs) ≡ take m xs
take-take zero n xs h = refl
take-take (suc m) zero xs h = absurd (omega (arith, h))
take-take (suc m) (suc n) [] h = refl
take-take (suc m) (suc n) (x ∷ xs) h = ap (λ ys. x ∷ ys) (take-take m n xs (omega (arith, h)))

take-set : (m n : ℕ) (xs : List ℕ) (i v : ℕ) → m ≤ n
    → take m (slice_set (take n xs) i v) ≡ take m (slice_set xs i v)
take-set zero n xs i v h = refl
take-set (suc m) zero xs i v h = absurd (omega (arith, h))
take-set (suc m) (suc n) [] i v h = refl
take-set (suc m) (suc n) (x ∷ xs) zero v h = ap (λ ys. v ∷ ys) (take-take m n xs (omega (arith, h)))
take-set (suc m) (suc n) (x ∷ xs) (suc i) v h = ap (λ ys. x ∷ ys) (take-set m n xs i v (omega (arith, h)))

below : (n : ℕ) → n < 64 → most 64 n ≡ n
below n h = rw (lt-ltb n 64 h) refl

pub taken-out : (xs : List ℕ) (n i cid : ℕ) → length xs ≡ 64 → n ≤ 64 → Some i ≡ place (take n xs) cid
    → take (most 64 (n - 1)) (slice_set xs i (slice_index_or xs (n - 1) 0)) ≡ without (Some i) (take n xs)
taken-out xs n i cid size small found =
    let p = position-Some (λ c. c == cid) (take n xs) i 0 (sym found) in
    let len : length (take n xs) ≡ n = length-take-le n xs (omega (arith, size, small)) in
    let some : n - 1 < n = omega (arith, p.0, len) in
    let last : slice_index_or (take n xs) (n - 1) 0 ≡ slice_index_or xs (n - 1) 0 = get_or-take n xs (n - 1) 0 some in
    ap (λ m. take m (slice_set xs i (slice_index_or xs (n - 1) 0))) (below (n - 1) (omega (arith, some, small)))
    ∙ sym (take-set (n - 1) n xs i (slice_index_or xs (n - 1) 0) (omega (arith, some)))
    ∙ ap (λ v. take (n - 1) (slice_set (take n xs) i v)) (sym last)
    ∙ ap (λ m. take (m - 1) (slice_set (take n xs) i (slice_index_or (take n xs) (m - 1) 0))) (sym len)
