-- For the answers of `lanes.rt`: two lists, compared 32 bytes at a time.
use Rattle.std.proofs.Common.{
  ◌≡◌,
  ◌↔◌,
  ℕ,
  ◌+◌,
  ◌*◌,
  ◌%◌,
  ◌≤◌,
  List,
  [],
  ◌∷◌,
  ◌++◌,
  length,
  take,
  drop,
  Bool,
  true,
  false,
  eqb,
  cond,
  map,
  refl,
  sym,
  ap,
  subst,
  ◌∙◌,
  arith,
  IsTrue,
  w8,
  ⊎_elim,
}
use Rattle.std.proofs.Common.{not}
use Rattle.std.specs.Simd.Lanes.{mask_l, zip2, top, chunk}
use Rattle.std.proofs.lemmas.Simd.{tops_compared, mask_l-mod, length-zip2}
use Rattle.std.proofs.lemmas.Bool.{cases_Bool, eqb-true, eq-eqb}
use Rattle.std.proofs.Math.Seq.{take-add}

-- whether two bytes differ
abbrev differ : ℕ → ℕ → Bool
differ a b = not (eqb a b)

none-differ : (xs ys : List ℕ) → length xs ≡ length ys → mask_l (zip2 differ xs ys) ≡ 0 → xs ≡ ys
none-differ [] [] size none = refl
none-differ [] (y ∷ ys) size none = absurd (omega (arith, size))
none-differ (x ∷ xs) [] size none = absurd (omega (arith, size))
none-differ (x ∷ xs) (y ∷ ys) size none =
    ⊎_elim {C = x ∷ xs ≡ y ∷ ys}
    (λ (same : eqb x y ≡ true).
    let here = eqb-true x y same in
    let rest : mask_l (zip2 differ xs ys) ≡ 0 = omega arith in
    let later = none-differ xs ys (omega arith) rest in
    cc)
    (λ (other : eqb x y ≡ false).
    let bit : cond {A = ℕ} (differ x y) 1 0 ≡ 1 = ap (λ b. cond {A = ℕ} (not b) 1 0) other in
    absurd (omega (arith, none, bit)))
    (cases_Bool (eqb x y))

same-differ : (xs : List ℕ) → mask_l (zip2 differ xs xs) ≡ 0
same-differ [] = refl
same-differ (x ∷ xs) =
    let bit : cond {A = ℕ} (differ x x) 1 0 ≡ 0 = ap (λ b. cond {A = ℕ} (not b) 1 0) (eq-eqb x x refl) in
    let rest = same-differ xs in
    omega arith

-- the bits of the lanes that differ
abbrev differences : List ℕ → List ℕ → ℕ
differences xs ys = mask_l (map (top 7) (zip2 (λ a b. cond (differ a b) 255 0) xs ys)) % 18446744073709551616

differences-are : (xs ys : List ℕ) → length xs ≡ length ys → length xs ≤ 64
    → differences xs ys ≡ mask_l (zip2 differ xs ys)
differences-are xs ys size few =
    ap (λ ms. mask_l ms % 18446744073709551616) (tops_compared w8 differ xs ys)
    ∙ mask_l-mod (zip2 differ xs ys) 64 (let l = length-zip2 differ xs ys size in omega arith)

pub no-difference : (xs ys : List ℕ) → length xs ≡ length ys → length xs ≤ 64
    → IsTrue (eqb (differences xs ys) 0) ↔ (xs ≡ ys)
no-difference xs ys size few =
    let are = differences-are xs ys size few in (
      (λ h. none-differ xs ys size (sym are ∙ eqb-true _ _ h)),
      (λ same. eq-eqb _ _ (are ∙ subst (λ zs. mask_l (zip2 differ xs zs) ≡ 0) same (same-differ xs))),
    )

-- 32 bytes more
pub next-lanes : (a b : List ℕ) (k : ℕ) → take (32 * k) a ≡ take (32 * k) b → chunk (32 * k) 32 a ≡ chunk (32 * k) 32 b
    → take (32 * (k + 1)) a ≡ take (32 * (k + 1)) b
next-lanes a b k before here =
    let count : 32 * (k + 1) ≡ 32 * k + 32 = omega arith in
    ap (λ n. take n a) count ∙ take-add (32 * k) 32 a ∙ ap (λ xs. xs ++ take 32 (drop (32 * k) a)) before
    ∙ ap (λ xs. take (32 * k) b ++ xs) here ∙ sym (take-add (32 * k) 32 b) ∙ ap (λ n. take n b) (sym count)
