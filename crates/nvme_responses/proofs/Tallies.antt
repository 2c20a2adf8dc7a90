-- Sums over lists of identifiers, and what is found in such a list.
use Rattle.std.proofs.Common.{
  ◌≡◌,
  ℕ,
  ◌+◌,
  ◌<◌,
  Bool,
  true,
  false,
  cond,
  List,
  [],
  ◌∷◌,
  ◌++◌,
  length,
  get_or,
  Option,
  None,
  Some,
  arith,
  refl,
  sym,
  ap,
  ◌∙◌,
}
use Rattle.std.specs.Prelude.{◌==◌, ◌||◌}
use Rattle.std.specs.List.{sum_by, swap_remove, position_from}
use Rattle.std.proofs.lemmas.Bool.{eqb-true, eq-eqb}
use Rattle.std.proofs.lemmas.Iterator.Adapters.{position_from-zero}
use Rattle.std.proofs.lemmas.List.Quantifiers.{position-Some}
use Rattle.std.proofs.lemmas.List.Sums.{sum_by-cons, sum_by-swap_remove}
use Rattle.nvme_responses.specs.Responses.{has, place}
use Rattle.nvme_responses.specs.Laws.{tally, is}

pub tally-append : {A : Type 0} (w : A → ℕ) (xs ys : List A) → tally w (xs ++ ys) ≡ tally w xs + tally w ys
tally-append w [] ys = omega arith
tally-append w (x ∷ xs) ys = let e = tally-append w xs ys in omega (arith, e)

pub tally-ones : {A : Type 0} (xs : List A) → tally (λ x. 1) xs ≡ length xs
tally-ones [] = refl
tally-ones (x ∷ xs) = let e = tally-ones xs in omega (arith, e)

tally-sum : (w : ℕ → ℕ) (xs : List ℕ) → tally w xs ≡ sum_by w xs
tally-sum w [] = refl
tally-sum w (x ∷ xs) = ap (λ n. w x + n) (tally-sum w xs) ∙ sym (sum_by-cons w x xs)

-- the command that is taken out has the identifier
pub tally-without : (w : ℕ → ℕ) (xs : List ℕ) (cid i : ℕ) → place xs cid ≡ Some i
    → tally w xs ≡ w cid + tally w (swap_remove xs i 0)
tally-without w xs cid i found =
    let p = position-Some (λ c. c == cid) xs i 0 found in
    let same : get_or xs i 0 ≡ cid = eqb-true (get_or xs i 0) cid p.1 in
    let a = sum_by-swap_remove w xs i 0 p.0 in
    let b = tally-sum w xs in
    let d = tally-sum w (swap_remove xs i 0) in
    let e : w (get_or xs i 0) ≡ w cid = ap w same in
    omega (arith, a, b, d, e)

-- ---- an identifier in a list

is-itself : (cid : ℕ) → is cid cid ≡ 1
is-itself cid = rw (eq-eqb cid cid refl) refl

pub found-counts : (xs : List ℕ) (cid i : ℕ) → place xs cid ≡ Some i → 0 < tally (is cid) xs
found-counts xs cid i found =
    let a = tally-without (is cid) xs cid i found in
    let b = is-itself cid in
    omega (arith, a, b)

none-from : (cid n : ℕ) (xs : List ℕ) → position_from (λ c. c == cid) n xs ≡ None → tally (is cid) xs ≡ 0
none-from cid n [] h = refl
none-from cid n (x ∷ xs) h = by (x == cid) refl h (none-from cid (n + 1) xs) where
  by : (b : Bool) → (x == cid) ≡ b → cond b (Some n) (position_from (λ c. c == cid) (n + 1) xs) ≡ None
      → (position_from (λ c. c == cid) (n + 1) xs ≡ None → tally (is cid) xs ≡ 0) → tally (is cid) (x ∷ xs) ≡ 0
  by true e h rest = absurd (cc)
  by false e h rest = let r = rest h in rw e (omega (arith, r))

none-counts : (xs : List ℕ) (cid : ℕ) → place xs cid ≡ None → tally (is cid) xs ≡ 0
none-counts xs cid h = none-from cid 0 xs (sym (position_from-zero (λ c. c == cid) xs) ∙ h)

-- one that counts is found
pub counts-found : (xs : List ℕ) (cid : ℕ) → 0 < tally (is cid) xs → (i : ℕ) × (place xs cid ≡ Some i)
counts-found xs cid h = by (place xs cid) refl where
  by : (o : Option ℕ) → place xs cid ≡ o → (i : ℕ) × (place xs cid ≡ Some i)
  by None e = let n = none-counts xs cid e in absurd (omega (arith, n, h))
  by (Some i) e = (i, e)

pub has-counts : (xs : List ℕ) (cid : ℕ) → has xs cid ≡ true → 0 < tally (is cid) xs
has-counts [] cid h = absurd (cc)
has-counts (x ∷ xs) cid h = by (x == cid) refl h (has-counts xs cid) where
  by : (b : Bool) → (x == cid) ≡ b → (b || has xs cid) ≡ true → (has xs cid ≡ true → 0 < tally (is cid) xs)
      → 0 < tally (is cid) (x ∷ xs)
  by true e h rest = rw e (omega arith)
  by false e h rest = let r = rest h in rw e (omega (arith, r))

pub hasnt-counts : (xs : List ℕ) (cid : ℕ) → has xs cid ≡ false → tally (is cid) xs ≡ 0
hasnt-counts [] cid h = refl
hasnt-counts (x ∷ xs) cid h = by (x == cid) refl h (hasnt-counts xs cid) where
  by : (b : Bool) → (x == cid) ≡ b → (b || has xs cid) ≡ false → (has xs cid ≡ false → tally (is cid) xs ≡ 0)
      → tally (is cid) (x ∷ xs) ≡ 0
  by true e h rest = absurd (cc)
  by false e h rest = let r = rest h in rw e (omega (arith, r))
