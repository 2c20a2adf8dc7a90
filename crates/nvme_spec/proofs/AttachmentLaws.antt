-- Proofs of the laws in `laws/attachments.rt`.
use Rattle.std.proofs.Common.{
  ◌≡◌,
  ℕ,
  ◌==◌,
  Bool,
  true,
  false,
  cond,
  not,
  ◌&&◌,
  List,
  [],
  ◌∷◌,
  filter,
  map,
  refl,
  ap,
  ◌∙◌,
}
use Rattle.std.specs.Prelude.{◌||◌}
use Rattle.std.specs.List.{list_any}
use Rattle.std.proofs.Math.Bool.{and-false}
use Rattle.std.proofs.lemmas.Bool.{and_parts, eqb-true}
use Rattle.std.proofs.lemmas.List.Folds.{list_any-append}
use Rattle.nvme_spec.specs.World.{is_attached}
use Rattle.nvme_spec.specs.AttachmentLaws.{is_one_of, AddsTheListed, RemovesTheListed}

-- a test of attachments
abbrev names : ℕ → ℕ → ℕ × ℕ → Bool
names cntlid n a = (a.0 == cntlid) && (a.1 == n)

and_or : (a b c : Bool) → ((a && c) || (b && c)) ≡ ((a || b) && c)
and_or true b true = refl
and_or true b false = and-false b
and_or false b c = refl

listed : (nsid cntlid n : ℕ) → (controllers : List ℕ)
    → list_any (names cntlid n) (map (λ c. (c, nsid)) controllers) ≡ (is_one_of cntlid controllers && nsid == n)
listed nsid cntlid n [] = refl
listed nsid cntlid n (c ∷ rest) =
    ap (λ later. ((c == cntlid) && (nsid == n)) || later) (listed nsid cntlid n rest)
    ∙ and_or (c == cntlid) (is_one_of cntlid rest) (nsid == n)

pub adds_the_listed : AddsTheListed
unfolding is_attached
adds_the_listed w nsid controllers cntlid n =
    list_any-append (names cntlid n) w.attachments (map (λ c. (c, nsid)) controllers)
    ∙ ap (λ later. list_any (names cntlid n) w.attachments || later) (listed nsid cntlid n controllers)

-- one step of a list without the elements that fail a test, if all elements of interest have the same test result
step : (found tested alike kept later : Bool) → (found ≡ true → tested ≡ alike) → kept ≡ (later && not alike)
    → cond (not tested) (found || kept) kept ≡ ((found || later) && not alike)
step true true true kept later h e = e ∙ and-false later
step true true false kept later h e = Prim.cc (h refl)
step true false true kept later h e = Prim.cc (h refl)
step true false false kept later h e = refl
step false true alike kept later h e = e
step false false alike kept later h e = e

any-cond : (p : ℕ × ℕ → Bool) → (b : Bool) → (xs ys : List (ℕ × ℕ))
    → list_any p (cond b xs ys) ≡ cond b (list_any p xs) (list_any p ys)
any-cond p true xs ys = refl
any-cond p false xs ys = refl

kept_alike : (p q : ℕ × ℕ → Bool) → (alike : Bool) → ((a : ℕ × ℕ) → p a ≡ true → q a ≡ alike) → (all : List (ℕ × ℕ))
    → list_any p (filter (λ a. not (q a)) all) ≡ (list_any p all && not alike)
kept_alike p q alike h [] = refl
kept_alike p q alike h (a ∷ rest) =
    any-cond p (not (q a)) (a ∷ filter (λ x. not (q x)) rest) (filter (λ x. not (q x)) rest)
    ∙ step (p a) (q a) alike (list_any p (filter (λ x. not (q x)) rest)) (list_any p rest) (h a)
    (kept_alike p q alike h rest)

pub removes_the_listed : RemovesTheListed
unfolding is_attached
removes_the_listed w nsid controllers cntlid n =
    kept_alike (names cntlid n) (λ (a : ℕ × ℕ). (a.1 == nsid) && list_any (λ c. c == a.0) controllers)
    (n == nsid && is_one_of cntlid controllers)
    (λ (a : ℕ × ℕ) found.
    let parts : ((a.0 == cntlid) ≡ true) × ((a.1 == n) ≡ true) = and_parts (a.0 == cntlid) (a.1 == n) found in
    ap (λ k. (k == nsid) && list_any (λ c. c == a.0) controllers) (eqb-true a.1 n parts.1)
    ∙ ap (λ k. (n == nsid) && list_any (λ c. c == k) controllers) (eqb-true a.0 cntlid parts.0))
    w.attachments
