-- For the answers of `is_attached` and `host_of`: the table of pairs has the attachments, and a controller is at the
-- place of its identifier.
use Rattle.std.proofs.Common.{
  ◌≡◌,
  ℕ,
  ◌+◌,
  ◌<◌,
  ◌≤◌,
  ◌==◌,
  ◌&&◌,
  ◌||◌,
  Bool,
  true,
  false,
  List,
  [],
  ◌∷◌,
  length,
  take,
  set,
  get_or,
  replicate,
  None,
  Some,
  refl,
  sym,
  ap,
  ◌∙◌,
  zero,
  suc,
  arith,
  eqb-true,
  ⊎_elim,
}
use Rattle.std.specs.Prelude.{find, slice_get}
use Rattle.std.specs.List.{list_any, AllByRecursion}
use Rattle.std.proofs.lemmas.Bool.{cases_Bool, and_parts}
use Rattle.std.proofs.lemmas.Bool.Decides.{nat_tests}
use Rattle.std.proofs.lemmas.List.{get_or-set_other}
use Rattle.std.proofs.lemmas.Grind.{get_or-set_at}
use Rattle.std.proofs.lemmas.List.Folds.{list_any_more}
use Rattle.std.proofs.lemmas.Option.{slice_get_past, slice_get-get_or}
use Rattle.nvme_spec.specs.Report.{ControllerHost}
use Rattle.nvme_ns.specs.Attached.{IsPair, number, AreNumberedFrom, TellsPairs}
use Rattle.nvme_ns.proofs.Attaching.{same, differ}

-- controllers

abbrev has : ℕ → ControllerHost → Bool
has cntlid k = k.0 == cntlid

pub none_before : (i c : ℕ) (ks : List ControllerHost) → AreNumberedFrom i ks → c < i → find (has c) ks ≡ None
none_before i c [] n lt = refl
none_before i c (k ∷ ks) n lt =
    ⊎_elim {C = find (has c) (k ∷ ks) ≡ None}
    (λ (is : (k.0 == c) ≡ true). absurd (omega (arith, n.0, lt, eqb-true _ _ is)))
    (λ (no_ : (k.0 == c) ≡ false). rw no_ (none_before (i + 1) c ks n.1 (omega (arith, lt))))
    (cases_Bool (k.0 == c))

pub found_at : (i d : ℕ) (ks : List ControllerHost) → AreNumberedFrom i ks → find (has (i + d)) ks ≡ slice_get ks d
found_at i d [] n = refl
found_at i zero (k ∷ ks) n =
    let is : (k.0 == (i + zero)) ≡ true = grind (arith, nat_tests, n.0) in
    rw is refl
found_at i (suc d) (k ∷ ks) n =
    let no_ : (k.0 == (i + suc d)) ≡ false = grind (arith, nat_tests, n.0) in
    let next : (i + 1) + d ≡ i + suc d = omega arith in
    rw no_ (ap (λ m. find (has m) ks) (sym next) ∙ found_at (i + 1) d ks n.1)

pub host_past : (cntlid place : ℕ) (ks : List ControllerHost) → AreNumberedFrom 1 ks → cntlid ≡ 1 + place
    → length ks ≤ place → find (has cntlid) ks ≡ None
host_past cntlid place ks n is past =
    ap (λ c. find (has c) ks) is ∙ found_at 1 place ks n ∙ slice_get_past ks place past

pub host_here : (cntlid place : ℕ) (ks : List ControllerHost) (k : ControllerHost) → AreNumberedFrom 1 ks
    → cntlid ≡ 1 + place → place < length ks → k ≡ get_or ks place k → find (has cntlid) ks ≡ Some k
host_here cntlid place ks k n is lt at_ =
    ap (λ c. find (has c) ks) is ∙ found_at 1 place ks n ∙ slice_get-get_or ks place k lt ∙ ap Some (sym at_)

-- attachments

abbrev is_one : ℕ × ℕ → ℕ × ℕ → Bool
is_one a b = (b.0 == a.0) && (b.1 == a.1)

pub pair_at : (table : List (ℕ × ℕ)) (i : ℕ) (d : ℕ × ℕ) → AllByRecursion IsPair table → i < length table
    → IsPair (get_or table i d)
pair_at [] i d h lt = absurd (omega (arith, lt))
pair_at (a ∷ table) zero d h lt = h.0
pair_at (a ∷ table) (suc i) d h lt = pair_at table i d h.1 (omega (arith, lt))

-- a pair outside of the table isn't attached
pub none_outside : (attached : List (ℕ × ℕ)) (a : ℕ × ℕ) → AllByRecursion IsPair attached → (IsPair a → ⊥)
    → list_any (is_one a) attached ≡ false
none_outside [] a h out = refl
none_outside (b ∷ attached) a h out =
    ⊎_elim {C = list_any (is_one a) (b ∷ attached) ≡ false}
    (λ (is : is_one a b ≡ true). absurd (out (moved is)))
    (λ (no_ : is_one a b ≡ false). rw no_ (none_outside attached a h.1 out))
    (cases_Bool (is_one a b))
  where
    moved : is_one a b ≡ true → IsPair a
    moved is =
        let parts = and_parts (b.0 == a.0) (b.1 == a.1) is in
        let first = eqb-true _ _ parts.0 in
        let second = eqb-true _ _ parts.1 in (
          omega (arith, h.0.0, first),
          omega (arith, h.0.1, first),
          omega (arith, h.0.2, second),
          omega (arith, h.0.3, second),
        )

-- the table without attachments
pub tells_none : TellsPairs (replicate 128 false) []
tells_none a q = get_or_replicate 128 (number a)
  where
    get_or_replicate : (m n : ℕ) → get_or (replicate m false) n false ≡ false
    get_or_replicate zero n = refl
    get_or_replicate (suc m) zero = refl
    get_or_replicate (suc m) (suc n) = get_or_replicate m n

-- the table with one more attachment
pub tells_more : (table : List Bool) (attached : List (ℕ × ℕ)) (i n : ℕ) (d : ℕ × ℕ)
    → length table ≡ 128 → i < length attached → IsPair (get_or attached i d) → n ≡ number (get_or attached i d)
    → TellsPairs table (take i attached) → TellsPairs (set table n true) (take (i + 1) attached)
tells_more table attached i n d long lt p is t a q =
    let b = get_or attached i d in
    ⊎_elim {C = get_or (set table n true) (number a) false ≡ list_any (is_one a) (take (i + 1) attached)}
    (λ (here : is_one a b ≡ true).
    let parts = and_parts (b.0 == a.0) (b.1 == a.1) here in
    let same_number : number a ≡ n = rw (is, eqb-true _ _ parts.0, eqb-true _ _ parts.1) refl in
    let inside : n < length table = omega (arith, long, is, p.0, p.1, p.2, p.3) in
    get_or-set_at table n (number a) true false same_number inside
    ∙ sym (rw (list_any_more (is_one a) attached i d lt, here) (or-true (list_any (is_one a) (take i attached)))))
    (λ (other : is_one a b ≡ false).
    get_or-set_other table n (number a) true false (λ e. apart (e ∙ is) (differ b a p q other)) ∙ t a q
    ∙ sym (rw (list_any_more (is_one a) attached i d lt, other) (or-false (list_any (is_one a) (take i attached)))))
    (cases_Bool (is_one a b))
  where
    or-true : (x : Bool) → (x || true) ≡ true
    or-true true = refl
    or-true false = refl

    or-false : (x : Bool) → (x || false) ≡ x
    or-false true = refl
    or-false false = refl

    apart : {m k : ℕ} → m ≡ k → same k m ≡ false → ⊥
    apart e no_ = absurd (grind (arith, nat_tests))
