-- For the answers of `reservation_mut` and `set_protection`: a table in which one namespace changes.
use Rattle.std.proofs.Common.{
  ◌≡◌,
  ℕ,
  ◌+◌,
  ◌<◌,
  ◌==◌,
  Bool,
  true,
  false,
  cond,
  not,
  List,
  [],
  ◌∷◌,
  length,
  Some,
  refl,
  ap,
  ◌∙◌,
  arith,
  zero,
  suc,
}
use Rattle.std.specs.Prelude.{find, position, is_some, IsSome}
use Rattle.std.specs.List.{slice_set, slice_index_or, slice_get, position_or_len}
use Rattle.std.proofs.lemmas.Bool.{lt-ltb}
use Rattle.std.proofs.lemmas.Grind.{common_steps}
use Rattle.std.proofs.lemmas.List.Folds.{find_at}
use Rattle.std.proofs.lemmas.Option.{slice_get-get_or}
use Rattle.std.proofs.lemmas.List.Quantifiers.{position-Some}
use Rattle.nvme_spec.specs.World.{Namespace, with_namespace}

-- the namespace at the first place with the identifier
with_namespace-at : (change : Namespace → Namespace) (nsid : ℕ) (ns : List Namespace) (i : ℕ) (d : Namespace)
    → i < length ns
    → ((slice_index_or ns i d).nsid == nsid) ≡ true → ((k : ℕ) → k < i → ((slice_index_or ns k d).nsid == nsid) ≡ false)
    → slice_set ns i (change (slice_index_or ns i d)) ≡ with_namespace change nsid ns
with_namespace-at change nsid [] i d below here before = absurd (omega arith)
with_namespace-at change nsid (n ∷ ns) zero d below here before = rw here refl
with_namespace-at change nsid (n ∷ ns) (suc i) d below here before =
    rw (before 0 (omega arith)) (ap (λ rest. n ∷ rest)
    (with_namespace-at change nsid ns i d (omega arith) here (λ k l. before (suc k) (omega arith))))

-- the namespace that is found has a place
pub found_placed : (p : Namespace → Bool) (ns : List Namespace) → IsSome (find p ns) → IsSome (position p ns)
found_placed p ns found = rw (lt-ltb _ _ (below ns found)) refl
  where
    below : (xs : List Namespace) → IsSome (find p xs) → position_or_len p xs < length xs
    below [] h = absurd (cc)
    below (x ∷ xs) h =
        elim (p x) as (λ b.
        is_some (cond b (Some x) (find p xs)) ≡ true → cond (not b) (1 + position_or_len p xs) 0 < suc (length xs)) [
          | true ↦ λ f. omega arith
          | false ↦ λ f. omega (arith, below xs f)
        ] h

-- the namespace at that place is the one that is found
pub found-at_place : (p : Namespace → Bool) (ns : List Namespace) (i : ℕ) (d : Namespace)
    → position p ns ≡ Some i → find p ns ≡ Some (slice_index_or ns i d)
found-at_place p ns i d place =
    let at = position-Some p ns i d place in
    let here : position_or_len p ns ≡ i = grind (arith, common_steps) in
    find_at p ns ∙ ap (slice_get ns) here ∙ slice_get-get_or ns i d at.0

-- a table after namespace n at its place is replaced
pub with_namespace-placed : (change : Namespace → Namespace) (nsid : ℕ) (ns : List Namespace) (i : ℕ) (n : Namespace)
    → position (λ m. m.nsid == nsid) ns ≡ Some i
    → n ≡ slice_index_or ns i n → slice_set ns i (change n) ≡ with_namespace change nsid ns
with_namespace-placed change nsid ns i n place is =
    let at = position-Some (λ m. m.nsid == nsid) ns i n place in
    ap (λ m. slice_set ns i (change m)) is ∙ with_namespace-at change nsid ns i n at.0 at.1 at.2
