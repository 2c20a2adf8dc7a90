-- The search for a free controller, one controller further.
use Rattle.std.proofs.Common.{
  ◌≡◌,
  ◌⊎◌,
  inl,
  inr,
  ℕ,
  zero,
  suc,
  ◌+◌,
  ◌<◌,
  ◌≤◌,
  Bool,
  true,
  false,
  cond,
  List,
  [],
  ◌∷◌,
  length,
  drop,
  get_or,
  None,
  Some,
  Ok,
  Err,
  refl,
  sym,
  ap,
  subst,
  arith,
  add-one,
}
use Rattle.std.specs.Prelude.{◌&&◌, nat_lt, slice_get, Option}
use Rattle.std.proofs.Math.Seq.{drop-cons}
use Rattle.std.proofs.lemmas.List.{drop_all}
use Rattle.nvme_fabrics.specs.declared.association.Controller.{Controller}
use Rattle.nvme_fabrics.specs.Places.{is_free, better, best_of, index_of}
use Rattle.nvme_fabrics.specs.Answers.{controller_busy}
use Rattle.nvme_fabrics.specs.Laws.{ChosenIsFree, NoneIsFree}
use Rattle.std.proofs.lemmas.Option.{none-some, same_Some}

pub one_more : (host : ℕ) (best : Option (ℕ × ℕ)) (i : ℕ) (cs : List Controller) (ps : List ℕ) (c : Controller) (p : ℕ)
    → i < length cs → i < length ps
    → best_of host best i (drop i cs) (drop i ps)
    ≡ best_of host (better best i (get_or ps i p) (is_free host (get_or cs i c))) (i + 1) (drop (i + 1) cs)
    (drop (i + 1) ps)
one_more host best i cs ps c p long wide = rw (drop-cons cs i c long, drop-cons ps i p wide, ← add-one i) refl

pub none_left : (host : ℕ) (best : Option (ℕ × ℕ)) (i : ℕ) (cs : List Controller) (ps : List ℕ)
    → length cs ≤ i → best_of host best i (drop i cs) (drop i ps) ≡ best
none_left host best i cs ps end = rw (drop_all i cs end) refl

-- the best is the one before, or a later one that is free
comes-from : (host : ℕ) (best : Option (ℕ × ℕ)) (i : ℕ) (cs : List Controller) (ps : List ℕ) (b : ℕ × ℕ)
    → best_of host best i cs ps ≡ Some b
    → (best ≡ Some b) ⊎ ((n : ℕ) × ((b.0 ≡ i + n) × ((c : Controller) × ((slice_get cs n ≡ Some c)
    × (is_free host c ≡ true)))))
comes-from host best i [] ps b e = inl e
comes-from host best i (c ∷ cs) [] b e = inl e
comes-from host best i (c ∷ cs) (p ∷ ps) b e =
    elim (comes-from host (better best i p (is_free host c)) (i + 1) cs ps b e) [
      | inl now ↦ elim (stays-or-comes best i p (is_free host c) b now) [
        | inl same ↦ inl same
        | inr new ↦ inr (0, (omega (arith, new.0), (c, (refl, new.1))))
      ]
      | inr later ↦ inr (suc later.0, (omega (arith, later.1.0), later.1.1))
    ] where
      stays-or-comes : (best : Option (ℕ × ℕ)) (i p : ℕ) (free : Bool) (b : ℕ × ℕ) → better best i p free ≡ Some b
          → (best ≡ Some b) ⊎ ((b.0 ≡ i) × (free ≡ true))
      stays-or-comes None i p true b e = inr (sym (ap (λ b. b.0) (same_Some _ _ e)), refl)
      stays-or-comes None i p false b e = inl e
      stays-or-comes (Some a) i p false b e = inl e
      stays-or-comes (Some a) i p true b e = elim (nat_lt p a.1) as (λ l. cond l (Some (i, p)) (Some a) ≡ Some b
          → (Some a ≡ Some b) ⊎ ((b.0 ≡ i) × (true ≡ true))) [
            | true ↦ λ e. inr (sym (ap (λ b. b.0) (same_Some _ _ e)), refl)
            | false ↦ λ e. inl e
          ] e

pub chosen-is-free : ChosenIsFree
chosen-is-free cs host i ps e = of-best (best_of host None 0 cs ps) refl e where
  of-best : (o : Option (ℕ × ℕ)) → best_of host None 0 cs ps ≡ o → index_of o ≡ Ok i
      → (c : Controller) × ((slice_get cs i ≡ Some c) × (is_free host c ≡ true))
  of-best None h e = absurd (cc)
  of-best (Some b) h e = elim (comes-from host None 0 cs ps b h) [
    | inl none ↦ absurd (none-some b none)
    | inr x ↦
        let first : b.0 ≡ i = cc in let here : x.0 ≡ i = omega (arith, x.1.0, first) in
        (x.1.1.0, (subst (λ n. slice_get cs n ≡ Some x.1.1.0) here x.1.1.1.0, x.1.1.1.1))
  ]

-- a best one stays
never-none : (host : ℕ) (a : ℕ × ℕ) (i : ℕ) (cs : List Controller) (ps : List ℕ)
    → best_of host (Some a) i cs ps ≡ None → ⊥
never-none host a i [] ps e = none-some a (sym e)
never-none host a i (c ∷ cs) [] e = none-some a (sym e)
never-none host a i (c ∷ cs) (p ∷ ps) e = elim (is_free host c && nat_lt p a.1) as (λ l.
    best_of host (cond l (Some (i, p)) (Some a)) (i + 1) cs ps ≡ None → ⊥) [
      | true ↦ never-none host (i, p) (i + 1) cs ps
      | false ↦ never-none host a (i + 1) cs ps
    ] e

none-in : (host i : ℕ) (cs : List Controller) (ps : List ℕ) → length ps ≡ length cs
    → best_of host None i cs ps ≡ None → (n : ℕ) (c : Controller) → slice_get cs n ≡ Some c → is_free host c ≡ false
none-in host i [] ps same e n c at = absurd (none-some c at)
none-in host i (x ∷ cs) [] same e n c at = absurd (omega (arith, same))
none-in host i (x ∷ cs) (p ∷ ps) same e zero c at = elim (is_free host x) as (λ free. is_free host x ≡ free
    → best_of host (cond free (Some (i, p)) None) (i + 1) cs ps ≡ None → is_free host c ≡ false) [
      | true ↦ λ is e. absurd (never-none host (i, p) (i + 1) cs ps e)
      | false ↦ λ is e. subst (λ c. is_free host c ≡ false) (same_Some x c at) is
    ] refl e
none-in host i (x ∷ cs) (p ∷ ps) same e (suc n) c at = elim (is_free host x) as (λ free.
    best_of host (cond free (Some (i, p)) None) (i + 1) cs ps ≡ None → is_free host c ≡ false) [
      | true ↦ λ e. absurd (never-none host (i, p) (i + 1) cs ps e)
      | false ↦ λ e. none-in host (i + 1) cs ps (omega (arith, same)) e n c at
    ] e

pub none-is-free : NoneIsFree
none-is-free cs host i ps c same e at = of-best (best_of host None 0 cs ps) refl e where
  of-best : (o : Option (ℕ × ℕ)) → best_of host None 0 cs ps ≡ o → index_of o ≡ Err controller_busy
      → is_free host c ≡ false
  of-best None h e = none-in host 0 cs ps same h i c at
  of-best (Some b) h e = absurd (cc)
