-- For laws about worlds: the changes of a world that keep its controllers, its attachments, and its namespaces except
-- for their reservations.
use Rattle.std.proofs.Common.{
  ◌≡◌,
  ◌≢◌,
  ℕ,
  ◌==◌,
  Bool,
  true,
  false,
  cond,
  List,
  [],
  ◌∷◌,
  Option,
  None,
  Some,
  Ok,
  Err,
  refl,
  sym,
  ap,
  ◌∙◌,
}
use Rattle.std.specs.Prelude.{map, find, option_map, if◌then◌else◌}
use Rattle.std.proofs.lemmas.Bool.{eqb-true, ne_eqb}
use Rattle.nvme_spec.specs.Reservation as resv
use Rattle.nvme_spec.specs.World.{World, Namespace, host_of, namespace_of, with_namespace, with_reservation}
use Rattle.nvme_spec.specs.Layout.{Extent, extent_of, reservation_of, unreserved_one, HasSameLayout}
use Rattle.nvme_spec.specs.Execution.{world_after}

-- a property of every namespace that a change keeps
pub found-still : {X : Type 0} (f : Namespace → X) (change : Namespace → Namespace)
    → ((m : Namespace) → f (change m) ≡ f m)
    → ((m : Namespace) → (change m).nsid ≡ m.nsid) → (a n : ℕ) (ns : List Namespace)
    → option_map f (find (λ m. m.nsid == n) (with_namespace change a ns)) ≡ option_map f (find (λ m. m.nsid == n) ns)
found-still f change same named a n [] = refl
found-still f change same named a n (m ∷ ms) =
    elim (m.nsid == a) as (λ b.
    option_map f (find (λ x. x.nsid == n) (if b then change m ∷ ms else m ∷ with_namespace change a ms))
    ≡ option_map f (find (λ x. x.nsid == n) (m ∷ ms))) [
      | true ↦ ap (λ (i : ℕ). option_map f (cond (i == n) (Some (change m)) (find (λ x. x.nsid == n) ms))) (named m)
          ∙ (elim (m.nsid == n) as (λ b. option_map f (cond b (Some (change m)) (find (λ x. x.nsid == n) ms))
          ≡ option_map f (cond b (Some m) (find (λ x. x.nsid == n) ms))) [
            | true ↦ ap Some (same m)
            | false ↦ refl
          ])
      | false ↦ elim (m.nsid == n) as (λ b.
          option_map f (cond b (Some m) (find (λ x. x.nsid == n) (with_namespace change a ms)))
          ≡ option_map f (cond b (Some m) (find (λ x. x.nsid == n) ms))) [
            | true ↦ refl
            | false ↦ found-still f change same named a n ms
          ]
    ]

-- the same for all namespaces
pub all-still : {X : Type 0} (f : Namespace → X) (change : Namespace → Namespace)
    → ((m : Namespace) → f (change m) ≡ f m)
    → (a : ℕ) (ns : List Namespace) → map f (with_namespace change a ns) ≡ map f ns
all-still f change same a [] = refl
all-still f change same a (m ∷ ms) =
    elim (m.nsid == a) as (λ b. map f (if b then change m ∷ ms else m ∷ with_namespace change a ms) ≡ map f (m ∷ ms)) [
      | true ↦ ap (λ x. x ∷ map f ms) (same m)
      | false ↦ ap (λ xs. f m ∷ xs) (all-still f change same a ms)
    ]

-- another namespace is unchanged
others-at : (change : Namespace → Namespace) → ((m : Namespace) → (change m).nsid ≡ m.nsid) → (a n : ℕ)
    → n ≢ a → (m : Namespace) (ms : List Namespace)
    → find (λ x. x.nsid == n) (with_namespace change a ms) ≡ find (λ x. x.nsid == n) ms
    → (b : Bool) → (m.nsid == a) ≡ b
    → find (λ x. x.nsid == n) (if b then change m ∷ ms else m ∷ with_namespace change a ms)
    ≡ find (λ x. x.nsid == n) (m ∷ ms)
others-at change named a n other m ms later true e =
    let here : m.nsid ≡ a = eqb-true m.nsid a e in
    let no_one : (m.nsid == n) ≡ false = ne_eqb m.nsid n (λ f. other (sym f ∙ here)) in
    ap (λ (i : ℕ). cond (i == n) (Some (change m)) (find (λ x. x.nsid == n) ms)) (named m)
    ∙ ap (λ (b : Bool). cond b (Some (change m)) (find (λ x. x.nsid == n) ms)) no_one
    ∙ sym (ap (λ (b : Bool). cond b (Some m) (find (λ x. x.nsid == n) ms)) no_one)
others-at change named a n other m ms later false e = ap (λ o. cond (m.nsid == n) (Some m) o) later

pub others-still : (change : Namespace → Namespace) → ((m : Namespace) → (change m).nsid ≡ m.nsid)
    → (a n : ℕ) → n ≢ a → (ns : List Namespace)
    → find (λ m. m.nsid == n) (with_namespace change a ns) ≡ find (λ m. m.nsid == n) ns
others-still change named a n other [] = refl
others-still change named a n other (m ∷ ms) =
    others-at change named a n other m ms (others-still change named a n other ms) (m.nsid == a) refl

abbrev extent : Namespace → Extent
extent space = record { first = space.first; blocks = space.blocks }

pub same-layout : (old new : World) → new ≡ old → HasSameLayout old new
same-layout old new e = record {
  controllers = ap (λ w. w.controllers) e;
  attachments = ap (λ w. w.attachments) e;
  namespaces = ap (λ w. map unreserved_one w.namespaces) e;
  hosts = λ k. ap (λ w. host_of w k) e;
  extents = λ n. ap (λ w. extent_of w n) e;
}

pub layout-reserved : (w : World) (a : ℕ) (r : resv.Reservation) → HasSameLayout w (with_reservation w a r)
unfolding host_of extent_of namespace_of
layout-reserved w a r = record {
  controllers = refl;
  attachments = refl;
  namespaces = all-still unreserved_one (λ m. record m { reservation = r }) (λ m. refl) a w.namespaces;
  hosts = λ k. refl;
  extents = λ n. found-still extent (λ m. record m { reservation = r }) (λ m. refl) (λ m. refl) a n w.namespaces;
}

pub others-reserved : (w : World) (a : ℕ) (r : resv.Reservation) (n : ℕ)
    → n ≢ a → namespace_of (with_reservation w a r) n ≡ namespace_of w n
unfolding namespace_of
others-reserved w a r n other = others-still (λ m. record m { reservation = r }) (λ m. refl) a n other w.namespaces

-- a world after a reservation command
pub record IsReserved (a : ℕ) (old new : World) : Type 0 where
  pub layout : HasSameLayout old new
  pub others : (n : ℕ) → n ≢ a → reservation_of new n ≡ reservation_of old n

pub is-same : (a : ℕ) (old new : World) → new ≡ old → IsReserved a old new
is-same a old new e = record { layout = same-layout old new e; others = λ n other. ap (λ w. reservation_of w n) e }

pub is-reserved : (w : World) (a : ℕ) (o : Option resv.ActionOutcome) → IsReserved a w (world_after w a o)
unfolding reservation_of
is-reserved w a None = is-same a w w refl
is-reserved w a (Some (Err refusal)) = is-same a w w refl
is-reserved w a (Some (Ok transition)) = record {
  layout = layout-reserved w a transition.next;
  others = λ n other.
      ap (λ o. option_map (λ (m : Namespace). m.reservation) o) (others-reserved w a transition.next n other);
}
