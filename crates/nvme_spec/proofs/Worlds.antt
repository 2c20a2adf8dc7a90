-- For proofs about I/O commands: a world in which one reservation is changed.
use Rattle.std.proofs.Common.{
  ◌≡◌,
  ℕ,
  ◌+◌,
  ◌≤◌,
  ◌==◌,
  ◌||◌,
  Bool,
  true,
  false,
  cond,
  IsTrue,
  List,
  [],
  ◌∷◌,
  Some,
  refl,
  ap,
  arith,
}
use Rattle.std.specs.Prelude.{map, find, option_map, if◌then◌else◌}
use Rattle.std.specs.List.{list_any, AllByRecursion}
use Rattle.std.proofs.lemmas.Bool.Decides.{nat_tests}
use Rattle.nvme_spec.specs.Report.{ControllerHost}
use Rattle.nvme_spec.specs.Reservation.{Reservation}
use Rattle.nvme_spec.specs.World.{
  World,
  Namespace,
  host_of,
  namespace_of,
  LiesWithin,
  with_namespace,
  with_reservation,
  laid_out,
  controller_host,
  opening_world,
}
use Rattle.nvme_spec.specs.declared.config.NsConfig.{NsConfig}
use Rattle.nvme_spec.specs.Configuration.{Configuration}
use Rattle.nvme_spec.specs.Execution.{HasKnownRegistrants}
use Rattle.nvme_spec.proofs.Hosts.{IsKnown, AreKnown}

found : {X : Type 0} (P : X → Type 0) (p : X → Bool) (xs : List X) (x : X)
    → AllByRecursion P xs → find p xs ≡ Some x → P x
found P p [] x h e = absurd (cc)
found P p (y ∷ ys) x h e =
    elim (p y) as (λ b. cond b (Some y) (find p ys) ≡ Some x → P x) [
      | true ↦ λ f. let same : y ≡ x = cc in rw (← same) h.0
      | false ↦ λ f. found P p ys x h.1 f
    ] e

-- a property of all namespaces is one of the namespace that is named
pub of_named : (P : Namespace → Type 0) (w : World) (nsid : ℕ) (n : Namespace)
    → AllByRecursion P w.namespaces → namespace_of w nsid ≡ Some n → P n
unfolding namespace_of
of_named P w nsid n h e = found P (λ m. m.nsid == nsid) w.namespaces n h e

pub changed-all : (P : Namespace → Type 0) (change : Namespace → Namespace) (nsid : ℕ) (ns : List Namespace)
    → ((n : Namespace) → P n → P (change n)) → AllByRecursion P ns → AllByRecursion P (with_namespace change nsid ns)
changed-all P change nsid [] f h = tt
changed-all P change nsid (n ∷ ns) f h =
    elim (n.nsid == nsid) as (λ b. AllByRecursion P (if b then change n ∷ ns else n ∷ with_namespace change nsid ns)) [
      | true ↦ (f n h.0, h.1)
      | false ↦ (h.0, changed-all P change nsid ns f h.1)
    ]

pub within-still : (size : ℕ) (w : World) (nsid : ℕ) (r : Reservation)
    → LiesWithin size w.namespaces → LiesWithin size (with_reservation w nsid r).namespaces
within-still size w nsid r h =
    changed-all (λ n. n.first + n.blocks ≤ size) (λ n. record n { reservation = r }) nsid w.namespaces (λ n k. k) h

pub known-still : (w : World) (nsid : ℕ) (r : Reservation) → AreKnown w.controllers r.registrants
    → HasKnownRegistrants w → HasKnownRegistrants (with_reservation w nsid r)
known-still w nsid r a h = changed-all (λ n. AreKnown w.controllers n.reservation.registrants)
    (λ n. record n { reservation = r }) nsid w.namespaces (λ n k. a) h

same-namespaces : (ns : List Namespace) (nsid : ℕ) (n : Namespace) → find (λ m. m.nsid == nsid) ns ≡ Some n
    → with_namespace (λ m. record m { reservation = n.reservation }) nsid ns ≡ ns
same-namespaces [] nsid n e = refl
same-namespaces (m ∷ ms) nsid n e =
    elim (m.nsid == nsid) as (λ b. cond b (Some m) (find (λ k. k.nsid == nsid) ms) ≡ Some n
    → (if b then record m { reservation = n.reservation } ∷ ms
    else m ∷ with_namespace (λ k. record k { reservation = n.reservation }) nsid ms) ≡ m ∷ ms) [
      | true ↦ λ f. let same : n ≡ m = cc in ap (λ (k : Namespace). record m { reservation = k.reservation } ∷ ms) same
      | false ↦ λ f. ap (λ ks. m ∷ ks) (same-namespaces ms nsid n f)
    ] e

-- writing back its own reservation changes nothing
pub same-reservation : (w : World) (nsid : ℕ) (n : Namespace)
    → namespace_of w nsid ≡ Some n → with_reservation w nsid n.reservation ≡ w
unfolding namespace_of
same-reservation w nsid n e = ap (λ ns. record w { namespaces = ns }) (same-namespaces w.namespaces nsid n e)

known-in : (ks : List ControllerHost) (cntlid host : ℕ)
    → option_map (λ (k : ControllerHost). k.1) (find (λ (k : ControllerHost). k.0 == cntlid) ks) ≡ Some host
    → IsKnown ks host
known-in [] cntlid host e = absurd (cc)
known-in (k ∷ ks) cntlid host e =
    elim (k.0 == cntlid) as (λ b.
    option_map (λ (j : ControllerHost). j.1) (cond b (Some k) (find (λ (j : ControllerHost). j.0 == cntlid) ks))
    ≡ Some host → IsTrue ((host == k.1) || list_any (λ (j : ControllerHost). host == j.1) ks)) [
      | true ↦ λ f. let same : k.1 ≡ host = cc in rw (same, same_test host) refl
      | false ↦ λ f. later (host == k.1) (list_any (λ (j : ControllerHost). host == j.1) ks) (known-in ks cntlid host f)
    ] e
  where
    same_test : (a : ℕ) → (a == a) ≡ true
    same_test a = grind (arith, nat_tests)

    later : (a b : Bool) → IsTrue b → IsTrue (a || b)
    later true b h = refl
    later false b h = h

-- a controller's host is known
pub host-known : (w : World) (cntlid host : ℕ) → host_of w cntlid ≡ Some host → IsKnown w.controllers host
unfolding host_of
host-known w cntlid host e = known-in w.controllers cntlid host e

known-laid_out : (controllers : List ControllerHost) (first : ℕ) (ns : List NsConfig)
    → AllByRecursion (λ (n : Namespace). AreKnown controllers n.reservation.registrants) (laid_out first ns)
known-laid_out controllers first [] = tt
known-laid_out controllers first (n ∷ ns) = (tt, known-laid_out controllers (first + n.blocks) ns)

-- a world opens without registrants
pub known-opening : (c : Configuration) → HasKnownRegistrants (opening_world c)
unfolding opening_world
known-opening c = known-laid_out (map controller_host c.controllers) 0 c.namespaces
