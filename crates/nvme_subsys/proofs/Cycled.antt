-- For the answer of `power_cycle`: a subsystem stays sound over a power cycle.
use Rattle.std.proofs.Common.{
  ◌≡◌,
  ℕ,
  zero,
  suc,
  ◌+◌,
  ◌≤◌,
  ◌==◌,
  Bool,
  true,
  false,
  List,
  [],
  ◌∷◌,
  length,
  map,
  Option,
  None,
  Some,
  refl,
  sym,
  ap,
  subst,
  ◌∙◌,
  arith,
  IsTrue,
}
use Rattle.std.specs.Prelude.{slice_get, option_map, if◌then◌else◌, IsSome}
use Rattle.std.specs.List.{AllByRecursion, list_any}
use Rattle.std.proofs.lemmas.List.{length-map}
use Rattle.std.proofs.lemmas.Option.{same_Some}
use Rattle.nvme_spec.specs.Report.{ControllerHost}
use Rattle.nvme_spec.specs.Reservation.{Reservation, unreserved}
use Rattle.nvme_spec.specs.World.{World, Namespace, LiesWithin, host_of}
use Rattle.nvme_spec.specs.Execution.{HasKnownRegistrants}
use Rattle.nvme_spec.specs.Power.{cycled_namespace, cycled_world}
use Rattle.nvme_spec.proofs.Power.{cycle_keeps_places}
use Rattle.nvme_machine.specs.Controllers.{Controller, power_cycled}
use Rattle.nvme_machine.specs.Subsystems.{numbered}
use Rattle.nvme_subsys.specs.Sound.{AreNumbered, IsSound}

within : (size : ℕ) (ns : List Namespace) → LiesWithin size ns → LiesWithin size (map cycled_namespace ns)
within size [] h = tt
within size (n ∷ ns) h = (h.0, within size ns h.1)

-- every registrant is the host of one of these controllers
abbrev Knows : List ControllerHost → Reservation → Type 0
Knows ks r = AllByRecursion (λ x. IsTrue (list_any (λ (k : ControllerHost). x.host == k.1) ks)) r.registrants

either-known : (ks : List ControllerHost) (b : Bool) (r : Reservation)
    → Knows ks r → Knows ks (if b then r else unreserved)
either-known ks true r h = h
either-known ks false r h = tt

all-known : (ks : List ControllerHost) (ns : List Namespace)
    → AllByRecursion (λ (n : Namespace). Knows ks n.reservation) ns
    → AllByRecursion (λ (n : Namespace). Knows ks n.reservation) (map cycled_namespace ns)
all-known ks [] h = tt
all-known ks (n ∷ ns) h = (either-known ks n.reservation.ptpl n.reservation h.0, all-known ks ns h.1)

-- the controllers at a place before and after a power cycle
found-before : (cs : List Controller) (i : ℕ) (x : Controller) → slice_get (map power_cycled cs) i ≡ Some x
    → (c : Controller) × (slice_get cs i ≡ Some c) × (x.cntlid ≡ c.cntlid)
found-before [] i x h = absurd (cc)
found-before (c ∷ cs) zero x h = (c, refl, ap (λ (y : Controller). y.cntlid) (sym (same_Some _ _ h)))
found-before (c ∷ cs) (suc i) x h = found-before cs i x h

numbers : (w : World) (cs : List Controller) → AreNumbered w cs → AreNumbered (cycled_world w) (map power_cycled cs)
numbers w cs n = record { identifier = λ k x at. by k x at; configured = λ k x at. there k x at }
  where
    by : (k : ℕ) (x : Controller) → numbered (map power_cycled cs) k ≡ Some x → x.cntlid ≡ k
    by zero x at = absurd (cc)
    by (suc i) x at = let r = found-before cs i x at in r.2 ∙ n.identifier (suc i) r.0 r.1

    there : (k : ℕ) (x : Controller) → numbered (map power_cycled cs) k ≡ Some x → IsSome (host_of (cycled_world w) k)
    there zero x at = absurd (cc)
    there (suc i) x at =
        let r = found-before cs i x at in
        subst IsSome (sym ((cycle_keeps_places w).hosts (suc i))) (n.configured (suc i) r.0 r.1)

pub cycled-sound : (w : World) (size : ℕ) (cs : List Controller)
    → IsSound w size cs → IsSound (cycled_world w) size (map power_cycled cs)
unfolding cycled_world
cycled-sound w size cs s = record {
  few = let few = s.few in omega (arith, length-map cs power_cycled, few);
  numbers = numbers w cs s.numbers;
  within = within size w.namespaces s.within;
  known = all-known w.controllers w.namespaces s.known;
}
