-- For the answer of `within`: an opened subsystem is sound.
use Rattle.std.proofs.Common.{
  ◌≡◌,
  ℕ,
  zero,
  suc,
  ◌≤◌,
  ◌==◌,
  Bool,
  true,
  false,
  cond,
  List,
  [],
  ◌∷◌,
  length,
  map,
  Option,
  None,
  Some,
  refl,
  sym,
  ap,
  subst,
  ◌∙◌,
  arith,
}
use Rattle.std.specs.Prelude.{slice_get, find, option_map, IsSome}
use Rattle.std.proofs.lemmas.Bool.{or_parts, eq-eqb, ltb-false}
use Rattle.std.proofs.lemmas.List.{length-map}
use Rattle.std.proofs.lemmas.Option.{same_Some}
use Rattle.nvme_spec.specs.declared.config.ControllerConfig.{ControllerConfig}
use Rattle.nvme_spec.specs.Blocks.{Device}
use Rattle.nvme_spec.specs.Configuration.{Configuration, Capacity, config_fault}
use Rattle.nvme_spec.specs.Report.{ControllerHost}
use Rattle.nvme_spec.specs.World.{World, LiesWithin, host_of, controller_host, opening_world}
use Rattle.nvme_spec.proofs.Worlds.{known-opening}
use Rattle.nvme_spec.specs.Execution.{HasKnownRegistrants}
use Rattle.nvme_machine.specs.Controllers.{Controller, new_controller}
use Rattle.nvme_machine.specs.Subsystems.{Subsystem, opening, numbered}
use Rattle.nvme_machine.proofs.Numbers.{accepted, numbered-at}
use Rattle.nvme_subsys.specs.Sound.{AreNumbered, IsSound}

from-map : (ks : List ControllerConfig) (i : ℕ) (c : Controller)
    → slice_get (map (λ (k : ControllerConfig). new_controller k.cntlid) ks) i ≡ Some c
    → (k : ControllerConfig) × (slice_get ks i ≡ Some k) × (c.cntlid ≡ k.cntlid)
from-map [] i c at = absurd (cc)
from-map (k ∷ ks) zero c at = (k, refl, ap (λ (x : Controller). x.cntlid) (sym (same_Some _ _ at)))
from-map (k ∷ ks) (suc i) c at = from-map ks i c at

behind : (b : Bool) (x : ControllerConfig) (o : Option ControllerHost)
    → IsSome (option_map (λ (y : ControllerHost). y.1) o)
    → IsSome (option_map (λ (y : ControllerHost). y.1) (cond b (Some (controller_host x)) o))
behind true x o h = refl
behind false x o h = h

hosted : (ks : List ControllerConfig) (i : ℕ) (k : ControllerConfig) (n : ℕ) → slice_get ks i ≡ Some k → k.cntlid ≡ n
    → IsSome
    (option_map (λ (x : ControllerHost). x.1) (find (λ (x : ControllerHost). x.0 == n) (map controller_host ks)))
hosted [] i k n at same = absurd (cc)
hosted (x ∷ ks) zero k n at same =
    subst (λ b. IsSome (option_map (λ (y : ControllerHost). y.1)
    (cond b (Some (controller_host x)) (find (λ (y : ControllerHost). y.0 == n) (map controller_host ks)))))
    (sym (eq-eqb x.cntlid n (ap (λ (y : ControllerConfig). y.cntlid) (same_Some _ _ at) ∙ same))) refl
hosted (x ∷ ks) (suc i) k n at same = behind (x.cntlid == n) x _ (hosted ks i k n at same)

numbers : (c : Configuration) (size : Capacity) → config_fault c size ≡ None
    → AreNumbered (opening_world c) (map (λ (k : ControllerConfig). new_controller k.cntlid) c.controllers)
unfolding host_of opening_world
numbers c size good = record { identifier = λ k x at. by k x at; configured = λ k x at. there k x at }
  where
    by : (k : ℕ) (x : Controller)
        → numbered (map (λ (k : ControllerConfig). new_controller k.cntlid) c.controllers) k ≡ Some x → x.cntlid ≡ k
    by zero x at = absurd (cc)
    by (suc i) x at = let r = from-map c.controllers i x at in r.2 ∙ numbered-at c size good i r.0 r.1 ∙ omega arith

    there : (k : ℕ) (x : Controller)
        → numbered (map (λ (k : ControllerConfig). new_controller k.cntlid) c.controllers) k ≡ Some x
        → IsSome (host_of (opening_world c) k)
    there zero x at = absurd (cc)
    there (suc i) x at =
        let r = from-map c.controllers i x at in
        hosted c.controllers i r.0 (suc i) r.1 (numbered-at c size good i r.0 r.1 ∙ omega arith)

few : (c : Configuration) (size : Capacity) → config_fault c size ≡ None → length c.controllers ≤ 16
few c size good = let a = accepted c size good in ltb-false _ _ (or_parts _ _ (or_parts _ _ a.0).0).0

pub sound-opening : (c : Configuration) (size : Capacity) (w : World) (cs : List Controller)
    → w ≡ opening_world c → config_fault c size ≡ None → LiesWithin size.medium w.namespaces
    → cs ≡ map (λ (k : ControllerConfig). new_controller k.cntlid) c.controllers → IsSound w size.medium cs
sound-opening c size w cs opened good within made = record {
  few = subst (λ xs. length xs ≤ 16) (sym made) (let small = few c size good in
      omega (arith, length-map c.controllers (λ (k : ControllerConfig). new_controller k.cntlid), small));
  numbers = subst (λ v. AreNumbered v cs) (sym opened)
      (subst (λ xs. AreNumbered (opening_world c) xs) (sym made) (numbers c size good));
  within = within;
  known = subst HasKnownRegistrants (sym opened) (known-opening c);
}

pub opened-so : (c : Configuration) (d : Device) (w : World) (cs : List Controller)
    → w ≡ opening_world c → cs ≡ map (λ (k : ControllerConfig). new_controller k.cntlid) c.controllers
    → (let s : Subsystem = record { world = w; device = d; controllers = cs } in s) ≡ opening c d
unfolding opening
opened-so c d w cs opened made = λ i. record { world = opened i; device = d; controllers = made i }
