-- The hosts of a configuration are those of the subsystem that opens with it.
use Rattle.std.proofs.Common.{
  ◌≡◌,
  ℕ,
  zero,
  suc,
  ◌+◌,
  ◌==◌,
  ◌++◌,
  true,
  false,
  List,
  [],
  ◌∷◌,
  map,
  replicate,
  Option,
  None,
  Some,
  refl,
  sym,
  ap,
  ◌∙◌,
  arith,
}
use Rattle.std.specs.Prelude.{slice_get, find, option_map}
use Rattle.std.specs.List.{list_all, enumerate_from}
use Rattle.std.proofs.lemmas.Bool.{and_parts, or_parts, eqb-true, eq-eqb}
use Rattle.nvme_spec.proofs.Passing.{not_false}
use Rattle.nvme_spec.specs.declared.config.ControllerConfig.{ControllerConfig}
use Rattle.nvme_spec.specs.Configuration.{are_numbered}
use Rattle.nvme_spec.specs.Report.{ControllerHost}
use Rattle.nvme_spec.specs.World.{controller_host, host_of, opening_world}
use Rattle.nvme_machine.proofs.Numbers.{accepted}
use Rattle.nvme_fabrics.specs.Associations.{joined}
use Rattle.nvme_target.specs.Laws.{OpeningHasItsHosts}

abbrev given : List ControllerConfig → ℕ → List (Option ℕ)
given ks more = map (λ (k : ControllerConfig). Some k.host) ks ++ replicate more None

abbrev known : ℕ → List ControllerConfig → Option ℕ
known n ks = option_map (λ (h : ControllerHost). h.1) (find (λ (h : ControllerHost). h.0 == n) (map controller_host ks))

none-given : (more i : ℕ) → joined (slice_get (replicate more None) i) ≡ None
none-given zero i = refl
none-given (suc more) zero = refl
none-given (suc more) (suc i) = none-given more i

not-same : (m n : ℕ) → (m ≡ n → ⊥) → (m == n) ≡ false
not-same m n other = elim (m == n) as (λ b. (m == n) ≡ b → b ≡ false) [
  | true ↦ λ e. absurd (other (eqb-true m n e))
  | false ↦ λ e. refl
] refl

known-here : (n : ℕ) (k : ControllerConfig) (ks : List ControllerConfig) → k.cntlid ≡ n
    → known n (k ∷ ks) ≡ Some k.host
known-here n k ks is = rw (eq-eqb k.cntlid n is) refl

known-later : (n : ℕ) (k : ControllerConfig) (ks : List ControllerConfig) → (k.cntlid ≡ n → ⊥)
    → known n (k ∷ ks) ≡ known n ks
known-later n k ks other = rw (not-same k.cntlid n other) refl

hosts-from : (n more : ℕ) (ks : List ControllerConfig)
    → list_all (λ p. p.1.cntlid == p.0 + 1) (enumerate_from n ks) ≡ true → (i : ℕ)
    → joined (slice_get (given ks more) i) ≡ known (n + i + 1) ks
hosts-from n more [] h i = none-given more i
hosts-from n more (k ∷ ks) h zero =
    let two = and_parts (k.cntlid == n + 1) _ h in
    sym (known-here (n + 0 + 1) k ks (eqb-true k.cntlid (n + 1) two.0 ∙ omega arith))
hosts-from n more (k ∷ ks) h (suc i) =
    let two = and_parts (k.cntlid == n + 1) _ h in
    let is = eqb-true k.cntlid (n + 1) two.0 in
    let same : n + 1 + i + 1 ≡ n + suc i + 1 = omega arith in
    hosts-from (n + 1) more ks two.1 i ∙ ap (λ m. known m ks) same
    ∙ sym (known-later (n + suc i + 1) k ks (λ e. omega (arith, is, e)))

pub opening_has_its_hosts : OpeningHasItsHosts
unfolding host_of opening_world
opening_has_its_hosts c size more good index =
    let a = accepted c size good in
    let all : are_numbered c.controllers ≡ true =
    not_false _ (or_parts _ _ (or_parts _ _ (or_parts _ _ (or_parts _ _ a.1).0).0).0).0 in
    let there : 0 + index + 1 ≡ index + 1 = omega arith in
    hosts-from 0 more c.controllers all index ∙ ap (λ n. known n c.controllers) there
