-- For the answer of `within`: numbered controllers are in rising order of identifiers.
use Rattle.std.proofs.Common.{
  ◌≡◌,
  ℕ,
  ◌+◌,
  ◌<◌,
  ◌&&◌,
  ◌==◌,
  Bool,
  true,
  false,
  List,
  [],
  ◌∷◌,
  map,
  eqb-true,
  refl,
  arith,
}
use Rattle.std.specs.List.{list_all, enumerate_from, AllByRecursion}
use Rattle.nvme_spec.specs.declared.config.ControllerConfig.{ControllerConfig}
use Rattle.nvme_spec.specs.Report.{ControllerHost, HasRisingIds}
use Rattle.nvme_spec.specs.World.{controller_host}
use Rattle.nvme_ns.specs.Attached.{AreNumberedFrom}

abbrev numbered_from : ℕ → List ControllerConfig → Bool
numbered_from i ks = list_all (λ p. p.1.cntlid == p.0 + 1) (enumerate_from i ks)

both : (a b : Bool) → (a && b) ≡ true → (a ≡ true) × (b ≡ true)
both true b h = (refl, h)
both false b h = absurd (cc)

above : (i n : ℕ) (ks : List ControllerConfig) → numbered_from i ks ≡ true → n < i + 1
    → AllByRecursion (λ (x : ControllerHost). n < x.0) (map controller_host ks)
above i n [] h lt = tt
above i n (k ∷ ks) h lt =
    let parts = both _ _ h in
    let here : k.cntlid ≡ i + 1 = eqb-true _ _ parts.0 in
    (omega arith, above (i + 1) n ks parts.1 (omega arith))

pub rising : (i : ℕ) (ks : List ControllerConfig) → numbered_from i ks ≡ true → HasRisingIds (map controller_host ks)
rising i [] h = tt
rising i (k ∷ ks) h =
    let parts = both _ _ h in
    let here : k.cntlid ≡ i + 1 = eqb-true _ _ parts.0 in
    (above (i + 1) k.cntlid ks parts.1 (omega arith), rising (i + 1) ks parts.1)

pub counted : (i : ℕ) (ks : List ControllerConfig)
    → numbered_from i ks ≡ true → AreNumberedFrom (i + 1) (map controller_host ks)
counted i [] h = tt
counted i (k ∷ ks) h =
    let parts = both _ _ h in
    (eqb-true _ _ parts.0, counted (i + 1) ks parts.1)
