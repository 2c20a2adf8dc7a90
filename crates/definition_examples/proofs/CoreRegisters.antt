-- For `core_registers.rt`: a write of Controller Configuration, and identifiers of controllers.
use Rattle.std.proofs.Common.{refl, arith}
use Rattle.std.specs.Prelude.{[], ◌∷◌, ◌≡◌}
use Rattle.nvme_spec.specs.Registers.{Registers, Written}
use Rattle.nvme_ns.specs.Attached.{HasSmallIds}
use Rattle.definition_examples.specs.CoreRegisters.{core_enabled, CoreLeaves}

pub core_configured_registers_registers : (r : Registers) → (w : Written) → CoreLeaves r w → w ≡ core_enabled r
core_configured_registers_registers r w x = x

pub core_configured_registers_exactly : (r : Registers) → CoreLeaves r (core_enabled r)
core_configured_registers_exactly r = refl

pub core_small_identifiers_highest : HasSmallIds ((16, 7) ∷ [])
core_small_identifiers_highest = (omega arith, tt)

pub core_small_identifiers_higher : HasSmallIds ((17, 7) ∷ []) → ⊥
core_small_identifiers_higher x = omega (arith, x.0)

pub core_small_identifiers_second : HasSmallIds ((1, 7) ∷ (17, 8) ∷ []) → ⊥
core_small_identifiers_second x = omega (arith, x.1.0)
