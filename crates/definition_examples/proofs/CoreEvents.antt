-- For `core_events.rt`: controllers and marks of a fleet's events, and identifiers in their lines.
use Rattle.std.proofs.Common.{arith}
use Rattle.std.specs.Prelude.{[], ◌∷◌}
use Rattle.nvme_lines.specs.LineLaws.{AreIdentifiers}

pub core_identifiers_highest : AreIdentifiers (65535 ∷ [])
core_identifiers_highest = (omega arith, tt)

pub core_identifiers_over : AreIdentifiers (65536 ∷ []) → ⊥
core_identifiers_over x = omega (arith, x.0)

pub core_identifiers_second : AreIdentifiers (1 ∷ 65536 ∷ []) → ⊥
core_identifiers_second x = omega (arith, x.1.0)
