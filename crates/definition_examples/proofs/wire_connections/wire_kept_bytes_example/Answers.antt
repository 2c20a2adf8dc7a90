use Rattle.std.proofs.Common.{◌≡◌, [], ◌∷◌, refl}
use Rattle.definition_examples.proofs.wire_connections.wire_kept_bytes_example.Goals as goal

pub returns-clause-other_bytes : goal.returns-clause-other_bytes
returns-clause-other_bytes c kept = let same : (6 ∷ []) ≡ (5 ∷ []) = kept.first [] refl refl in cc same
