-- For proofs about rules of several crates: the first failing rule of a joined list.
use Rattle.std.proofs.Common.{◌≡◌, List, [], ◌∷◌, ◌++◌, Ok, Err, refl}
use Rattle.nvme_spec.specs.Rules.{Rule, judgement_by, else_by, first_failing}

-- the later rules count only if the earlier ones pass
pub first_failing-append : (xs ys : List Rule)
    → first_failing (xs ++ ys) ≡ else_by (first_failing xs) (first_failing ys)
first_failing-append [] ys = refl
first_failing-append (x ∷ xs) ys =
    elim (judgement_by x) as (λ t.
    else_by t (first_failing (xs ++ ys)) ≡ else_by (else_by t (first_failing xs)) (first_failing ys)) [
      | Ok u ↦ first_failing-append xs ys
      | Err d ↦ refl
    ]
