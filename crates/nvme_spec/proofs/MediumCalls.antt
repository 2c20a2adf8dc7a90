-- For laws about calls: calls made one after the other.
use Rattle.std.proofs.Common.{List, [], ◌∷◌, ◌++◌, subst}
use Rattle.nvme_spec.specs.MediumCalls.{Calls}

-- calls, and then others
pub calls-joined : {S C : Type 0} (step : S → C → S → Type 0) (calls others : List C) (old mid new : S)
    → Calls step old calls mid → Calls step mid others new → Calls step old (calls ++ others) new
calls-joined step [] others old mid new made next = subst (λ s. Calls step s others new) made next
calls-joined step (c ∷ cs) others old mid new made next =
    (made.0, made.1, calls-joined step cs others made.0 mid new made.2 next)
