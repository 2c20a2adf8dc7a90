-- For `configuration.rt`: a wrong number of words has no meaning.
use Rattle.std.proofs.Common.{◌≡◌, ◌≢◌, List, [], ◌∷◌, length, map, Option, None, refl}
use Rattle.nvme_grammar.specs.Arity.{four}

module _ {V W B : Type 0} (now : V → W) where
  pub four_other : (f : W → W → W → W → Option B) (ws : List V) → length ws ≢ 4 → four f (map now ws) ≡ None
  four_other f [] h = refl
  four_other f (a ∷ []) h = refl
  four_other f (a ∷ b ∷ []) h = refl
  four_other f (a ∷ b ∷ c ∷ []) h = refl
  four_other f (a ∷ b ∷ c ∷ d ∷ []) h = absurd (h refl)
  four_other f (a ∷ b ∷ c ∷ d ∷ e ∷ ws) h = refl
