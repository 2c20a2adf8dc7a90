-- A returned value has no machine words: it is packed from what it owns. For the proofs of `none` and `of`. Assumes
-- `Logic`.
use Rattle.std.proofs.Common.{List, [], ◌∷◌, refl, Option}
use seplogic.Ra.Ura.{Ura}
use mir.Val.{Val, vstruct, vnil}
use types.Logic.{Logic}
use types.Kit.{Item, Goal, Step, step, ‵, ◌$◌, fjoin, fpack, feq_i}
use denote.RattleType.{Valss}
use denote.Steps.{nothing}
use denote.Struct.Struct.{within}
use denote.Struct.Owning.{shape}
use Rattle.nvme_lent.specs.declared.bytes.LentBytes.{LentBytes}
use Rattle.nvme_lent.specs.Bytes.{owned}
use Rattle.nvme_lent.specs.contracts.returned.ReturnedBytes as returned

abbrev pub blank : Val
blank = vstruct vnil

module _ {M : Type 1} {𝓤 : Ura M} {𝓛 : Logic 𝓤} {K : Type 0} {Γ : List (Item 𝓤)} {G : Goal 𝓤 𝓛.H} where
  pub returned_packed : K → (bytes : Option LentBytes)
      → Step K 𝓛 (‵ ((returned.the_row).own_val (record { bytes = bytes }) (blank ∷ [])) ∷ Γ) G (‵ (owned bytes) ∷ Γ) G
  returned_packed t bytes = step (λ rest.
      let whole : List Val = blank ∷ [] in
      nothing t $ feq_i t (List Val) whole whole refl $ fjoin t $
      fpack t (Valss []) (within (shape returned.the_type) tt whole) tt $ fjoin t $ rest)
