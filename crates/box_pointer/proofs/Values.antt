-- For the proofs of `of` and `into_box`: the machine value of a `BoxPointer` is a struct of the pointer and the
-- allocator's handle. `opened` splits what it owns, `packed` joins it again. Assumes `Logic`.
use Rattle.std.proofs.Common.{◌≡◌, ℕ, List, [], ◌∷◌, ◌++◌, refl, subst}
use mathlib.Core.Bool.{true, ◌&&◌}
use lib.Dec.{T}
use seplogic.Ra.Ura.{Ura}
use mir.Syntax.{impl, tnil, dnil}
use mir.Raw.{raw as bare}
use mir.Val.{Val, vptr, vstruct, vcons, vnil, of_list, has_ty, WT}
use base.Logic.{never, fst∗}
use base.Fml.{Fml}
use types.Logic.{Logic, sem}
use types.Kit.{Item, Goal, Seq, Step, step, ‵, ◌$◌, move, drop, fsplit, fjoin, fpick, fpack, feq_i, feq_l}
use denote.RattleType.{RattleType, Valss}
use denote.Builtin.{RawPtr}
use denote.Memory.{lone}
use denote.RawPtr.{Ptr, block_ptr, null_ptr, ptr_val, in_a_block}
use denote.Steps.{nothing}
use denote.Param.{layout}
use denote.Param.Laws.{Laws}
use denote.Struct.Struct.{within}
use denote.Struct.Owning.{shape}
use Rattle.core.specs.declared.alloc.Allocator.{Ghosts}
use Rattle.core.proofs.alloc.Calls.{Al, handle_tells}
use Rattle.core.proofs.cell.Inside.{Good}
use Rattle.std_alloc.specs.Box.Ownership.{box_owns}
use Rattle.std_alloc.proofs.ResultValues.{and_tt}
use Rattle.box_pointer.specs.contracts.BoxPointer as pointer

-- the value of a `BoxPointer`: a pointer into a block, and the allocator's handle
abbrev pub word : ℕ → ℕ → Val → Val
word block offset handle = vstruct (vcons (vptr block offset) (vcons handle vnil))

module _ (R Z : RattleType) (laws : Laws Z) (g : Ghosts Z.Denot) where
  abbrev pub Row : RattleType
  Row = pointer.the_row R Z g

  abbrev allocator : Al
  allocator = record { row = Z; laws = laws; g = g; d = impl [] tnil dnil; drops = impl [] tnil dnil }

  pub word_good : (block offset : ℕ) (handle : Val) → Good (layout Z) handle
      → T (has_ty (layout Z) handle && true) × WT (word block offset handle)
  word_good block offset handle good = (and_tt (has_ty (layout Z) handle) good.0, (tt, (good.1, tt)))

  module _ {M : Type 1} {𝓤 : Ura M} {𝓛 : Logic 𝓤} {K : Type 0} {Γ : List (Item 𝓤)} {G : Goal 𝓤 𝓛.H} where
    pub opened : K → (p : Row.Denot) (words : List Val)
        → ((block offset : ℕ) (handle : Val) → p.at ≡ block_ptr block offset → words ≡ word block offset handle ∷ []
        → Good (layout Z) handle
        → Seq K 𝓛 (‵ (box_owns (g.dealloc_token p.alloc) R (block_ptr block offset) p.value)
        ∷ ‵ (Z.own_val p.alloc (handle ∷ [])) ∷ Γ) G)
        → Seq K 𝓛 (‵ (Row.own_val p words) ∷ Γ) G
    opened t p words k =
        let Owned : Ptr → Fml = λ at. box_owns (g.dealloc_token p.alloc) R at p.value in
        fsplit t $ fpick t (λ parts. fsplit t $ feq_l t (λ whole. fsplit t $ feq_l t (λ first. fsplit t $
        handle_tells allocator t p.alloc parts.1.0 (λ handle second good.
        move t (1 ∷ []) $ drop t $ move t (1 ∷ []) $
        in_a_block t p.at Owned (fst∗ 𝓤 (never 𝓤) (sem 𝓛 (g.dealloc_token p.alloc (bare (lone R.mir)) null_ptr)))
        (λ block offset at.
        let by_first : words ≡ vstruct (of_list (ptr_val p.at ∷ (parts.1.0 ++ []))) ∷ [] =
        subst (λ (v : List Val). words ≡ vstruct (of_list (v ++ (parts.1.0 ++ []))) ∷ []) first whole in
        let by_both : words ≡ vstruct (of_list (ptr_val p.at ∷ handle ∷ [])) ∷ [] =
        subst (λ (v : List Val). words ≡ vstruct (of_list (ptr_val p.at ∷ (v ++ []))) ∷ []) second by_first in
        k block offset handle at
        (subst (λ (q : Ptr). words ≡ vstruct (of_list (ptr_val q ∷ handle ∷ [])) ∷ []) at by_both) good)))))

    pub packed : K → (block offset : ℕ) (handle : Val) (alloc : Z.Denot) (value : R.Denot)
        → Step K 𝓛
        (‵ (Row.own_val (record { at = block_ptr block offset; alloc = alloc; value = value })
        (word block offset handle ∷ [])) ∷ Γ) G
        (‵ (box_owns (g.dealloc_token alloc) R (block_ptr block offset) value)
        ∷ ‵ (Z.own_val alloc (handle ∷ [])) ∷ Γ) G
    packed t block offset handle alloc value = step (λ rest.
        let at : List Val = vptr block offset ∷ [] in let whole : List Val = word block offset handle ∷ [] in
        nothing t $ move t (2 ∷ 0 ∷ []) $ fjoin t $
        feq_i t (List Val) at at refl $ fjoin t $
        feq_i t (List Val) whole whole refl $ fjoin t $
        fpack t (Valss (RawPtr ∷ Z ∷ []))
        (within (shape (pointer.the_type R Z g)) (block_ptr block offset, (alloc, tt)) whole)
        (at, (handle ∷ [], tt)) $ fjoin t $ rest)
