-- For the proofs of `TransfersSlot`, as `Values` for those of `Slot`. Assumes `Logic`.
use Rattle.std.proofs.Common.{◌≡◌, List, [], ◌∷◌, ◌++◌, refl, ◌∙◌, Option}
use seplogic.Ra.Ura.{Ura}
use mir.Val.{Val, vstruct, of_list}
use types.Logic.{Logic}
use types.Kit.{Item, Goal, Seq, Step, step, ‵, ◌$◌, move, drop, fsplit, fjoin, fpick, fpack, rewrite, feq_i, feq_l}
use denote.RattleType.{RattleType, Valss}
use denote.Builtin.{RawPtr}
use denote.Laws.{Is, shows}
use denote.RawPtr.{Ptr, ptr_val}
use denote.Steps.{nothing, peeks}
use denote.Struct.Struct.{within}
use denote.Struct.Owning.{shape}
use Rattle.std_alloc.specs.Box.Ownership.{box_owns}
use Rattle.std_heap.proofs.Handle.{heap_val, heap_Tells}
use Rattle.std_heap.specs.contracts.Global as heap
use Rattle.nvme_tcp_library.proofs.Values.{Heap, word}
use Rattle.std_heap.specs.contracts.GlobalAllocator.TheImpl.{ghosts}
use Rattle.box_pointer.specs.contracts.BoxPointer as pointer
use Rattle.nvme_tcp_library.specs.contracts.transfers_slot.TransfersSlot as slot
use Rattle.nvme_tcp_library.specs.HoldingTransfers.{Row, holds}

abbrev pub Pointer : RattleType
Pointer = pointer.the_row Row Heap ghosts

abbrev pub Slot : RattleType
Slot = slot.the_row

module _ {M : Type 1} {𝓤 : Ura M} {𝓛 : Logic 𝓤} {K : Type 0} {Γ : List (Item 𝓤)} {G : Goal 𝓤 𝓛.H} where
  pub slot_opened : K → (s : Slot.Denot) (words : List Val)
      → (words ≡ word s.at ∷ []
      → Seq K 𝓛 (‵ (holds s.alloc s.at s.value) ∷ ‵ (Heap.own_val s.alloc (heap_val ∷ [])) ∷ Γ) G)
      → Seq K 𝓛 (‵ (Slot.own_val s words) ∷ Γ) G
  slot_opened t s words k =
      fsplit t $ fpick t (λ parts. fsplit t $ feq_l t (λ whole. fsplit t $ feq_l t (λ first. fsplit t $
      peeks t Heap (Is Heap) (shows 𝓛 Heap) s.alloc parts.1.0 (λ is. let second = heap_Tells s.alloc parts.1.0 is in
      rewrite t 0 (λ (vs : List Val). ‵ (Heap.own_val s.alloc vs)) second refl $
      move t (1 ∷ []) $ drop t $ move t (1 ∷ []) $
      k (whole ∙ (λ i. vstruct (of_list (first i ++ (second i ++ []))) ∷ []))))))

  pub slot_packed : K → (at : Ptr) (alloc : Heap.Denot) (value : Option Row.Denot)
      → Step K 𝓛 (‵ (Slot.own_val (record { at = at; alloc = alloc; value = value }) (word at ∷ [])) ∷ Γ) G
      (‵ (holds alloc at value) ∷ ‵ (Heap.own_val alloc (heap_val ∷ [])) ∷ Γ) G
  slot_packed t at alloc value = step (λ rest.
      let first : List Val = ptr_val at ∷ [] in let whole : List Val = word at ∷ [] in
      nothing t $ move t (2 ∷ 0 ∷ []) $ fjoin t $ feq_i t (List Val) first first refl $ fjoin t $
      feq_i t (List Val) whole whole refl $ fjoin t $
      fpack t (Valss (RawPtr ∷ (heap.the_field).row ∷ []))
      (within (shape slot.the_type) (at, ((heap.the_field).into alloc, tt)) whole) (first, (heap_val ∷ [], tt)) $
      fjoin t $ rest)

  pub pointer_opened : K → (p : Pointer.Denot) (words : List Val)
      → (words ≡ word p.at ∷ []
      → Seq K 𝓛 (‵ (box_owns (ghosts.dealloc_token p.alloc) Row p.at p.value)
      ∷ ‵ (Heap.own_val p.alloc (heap_val ∷ [])) ∷ Γ) G)
      → Seq K 𝓛 (‵ (Pointer.own_val p words) ∷ Γ) G
  pointer_opened t p words k =
      fsplit t $ fpick t (λ parts. fsplit t $ feq_l t (λ whole. fsplit t $ feq_l t (λ first. fsplit t $
      peeks t Heap (Is Heap) (shows 𝓛 Heap) p.alloc parts.1.0 (λ is. let second = heap_Tells p.alloc parts.1.0 is in
      rewrite t 0 (λ (vs : List Val). ‵ (Heap.own_val p.alloc vs)) second refl $
      move t (1 ∷ []) $ drop t $ move t (1 ∷ []) $
      k (whole ∙ (λ i. vstruct (of_list (first i ++ (second i ++ []))) ∷ []))))))

  pub pointer_packed : K → (at : Ptr) (alloc : Heap.Denot) (value : Row.Denot)
      → Step K 𝓛 (‵ (Pointer.own_val (record { at = at; alloc = alloc; value = value }) (word at ∷ [])) ∷ Γ) G
      (‵ (box_owns (ghosts.dealloc_token alloc) Row at value) ∷ ‵ (Heap.own_val alloc (heap_val ∷ [])) ∷ Γ) G
  pointer_packed t at alloc value = step (λ rest.
      let first : List Val = ptr_val at ∷ [] in let whole : List Val = word at ∷ [] in
      nothing t $ move t (2 ∷ 0 ∷ []) $ fjoin t $ feq_i t (List Val) first first refl $ fjoin t $
      feq_i t (List Val) whole whole refl $ fjoin t $
      fpack t (Valss (RawPtr ∷ Heap ∷ [])) (within (shape (pointer.the_type Row Heap ghosts)) (at, (alloc, tt)) whole)
      (first, (heap_val ∷ [], tt)) $
      fjoin t $ rest)
