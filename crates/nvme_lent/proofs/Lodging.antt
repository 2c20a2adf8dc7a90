-- Bytes at an address as the buffer of a `Vec` that frees nothing, for the proofs of `into_buffer` and `of`. Assumes
-- `Logic`.
use Rattle.std.proofs.Common.{
  ◌≡◌,
  ℕ,
  ◌^◌,
  ◌<◌,
  ◌≤◌,
  ◌==◌,
  ◌-◌,
  ◌*◌,
  ◌+◌,
  List,
  [],
  ◌∷◌,
  length,
  Bool,
  true,
  false,
  not,
  refl,
  sym,
  subst,
  suc-ne-zero,
  arith,
}
use Rattle.std.proofs.lemmas.Bool.{eqb-true}
use seplogic.Ra.Ura.{Ura}
use mir.Syntax.{ty_array}
use base.Fraction.{full_share}
use base.Logic.{ent, emp, via}
use base.Fml.{ftrue, fsep, feq, froom}
use prog.Memory.{size}
use types.Logic.{Logic, sem}
use types.Kit.{‵, ◌$◌, ◌∵◌, !, qed, move, keep, use0, use1, drop, fsplit, fjoin, feq_i, flt_i, done}
use denote.Builtin.{u8}
use denote.Array.{Array}
use denote.Memory.{part_at, lone}
use denote.Param.{param}
use denote.RawPtr.{Ptr, block_ptr, null_ptr, lies_at}
use denote.RawPtr.Bytes.{bytes, bytes_whole}
use denote.RattleType.{RattleType}
use denote.Steps.{nothing}
use Rattle.core.specs.Allocator.{block_with_items}
use Rattle.std_alloc.specs.Vec.Ownership.{lodged, owns_if, has_block}

abbrev Byte : RattleType
Byte = param 0 u8

module _ {M : Type 1} {𝓤 : Ura M} (𝓛 : Logic 𝓤) where
  no_room : (k b o : ℕ) → k ≡ 0 → ent 𝓤 (emp 𝓤) (sem 𝓛 (froom (ty_array (lone Byte.mir) k) b o))
  no_room k b o e = subst (λ (j : ℕ). ent 𝓤 (emp 𝓤) (sem 𝓛 (froom (ty_array (lone Byte.mir) j) b o))) (sym e)
      (𝓛.laws.room_nil (lone Byte.mir) b o)

  in_block : (y : Bool) (n : ℕ) (xs : List ℕ) (b o : ℕ) → ent 𝓤 (sem 𝓛 (part_at (Array u8 n) full_share xs b o))
      (sem 𝓛 (owns_if y (block_with_items (λ _ _. ftrue) Byte (block_ptr b o) n n xs)))
  in_block false n xs b o = qed 𝓛 (‵ (part_at (Array u8 n) full_share xs b o) ∷ []) ∵ drop ! $ nothing ! $ done !
  in_block true n xs b o =
      qed 𝓛 (‵ (part_at (Array u8 n) full_share xs b o) ∷ []) ∵ nothing ! $
      use0 𝓛 (‵ (froom (ty_array (lone Byte.mir) (n - n)) b (o + n * size (lone Byte.mir))))
      (no_room (n - n) b (o + n * size (lone Byte.mir)) (omega arith)) $ fjoin ! $
      move ! (1 ∷ 0 ∷ []) $ fjoin ! $ done !

  pub lodged_there : (n : ℕ) (xs : List ℕ) (b o : ℕ)
      → n < 2 ^ 63 → ent 𝓤 (sem 𝓛 (part_at (Array u8 n) full_share xs b o))
      (sem 𝓛 (lodged Byte (block_ptr b o) n n xs))
  lodged_there n xs b o small =
      qed 𝓛 (‵ (part_at (Array u8 n) full_share xs b o) ∷ []) ∵
      use1 𝓛 (‵ (owns_if (has_block n) (block_with_items (λ _ _. ftrue) Byte (block_ptr b o) n n xs)))
      (in_block (has_block n) n xs b o) $
      flt_i ! (n * size (lone Byte.mir)) (2 ^ 63) (omega (arith, small)) $ fjoin ! $ done !

  none_there : (xs : List ℕ) (b o : ℕ)
      → length xs ≡ 0 → ent 𝓤 (emp 𝓤) (sem 𝓛 (part_at (Array u8 (length xs)) full_share xs b o))
  none_there [] b o e =
      via 𝓤 (sem 𝓛 (fsep (feq ℕ 0 0) (bytes full_share [] b o)))
      (qed 𝓛 [] {P = sem 𝓛 (fsep (feq ℕ 0 0) (bytes full_share [] b o))}
      (nothing ! $ feq_i ! ℕ 0 0 refl $ fjoin ! $ done !)) (bytes_whole 𝓛 full_share 0 [] b o)
  none_there (x ∷ xs) b o e = absurd (suc-ne-zero (length xs) e)

  out_of : (y : Bool) (c : ℕ) (xs : List ℕ) (b o : ℕ) → (y ≡ false → length xs ≡ 0)
      → ent 𝓤 (sem 𝓛 (owns_if y (block_with_items (λ _ _. ftrue) Byte (block_ptr b o) (length xs) c xs)))
      (sem 𝓛 (part_at (Array u8 (length xs)) full_share xs b o))
  out_of true c xs b o empty =
      qed 𝓛 (‵ (owns_if true (block_with_items (λ _ _. ftrue) Byte (block_ptr b o) (length xs) c xs)) ∷ []) ∵ fsplit ! $
      keep ! (0 ∷ []) $ done !
  out_of false c xs b o empty = qed 𝓛 (‵ ftrue ∷ []) ∵ drop ! $
      use0 𝓛 (‵ (part_at (Array u8 (length xs)) full_share xs b o)) (none_there xs b o (empty refl)) $ done !

  no_block : (c : ℕ) → has_block c ≡ false → c ≡ 0
  no_block c e = by (c == 0) refl e
    where
      by : (y : Bool) → (c == 0) ≡ y → not y ≡ false → c ≡ 0
      by true is h = eqb-true c 0 is
      by false is h = absurd (cc h)

  -- the buffer of such a `Vec` is the bytes at its address
  pub there_again : (p : Ptr) (n c : ℕ) (xs : List ℕ)
      → n ≡ length xs → n ≤ c → ent 𝓤 (sem 𝓛 (lodged Byte p n c xs)) (sem 𝓛 (lies_at (Array u8 n) full_share p xs))
  there_again p n c xs long le =
      subst (λ (k : ℕ). ent 𝓤 (sem 𝓛 (lodged Byte p k c xs)) (sem 𝓛 (lies_at (Array u8 k) full_share p xs))) (sym long)
      (by p)
    where
      by : (p : Ptr)
          → ent 𝓤 (sem 𝓛 (lodged Byte p (length xs) c xs)) (sem 𝓛 (lies_at (Array u8 (length xs)) full_share p xs))
      by (block_ptr b o) =
          qed 𝓛 (‵ (lodged Byte (block_ptr b o) (length xs) c xs) ∷ []) ∵ fsplit ! $ drop ! $
          use1 𝓛 (‵ (part_at (Array u8 (length xs)) full_share xs b o))
          (out_of (has_block c) c xs b o (λ e. let none = no_block c e in omega (arith, none, long, le))) $ done !
      by null_ptr = qed 𝓛 (‵ (lodged Byte null_ptr (length xs) c xs) ∷ []) ∵ fsplit ! $ drop ! $ done !
