-- For the proof of `piece_mut`: steps of a function that borrows and returns an `Option`.
pub use Rattle.std.proofs.Common.{
  ◌≡◌,
  ℕ,
  ◌+◌,
  ◌≤◌,
  ◌<◌,
  List,
  [],
  ◌∷◌,
  refl,
  sym,
  ap,
  ◌∙◌,
  lit<,
  nltb→le,
  w8,
  w64,
  MutBor,
  arith,
  length,
}
pub use Rattle.std.proofs.raw_atomic.Walks.{proved}
pub use base.Fraction.{full_share}
pub use base.Logic.{id⊢, ent, emp, sep}
pub use base.Fml.{ftrue, flft, fres, fobs}
pub use mir.Syntax.{named}
pub use mir.Val.{Val, vunit, vint, vptr, vbool, of_list}
pub use contract.Monad.{fact, fact_i}
pub use contract.Running.{tables}
pub use types.Logic.{Logic, sem}
pub use types.Match.{live}
pub use types.Kit.{
  ‵,
  raw,
  ◌⊛◌,
  some,
  later,
  prop,
  at_ret,
  Sq,
  ◌$◌,
  ◌∵◌,
  !,
  qed,
  done,
  by,
  move,
  keep,
  drop,
  use0,
  use1,
  use2,
  split,
  join,
  fsplit,
  fsplit3,
  fjoin,
  feq_i,
  feq_l,
  fpack,
  pick,
  await,
  suffices,
  frame,
  group,
}
pub use types.Run.{
  enter,
  of_opd,
  lit,
  addr,
  from,
  stop,
  fld,
  hop,
  no_more,
  and_then,
  first,
  branches,
  skips,
  exec,
  returns,
  returns_within,
}
pub use types.Part.{whole, sub, agg}
pub use types.ByLocal.{alloc_all, pass_all, free_all, look_at, look_in_at, get, get_in, through, sets, lands_as, env}
pub use denote.Builtin.{u8, u64, bool}
pub use denote.Exit.{yes, no}
pub use denote.Follow.{follows, follows_by}
pub use denote.Plain.{uint_Makes, uint_vals, uint_Tells}
pub use denote.RattleType.{RattleType, Valss, owns}
pub use denote.Ref.{MutRef, mut_vals, mut_Tells}
pub use denote.Signature.{plain}
pub use denote.Slice.{MutSlice, slice_val, mut_slice_vals}
pub use denote.Steps.{nothing, owned, heard, only}
pub use denote.Triple.Call.{calls_at}
pub use denote.Triple.Clauses.{lasts}
pub use denote.Triple.Spec.{triple_of}
pub use denote.Triple.Walked.{Stays, walk_of, says, stay_dropped, Goes-dropped, Goes-spent_ref, ends_at}
pub use denote.Triple.Table.{framed}
use seplogic.Ra.Ura.{Ura}
use mathlib.Core.List.{List}
use base.Logic.{SProp, via, comm∗, mono_l, mono_r, emp∗}
use types.Kit.{Item, Step, step}
use Rattle.std.specs.Prelude.{Bool, true, false, IsTrue}
use mathlib.Core.Bool.{not}
use mathlib.Core.Path.{subst}
use lib.Dec.{T}
use denote.Enum.Row.{tagged_with}
use denote.Enum.Enum.{form_of, in_a_row}
use denote.Enum.Declared.{shape}
use Rattle.std.specs.declared.option.Option.TheVariants.{None, Some}
use Rattle.std.specs.contracts.option.Option as OP

module _ {M : Type 1} {𝓤 : Ura M} (𝓛 : Logic 𝓤) (X : RattleType) where
  pub some_of : (x : X.Denot) (v : Val)
      → ent 𝓤 (sem 𝓛 (X.own_val x (v ∷ []))) (sem 𝓛 ((OP.the_row X).own_val (Some x) (live 1 (of_list (v ∷ [])) ∷ [])))
  some_of x v =
      qed 𝓛 (‵ (X.own_val x (v ∷ [])) ∷ []) ∵ nothing ! $ move ! (1 ∷ 0 ∷ []) $ fjoin ! $
      feq_i ! (List Val) (v ∷ []) (v ∷ []) refl $ fjoin ! $
      fpack ! (Valss (X ∷ [])) (in_a_row (X ∷ []) (owns (X ∷ []) (x, tt)) (v ∷ [])) (v ∷ [], tt) $
      feq_i ! (List Val) (live 1 (of_list (v ∷ [])) ∷ []) (live 1 (of_list (v ∷ [])) ∷ []) refl $ fjoin ! $
      fpack ! (List Val) (tagged_with (form_of (shape (OP.the_type X))) (form_of (shape (OP.the_type X))).payload
      ((OP.the_type X).to (Some x)) (live 1 (of_list (v ∷ [])) ∷ [])) (v ∷ []) $ done !

  pub none_of : ent 𝓤 (emp 𝓤) (sem 𝓛 ((OP.the_row X).own_val None (live 0 (of_list []) ∷ [])))
  none_of =
      qed 𝓛 [] ∵ nothing ! $ feq_i ! (List Val) [] [] refl $ fjoin ! $
      fpack ! (Valss []) (in_a_row [] (owns [] tt) []) tt $
      feq_i ! (List Val) (live 0 (of_list []) ∷ []) (live 0 (of_list []) ∷ []) refl $ fjoin ! $
      fpack ! (List Val) (tagged_with (form_of (shape (OP.the_type X))) (form_of (shape (OP.the_type X))).payload
      ((OP.the_type X).to None) (live 0 (of_list []) ∷ [])) [] $ done !

module _ {M : Type 1} (𝓤 : Ura M) where
  beside : (φ : Type 0) (F : SProp 𝓤) → φ → ent 𝓤 (emp 𝓤) F → ent 𝓤 (emp 𝓤) (sep 𝓤 (fact 𝓤 φ) F)
  beside φ F x f = via 𝓤 (sep 𝓤 (emp 𝓤) (emp 𝓤)) (emp∗ 𝓤 (emp 𝓤)) (via 𝓤 (sep 𝓤 (fact 𝓤 φ) (emp 𝓤))
      (mono_l 𝓤 (emp 𝓤) (fact_i 𝓤 φ (emp 𝓤) x)) (mono_r 𝓤 (fact 𝓤 φ) {Q = emp 𝓤} {Q' = F} f))

  added : (P F : SProp 𝓤) → ent 𝓤 (emp 𝓤) F → ent 𝓤 P (sep 𝓤 P F)
  added P F f = via 𝓤 (sep 𝓤 (emp 𝓤) P) (emp∗ 𝓤 P) (via 𝓤 (sep 𝓤 F P) (mono_l 𝓤 P f) (comm∗ 𝓤 F P))

pub says_three : {M : Type 1} {𝓤 : Ura M} {𝓛 : Logic 𝓤} {K : Type 0} {Γ : List (Item 𝓤)}
    → K → {φ ψ χ : Type 0} {P : SProp 𝓤}
    → φ × (ψ × χ) → Step K 𝓛 Γ (prop P) Γ (prop (sep 𝓤 P (sep 𝓤 (fact 𝓤 φ) (sep 𝓤 (fact 𝓤 ψ) (fact 𝓤 χ)))))
says_three {𝓤 = 𝓤} t {φ} {ψ} {χ} {P} x = step (λ s. record {
  prf = via 𝓤 P s.prf (added 𝓤 P (sep 𝓤 (fact 𝓤 φ) (sep 𝓤 (fact 𝓤 ψ) (fact 𝓤 χ)))
      (beside 𝓤 φ (sep 𝓤 (fact 𝓤 ψ) (fact 𝓤 χ)) x.0 (beside 𝓤 ψ (fact 𝓤 χ) x.1.0 (fact_i 𝓤 χ (emp 𝓤) x.1.1))));
})

pub holds : (b : Bool) → T b → IsTrue b
holds true t = refl
holds false t = absurd t

pub fails : {X : Type 0} (b : Bool) → T (not b) → IsTrue b → X
fails true t e = absurd t
fails false t e = absurd (subst (λ (w : Bool). T (not w)) e tt)
