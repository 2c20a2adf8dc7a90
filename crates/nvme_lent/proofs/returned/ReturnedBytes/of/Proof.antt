-- `of` takes the bytes back from `dislodge`. Assumes `Logic`.
use Rattle.std.proofs.Common.{◌≡◌, ℕ, List, [], ◌∷◌, ◌++◌, refl, ap, Option, Some}
use mir.Syntax.{given}
use mir.Val.{Val}
use base.Fraction.{full_share}
use base.Logic.{SProp, emp, id⊢}
use base.Fml.{ftrue, fsep, flft}
use prog.Wp.{WpFn}
use contract.BorrowLft.{◌⊑◌, ⊑_refl}
use contract.Monad.{fact, fact_i}
use contract.Running.{tables}
use types.Kit.{
  ‵,
  raw,
  ◌⊛◌,
  some,
  later,
  prop,
  ◌$◌,
  ◌∵◌,
  !,
  qed,
  by,
  move,
  keep,
  drop,
  use0,
  use1,
  split,
  split3,
  join,
  regoal,
  fsplit,
  fjoin,
  feq_l,
  flt_l,
  pick,
  await,
}
use types.Part.{agg}
use types.Run.{of_opd, no_more, and_then, returns, enter}
use types.ByLocal.{alloc_all, pass_all, free_all, look_at, get, sets, lands_as}
use denote.Array.{Array}
use denote.Builtin.{u8, usize}
use denote.Exit.{no, left as left_at}
use denote.Param.{param}
use denote.Param.Laws.{Laws, of_field}
use denote.Param.Shared.{copy_shared}
use denote.RattleType.{RattleType, owns}
use denote.RawPtr.{lies_at}
use denote.Signature.{types_at, plain}
use denote.Steps.{nothing, only, heard}
use denote.Struct.Field.{u8-field}
use denote.Struct.Laws.{u8-laws, u8-copy}
use denote.Triple.Call.{calls_at}
use denote.Triple.Entry.{alive}
use denote.Triple.Spec.{triple_of}
use denote.Triple.Walked.{Stays, stay_dropped, walk_of}
use Rattle.core.proofs.alloc.Calls.{Al, Goes-blank, handle_tells}
use Rattle.core.proofs.atomic.Steps.{fm}
use Rattle.core.proofs.mem.Timeless.{timeless, timeless_laws}
use Rattle.std.proofs.raw_atomic.Walks.{proved_at, leaves}
use Rattle.std_alloc.specs.Vec.Ownership.{lodged}
use Rattle.std_alloc.specs.contracts.vec.Vec as vec
use Rattle.std_alloc.specs.contracts.vec.lodged.Lodged as lodged-type
use Rattle.std_alloc.specs.contracts.vec.lodged.LodgedAllocator.TheImpl.{ghosts}
use Rattle.std_alloc.specs.contracts.vec.lodged.Vec+T+Lodged.dislodge as callee
use Rattle.std_alloc.proofs.vec.Vec.TheLaws as vec-laws
use Rattle.std_alloc.proofs.vec.lodged.Lodged.TheLaws as lodged-laws
use Rattle.std_alloc.proofs.vec.lodged.Vec+T+Lodged.dislodge.Met.{met}
use Rattle.nvme_lent.specs.declared.bytes.LentBytes.{LentBytes}
use Rattle.nvme_lent.specs.Bytes.{as_lent}
use Rattle.nvme_lent.proofs.Lodging.{there_again}
use Rattle.nvme_lent.proofs.Values.{blank, returned_packed}
use Rattle.nvme_lent.specs.contracts.returned.ReturnedBytes.of.{ended, clauses}
use Rattle.nvme_lent.specs.contracts.returned.ReturnedBytes.of.Key.{name as #self}
use Rattle.nvme_lent.proofs.returned.ReturnedBytes.of.Statement.{statement}
use Rattle.nvme_lent.proofs.returned.ReturnedBytes.of.Code as code

abbrev byte_laws : Laws u8
byte_laws = of_field u8-field u8-laws refl (copy_shared u8-field u8-copy)

abbrev Bytes : RattleType
Bytes = vec.the_row u8 lodged-type.the_row ghosts

abbrev al : Al
al = record {
  row = Bytes;
  laws = vec-laws.the_row_laws u8 lodged-type.the_row ghosts byte_laws lodged-laws.the_row_laws;
  g = record { dealloc_token = λ a τ p. ftrue };
  d = given 0;
  drops = given 0;
}

pub of_spec : {M : Type 1} → statement M
of_spec 𝓤 𝓛 𝓜 𝓡 wired =
    let H = 𝓛.H in let 𝓣 = tables 𝓤 H 𝓜 𝓡 𝓡.env in let c = clauses 𝓛 𝓜.mem 𝓡.returns in let fn = code.function in
    let hs : Stays ended.signature.params ended.kept = (stay_dropped (plain (λ _. Bytes)) ended.kept.0, tt) in
    let dislodges = triple_of 𝓛 (callee.signature (timeless u8)) (callee.spec (timeless u8) 𝓛 𝓜.mem 𝓡.returns) in
    let known = met 𝓤 𝓛 𝓜 𝓡 (code.calls-std_alloc::vec::lodged::Vec+T+Lodged::dislodge 𝓡.env wired) (timeless u8)
    (timeless_laws u8 byte_laws) in
    proved_at 𝓛 ended hs c 𝓜 𝓡 (Goes-blank 𝓛 0 (plain (λ _. Bytes)) ended.kept.0 (λ κs x f. tt), tt) #self fn
    (code.unfolded 𝓤 H 𝓜 𝓡 wired) (λ z are.
    let Post : Val → SProp 𝓤 = (walk_of 𝓛 ended hs c).post z in let d = z.0.3.0 in
    qed 𝓛 ((raw (alive 𝓛 ended.signature z.0.0 z.0.1) ⊛ ‵ (owns (types_at ended.signature.params z.0.0) z.0.3 z.0.4))
    ∷ ‵ ftrue ∷ []) ∵ move ! (1 ∷ []) $ drop ! $ split ! $ move ! (1 ∷ []) $ fsplit ! $
    handle_tells al ! d z.0.4.0 (λ u same good.
    let given' : dislodges.Ghost = ((([], tt), (full_share, tt), tt, (d, tt), (u ∷ [], tt)), tt) in
    nothing ! $ use0 𝓛 (raw (fact 𝓤 ([] ⊑ []))) (fact_i 𝓤 ([] ⊑ []) (emp 𝓤) (⊑_refl [])) $ join ! $
    nothing ! $ move ! (2 ∷ 0 ∷ []) $ fjoin ! $ nothing ! $
    use0 𝓛 (‵ (flft [] full_share)) (𝓛.lfts.lft-nil full_share) $ join ! $ join ! $ join ! $
    use1 𝓛 (raw (dislodges.pre given')) (id⊢ 𝓤 _) $
    regoal ! (λ (us : List Val). prop (WpFn 𝓤 H 𝓣.C 𝓣.Λ fn us Post)) (λ i. same i ++ []) refl $
    enter ! 𝓣.C 𝓣.Λ fn (u ∷ []) Post $ alloc_all ! (λ l. pass_all ! refl (good, tt) $
    sets ! (of_opd ! (get ! refl)) refl good $
    calls_at ! (fm 𝓛 𝓜 𝓡) dislodges known given' (and_then ! (get ! refl) (no_more !)) (λ v.
    use1 𝓛 (later (some (λ (r : ℕ). ((‵ (flft [] full_share) ⊛ ‵ ftrue) ⊛ ‵ (usize.own_val r (v ∷ [])))
    ⊛ some (λ (ws : Unit {0} × Unit {0}).
    ‵ (fsep (left_at ((vec.the_row (param 0 (timeless u8)) lodged-type.the_row ghosts).exit no) d ws.0) ftrue) ⊛ raw
    (fact 𝓤 (r ≡ d.len)) ⊛ ‵ (lodged (param 0 u8) d.ptr d.len d.cap d.items))))) (id⊢ 𝓤 (dislodges.post given' v)) $
    await ! tt $ pick ! (λ r. split ! $ move ! (1 ∷ []) $ pick ! (λ ws. split3 ! $ drop ! $
    heard ! (r ≡ d.len) (λ is. move ! (1 ∷ []) $ split ! $ drop ! $ fsplit ! $ feq_l ! (λ e. flt_l ! (λ wide.
    lands_as ! (ap only e) refl (tt, record { fits = wide }) $
    sets ! (agg ! (no_more !)) refl (tt, tt) $
    returns ! (look_at ! 0 refl) $ free_all ! refl $
    use1 𝓛 (‵ (lies_at (Array u8 d.len) full_share d.ptr d.items))
    (there_again 𝓛 d.ptr d.len d.cap d.items d.ok.0 d.ok.1) $
    let back : Option LentBytes = Some (as_lent d) in
    returned_packed ! back $
    use0 𝓛 (raw (fact 𝓤 (back ≡ back))) (fact_i 𝓤 (back ≡ back) (emp 𝓤) refl) $ nothing ! $ nothing ! $ fjoin ! $
    keep ! (4 ∷ 0 ∷ 2 ∷ 1 ∷ []) $
    by ! (leaves 𝓛 ended hs c z blank (record { bytes = back }) (tt, tt) (tt, tt)))))))))))
