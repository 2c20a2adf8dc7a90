-- `into_buffer` passes the bytes to `lodge`. Assumes `Logic`.
use Rattle.std.proofs.Common.{◌≡◌, ℕ, ◌^◌, ◌<◌, ◌≤◌, List, [], ◌∷◌, ◌++◌, length, refl, sym, ap, ◌∙◌, subst, arith, w64}
use mir.Syntax.{given}
use mir.Val.{Val, vint, vptr, vstruct, vcons, vnil, of_list}
use base.Fraction.{full_share}
use base.Logic.{SProp, emp, id⊢}
use base.Fml.{Fml, ftrue, fsep, flft, feq}
use prog.Wp.{WpFn}
use contract.BorrowLft.{◌⊑◌, ⊑_refl}
use contract.Monad.{fact, fact_i}
use contract.Running.{tables}
use types.Kit.{
  ‵,
  raw,
  ◌⊛◌,
  some,
  later,
  prop,
  at_ret,
  ◌$◌,
  ◌∵◌,
  !,
  qed,
  by,
  move,
  keep,
  drop,
  use0,
  use1,
  split,
  join,
  regoal,
  rewrite,
  fsplit,
  fjoin,
  feq_i,
  feq_l,
  flt_i,
  pick,
  await,
}
use types.Part.{whole, sub}
use types.Run.{stop, fld, of_opd, no_more, and_then, first, blocks, exec, returns, enter}
use types.ByLocal.{alloc_all, pass_all, free_all, look_at, get, get_in, sets, lands_last, env}
use denote.Array.{Array}
use denote.Builtin.{u8, usize, RawPtr}
use denote.Memory.{part_at}
use denote.Param.{param, layout}
use denote.Param.Laws.{Laws, of_field, param_laws}
use denote.Param.Shared.{copy_shared}
use denote.RattleType.{RattleType, owns}
use denote.RawPtr.{Ptr, block_ptr, ptr_val, lies_at, in_a_block}
use denote.RawPtr.Bytes.{bytes, bytes_apart, bytes_whole}
use denote.Shadow.{shadow}
use denote.Signature.{types_at, plain}
use denote.Steps.{nothing, only, heard}
use denote.Struct.Field.{u8-field}
use denote.Struct.Laws.{u8-laws, u8-copy}
use denote.Struct.Struct.{Struct}
use denote.Triple.Call.{calls_at_last}
use denote.Triple.Entry.{alive}
use denote.Triple.Spec.{triple_of}
use denote.Triple.Walked.{Stays, stay_dropped, walk_of}
use Rattle.core.proofs.alloc.Calls.{Al, Goes-blank, handle_tells}
use Rattle.core.proofs.alloc.Shapes.{after}
use Rattle.core.proofs.atomic.Steps.{fm}
use Rattle.core.proofs.cell.Inside.{Good}
use Rattle.core.proofs.mem.Timeless.{timeless, timeless_laws}
use Rattle.std.proofs.raw_atomic.Walks.{proved_at, leaves}
use Rattle.std_alloc.specs.Vec.Ownership.{lodged}
use Rattle.std_alloc.specs.declared.vec.Vec.{Vec}
use Rattle.std_alloc.specs.declared.vec.lodged.Lodged.{Lodged}
use Rattle.std_alloc.specs.contracts.vec.Vec as vec
use Rattle.std_alloc.specs.contracts.vec.lodge as callee
use Rattle.std_alloc.specs.contracts.vec.lodged.Lodged as lodged-type
use Rattle.std_alloc.specs.contracts.vec.lodged.LodgedAllocator.TheImpl.{ghosts}
use Rattle.std_alloc.proofs.vec.Vec.TheLaws as vec-laws
use Rattle.std_alloc.proofs.vec.lodged.Lodged.TheLaws as lodged-laws
use Rattle.std_alloc.proofs.vec.lodge.Met.{met}
use Rattle.nvme_lent.specs.Bytes.{as_lent}
use Rattle.nvme_lent.proofs.Lodging.{lodged_there}
use Rattle.nvme_lent.proofs.Same.{same-lent}
use Rattle.nvme_lent.specs.contracts.bytes.LentBytes as held
use Rattle.nvme_lent.specs.contracts.bytes.LentBytes.into_buffer.{ended, clauses}
use Rattle.nvme_lent.specs.contracts.bytes.LentBytes.into_buffer.Key.{name as #self}
use Rattle.nvme_lent.proofs.bytes.LentBytes.into_buffer.Statement.{statement}
use Rattle.nvme_lent.proofs.bytes.LentBytes.into_buffer.Code as code

abbrev word : Ptr → ℕ → Val
word p n = vstruct (vcons (ptr_val p) (vcons (vint w64 n) vnil))

abbrev fields_own : Ptr → ℕ → List Val → Fml
fields_own p n =
    (Struct (record { name = []; args = []; types = []; fields = RawPtr ∷ usize ∷ [] })).own_val (p, (n, tt))

told : (p : Ptr) (n : ℕ) (vs : List Val) → shadow (fields_own p n vs) → (vs ≡ word p n ∷ []) × (n < 2 ^ 64)
told p n vs s = (s.1.0 ∙ (λ i. vstruct (of_list (s.1.1.0 i ++ (s.1.1.1.0.0 i ++ []))) ∷ []), s.1.1.1.0.1)

abbrev bytes_laws : Laws (timeless u8)
bytes_laws = timeless_laws u8 (of_field u8-field u8-laws refl (copy_shared u8-field u8-copy))

abbrev Bytes : RattleType
Bytes = vec.the_row (param 0 u8) lodged-type.the_row ghosts

abbrev bytes_row_laws : Laws Bytes
bytes_row_laws = vec-laws.the_row_laws (param 0 u8) lodged-type.the_row ghosts
    (param_laws 0 u8 (of_field u8-field u8-laws refl (copy_shared u8-field u8-copy))) lodged-laws.the_row_laws

abbrev al : Al
al = record {
  row = Bytes;
  laws = bytes_row_laws;
  g = record { dealloc_token = λ a τ p. ftrue };
  d = given 0;
  drops = given 0;
}

pub into_buffer_spec : {M : Type 1} → statement M
into_buffer_spec 𝓤 𝓛 𝓜 𝓡 wired =
    let H = 𝓛.H in let 𝓣 = tables 𝓤 H 𝓜 𝓡 𝓡.env in let c = clauses 𝓛 𝓜.mem 𝓡.returns in let fn = code.function in
    let hs : Stays ended.signature.params ended.kept = (stay_dropped (plain (λ _. held.the_row)) ended.kept.0, tt) in
    let lodges = triple_of 𝓛 (callee.signature (timeless u8)) (callee.spec (timeless u8) 𝓛 𝓜.mem 𝓡.returns) in
    let known = met 𝓤 𝓛 𝓜 𝓡 (code.calls-std_alloc::vec::lodge 𝓡.env wired) (timeless u8) bytes_laws in
    proved_at 𝓛 ended hs c 𝓜 𝓡 (Goes-blank 𝓛 0 (plain (λ _. held.the_row)) ended.kept.0 (λ κs x f. tt), tt) #self fn
    (code.unfolded 𝓤 H 𝓜 𝓡 wired) (λ z are.
    let Post : Val → SProp 𝓤 = (walk_of 𝓛 ended hs c).post z in let d = z.0.3.0 in let n = d.len in let xs = d.items in
    let is = told d.at n z.0.4.0 are.0.0 in
    qed 𝓛 ((raw (alive 𝓛 ended.signature z.0.0 z.0.1) ⊛ ‵ (owns (types_at ended.signature.params z.0.0) z.0.3 z.0.4))
    ∷ ‵ ftrue ∷ []) ∵ move ! (1 ∷ []) $ drop ! $ split ! $ move ! (1 ∷ []) $ fsplit ! $ fsplit ! $ drop ! $
    -- [the bytes; nothing; the tokens]
    in_a_block ! d.at (λ p. lies_at (Array u8 n) full_share p xs) (id⊢ 𝓤 _) (λ b o at.
    use1 𝓛 (‵ (fsep (feq ℕ (length xs) n) (bytes full_share xs b o))) (bytes_apart 𝓛 full_share n xs b o) $ fsplit ! $
    feq_l ! (λ long. feq_i ! ℕ (length xs) n long $ fjoin ! $
    use1 𝓛 (‵ (part_at (Array u8 n) full_share xs b o)) (bytes_whole 𝓛 full_share n xs b o) $
    use1 𝓛 (‵ (lodged (param 0 u8) (block_ptr b o) n n xs)) (lodged_there 𝓛 n xs b o d.small) $
    let Asked : Type 0 = (n ≡ length xs) × (n ≤ n) × (n < 2 ^ 63) in let wide : n < 2 ^ 64 = is.1 in
    let p : Ptr = block_ptr b o in
    let given : lodges.Ghost = (
      (([], tt), (full_share, tt), tt, (p, (n, (n, tt))), (vptr b o ∷ [], (vint w64 n ∷ [], (vint w64 n ∷ [], tt)))),
      xs,
    ) in
    use0 𝓛 (raw (fact 𝓤 Asked)) (fact_i 𝓤 Asked (emp 𝓤) (sym long, omega arith, d.small)) $ join ! $
    use0 𝓛 (raw (fact 𝓤 ([] ⊑ []))) (fact_i 𝓤 ([] ⊑ []) (emp 𝓤) (⊑_refl [])) $ join ! $
    nothing ! $ flt_i ! n (2 ^ 64) wide $ feq_i ! (List Val) (vint w64 n ∷ []) (vint w64 n ∷ []) refl $
    fjoin ! $ fjoin ! $
    flt_i ! n (2 ^ 64) wide $ feq_i ! (List Val) (vint w64 n ∷ []) (vint w64 n ∷ []) refl $ fjoin ! $ fjoin ! $
    feq_i ! (List Val) (vptr b o ∷ []) (vptr b o ∷ []) refl $ fjoin ! $ nothing ! $
    use0 𝓛 (‵ (flft [] full_share)) (𝓛.lfts.lft-nil full_share) $ join ! $ join ! $ join ! $
    use1 𝓛 (raw (lodges.pre given)) (id⊢ 𝓤 _) $
    regoal ! (λ (us : List Val). prop (WpFn 𝓤 H 𝓣.C 𝓣.Λ fn us Post))
    (λ i. (is.0 ∙ (λ j. word (at j) n ∷ [])) i ++ []) refl $
    enter ! 𝓣.C 𝓣.Λ fn (word p n ∷ []) Post $
    alloc_all ! (λ l. pass_all ! refl ((tt, (tt, (record { fits = wide }, tt))), tt) $ let locals = env fn.locals l in
    sets ! (of_opd ! (get_in ! (fld ! refl (stop !)) (sub ! 0 refl (whole !)))) refl (tt, tt) $
    sets ! (of_opd ! (get_in ! (fld ! refl (stop !)) (sub ! 1 refl (whole !)))) refl (tt, record { fits = wide }) $
    first ! $ blocks ! $
    calls_at_last ! (fm 𝓛 𝓜 𝓡) lodges known given
    (and_then ! (get ! refl) (and_then ! (get ! refl) (and_then ! (get ! refl) (no_more !)))) (λ v.
    let Is : Vec ℕ Lodged → Type 0 = λ r. (r.items ≡ xs) × (r.len ≡ n) × (r.cap ≡ n) × (r.ptr ≡ p) in
    use1 𝓛 (later (some (λ (r : Vec ℕ Lodged). ((‵ (flft [] full_share) ⊛ ‵ ftrue) ⊛ ‵ (Bytes.own_val r (v ∷ [])))
    ⊛ some (λ (ws : Unit {0} × (Unit {0} × (Unit {0} × Unit {0}))).
    ‵ (fsep ftrue (fsep ftrue (fsep ftrue ftrue))) ⊛ raw (fact 𝓤 (Is r)))))) (id⊢ 𝓤 (lodges.post given v)) $
    await ! tt $
    pick ! (λ r. split ! $ move ! (1 ∷ []) $ pick ! (λ ws. split ! $ drop ! $ heard ! (Is r) (λ is. split ! $ drop ! $
    handle_tells al ! r (v ∷ []) (λ u same good.
    rewrite ! 0 (λ (vs : List Val). ‵ (Bytes.own_val r vs)) (sym same) refl $
    let typed : Good (layout Bytes) v = subst (Good (layout Bytes)) (sym (ap only same)) good in
    lands_last ! refl typed $ exec ! 𝓣.C 𝓣.Λ locals (after 3 fn.body) (at_ret locals Post) $
    sets ! (of_opd ! (get ! refl)) refl typed $
    returns ! (look_at ! 0 refl) $ free_all ! refl $
    let same-as : as_lent r ≡ d = same-lent (as_lent r) d (is.3 ∙ sym at) is.1 is.0 in
    use0 𝓛 (raw (fact 𝓤 (as_lent r ≡ d))) (fact_i 𝓤 (as_lent r ≡ d) (emp 𝓤) same-as) $
    nothing ! $ nothing ! $ fjoin ! $ keep ! (4 ∷ 0 ∷ 2 ∷ 1 ∷ []) $
    by ! (leaves 𝓛 ended hs c z v r (tt, tt) (tt, tt)))))))))))
