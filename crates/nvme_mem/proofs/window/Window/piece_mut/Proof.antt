-- `piece_mut` calls `is_inside`, and then `lent` for the part. Assumes `Logic`.
use Rattle.nvme_mem.proofs.Steps.{
  ◌≡◌,
  ℕ,
  ◌+◌,
  ◌≤◌,
  ◌<◌,
  List,
  [],
  ◌∷◌,
  refl,
  ap,
  lit<,
  w64,
  MutBor,
  arith,
  length,
  proved,
  id⊢,
  emp,
  ftrue,
  flft,
  fres,
  named,
  Val,
  of_list,
  fact,
  fact_i,
  tables,
  live,
  ‵,
  raw,
  ◌⊛◌,
  some,
  later,
  at_ret,
  ◌$◌,
  ◌∵◌,
  !,
  qed,
  done,
  move,
  keep,
  drop,
  use0,
  use1,
  use2,
  split,
  join,
  fsplit,
  fsplit3,
  fjoin,
  feq_i,
  feq_l,
  pick,
  await,
  suffices,
  frame,
  enter,
  of_opd,
  lit,
  addr,
  from,
  stop,
  fld,
  hop,
  no_more,
  and_then,
  first,
  branches,
  skips,
  exec,
  returns,
  returns_within,
  whole,
  sub,
  agg,
  alloc_all,
  pass_all,
  free_all,
  look_at,
  look_in_at,
  get,
  get_in,
  through,
  sets,
  lands_as,
  env,
  u8,
  u64,
  bool,
  yes,
  no,
  uint_Makes,
  uint_vals,
  uint_Tells,
  RattleType,
  MutRef,
  mut_vals,
  mut_Tells,
  plain,
  MutSlice,
  slice_val,
  mut_slice_vals,
  nothing,
  owned,
  heard,
  only,
  calls_at,
  lasts,
  triple_of,
  Stays,
  walk_of,
  stay_dropped,
  Goes-dropped,
  Goes-spent_ref,
  ends_at,
  framed,
  some_of,
  none_of,
  says_three,
  holds,
  fails,
}
use Rattle.std.specs.Prelude.{Bool, false, IsTrue, ◌↔◌, slice_range, Some, None, ◌^◌}
use denote.Follow.{follows_by}
use Rattle.std.specs.contracts.option.Option as OP
use Rattle.nvme_mem.specs.Lends.{LendsPart}
use Rattle.nvme_mem.specs.contracts.window.Window.{the_row as R}
use Rattle.nvme_mem.specs.contracts.window.Window.piece_mut as f
use Rattle.nvme_mem.proofs.window.Window.piece_mut.Statement.{statement}
use Rattle.nvme_mem.proofs.window.Window.piece_mut.Code as code
use Rattle.nvme_mem.specs.contracts.window.is_inside as g
use Rattle.nvme_mem.proofs.window.is_inside.Met.{met as inside_met}
use Rattle.nvme_mem.specs.contracts.window.Window.lent as h
use Rattle.nvme_mem.proofs.window.Window.lent.Met.{met as lent_met}

abbrev stayed : Stays f.ended.signature.params f.ended.kept
stayed = (stay_dropped _ no, (stay_dropped _ yes, (stay_dropped _ yes, tt)))

pub piece_mut_spec : {M : Type 1} → statement M
unfolding follows_by
piece_mut_spec 𝓤 𝓛 𝓜 𝓡 wired =
    let c = f.clauses 𝓛 𝓜.mem 𝓡.returns in let W = walk_of 𝓛 f.ended stayed c in let 𝓣 = tables 𝓤 𝓛.H 𝓜 𝓡 𝓡.env in
    let plain_goes = Goes-dropped 𝓛 1 (plain (λ _. u64)) yes (λ κs x w. refl) in
    proved 𝓛 f.ended stayed c 𝓜 𝓡 (Goes-spent_ref 𝓛 1 (0 ∷ []) tt (plain (λ _. R)), (plain_goes, (plain_goes, tt)))
    f.Key.name code.function (code.unfolded 𝓤 𝓛.H 𝓜 𝓡 wired)
    (λ κs. (mut_vals, (uint_vals w64, (uint_vals w64, tt))))
    (λ κs. (mut_Tells (named 0) κs.0 R, (uint_Tells w64, (uint_Tells w64, tt)))) (λ κs qs bounds a _ are.
    let κ = κs.0 in let q = qs.0 in let r = a.0 in let at = a.1.0 in let len = a.1.1.0 in
    let at-fits : at < 2 ^ 64 = are.1.0.1 in let len-fits : len < 2 ^ 64 = are.1.1.0.1 in
    let Self = ‵ ((MutRef (named 0) κ R).own_val r (mut_vals r)) in
    let Lent : RattleType = MutSlice (named 0) κ u8 in
    let y : W.Ghost = ((κs, qs, bounds, a, (mut_vals r, (uint_vals w64 at, (uint_vals w64 len, tt)))), tt) in
    qed 𝓛 (((‵ (flft κ q) ⊛ ‵ ftrue) ⊛ Self ⊛ ‵ (u64.own_val at (uint_vals w64 at))
    ⊛ ‵ (u64.own_val len (uint_vals w64 len)) ⊛ ‵ ftrue) ∷ ‵ ftrue ∷ []) ∵
    split ! $ split ! $ move ! (2 ∷ []) $ split ! $ keep ! (0 ∷ 2 ∷ []) $
    enter ! _ _ _ _ _ $ alloc_all !
    (λ l. pass_all ! refl ((tt, tt), ((tt, record { fits = at-fits }), ((tt, record { fits = len-fits }), tt))) $
    -- [self; the token]
    let G = triple_of 𝓛 g.signature (g.spec 𝓛 𝓜.mem 𝓡.returns) in
    let z : G.Ghost = ((tt, tt, tt, (at, (len, tt)), (uint_vals w64 at, (uint_vals w64 len, tt))), tt) in
    nothing ! $ owned ! u64 _ (uint_Makes 𝓛 w64) len _ (refl, len-fits) $ join ! $
    owned ! u64 _ (uint_Makes 𝓛 w64) at _ (refl, at-fits) $ join ! $
    nothing ! $ join ! $ nothing ! $ move ! (1 ∷ 0 ∷ []) $ use2 𝓛 (raw (G.pre z)) (id⊢ 𝓤 _) $
    calls_at ! (framed 𝓤 𝓛.H 𝓜 𝓣) G (inside_met 𝓤 𝓛 𝓜 𝓡 (code.calls-nvme_mem::window::is_inside 𝓡.env wired)) z
    (and_then ! (get ! refl) (and_then ! (get ! refl) (no_more !))) (λ v.
    use1 𝓛 (later (some (λ (b : Bool). (‵ ftrue ⊛ ‵ (bool.own_val b (v ∷ []))) ⊛
    some (λ (ws : Unit {0} × (Unit {0} × Unit {0})).
    ‵ (lasts g.ended tt z.0.3 ws) ⊛ raw (fact 𝓤 (IsTrue b ↔ (at + len ≤ 4194304))))))) (id⊢ 𝓤 _) $
    await ! tt $
    pick ! (λ b. split ! $ split ! $ drop ! $ feq_l ! (λ is_bool. pick ! (λ ws. split ! $ drop ! $ heard ! _ (λ inside.
    lands_as ! (ap only is_bool) refl (tt, tt) $
    sets ! (of_opd ! (get ! refl)) refl (tt, tt) $
    first ! $ branches ! (get ! refl)
    (λ t.
    sets ! (addr ! (through ! refl (stop !))) refl (tt, tt) $
    let fits : at + len ≤ 4194304 = inside.0 (holds b t) in
    let G₂ = triple_of 𝓛 h.signature (h.spec 𝓛 𝓜.mem 𝓡.returns) in
    let z₂ : G₂.Ghost =
    ((κs, qs, tt, (r, (at, (len, tt))), (mut_vals r, (uint_vals w64 at, (uint_vals w64 len, tt)))), tt) in
    use0 𝓛 (raw (fact 𝓤 (at + len ≤ 4194304))) (fact_i 𝓤 (at + len ≤ 4194304) (emp 𝓤) fits) $
    nothing ! $ owned ! u64 _ (uint_Makes 𝓛 w64) len _ (refl, len-fits) $ join ! $
    owned ! u64 _ (uint_Makes 𝓛 w64) at _ (refl, at-fits) $ join ! $
    move ! (2 ∷ 0 ∷ []) $ join ! $ nothing ! $ move ! (3 ∷ 0 ∷ []) $ join ! $ join ! $
    use2 𝓛 (raw (G₂.pre z₂)) (id⊢ 𝓤 _) $
    calls_at ! (framed 𝓤 𝓛.H 𝓜 𝓣) G₂ (lent_met 𝓤 𝓛 𝓜 𝓡 (code.calls-nvme_mem::window::Window::lent 𝓡.env wired)) z₂
    (and_then ! (get ! refl) (and_then ! (get ! refl) (and_then ! (get ! refl) (no_more !)))) (λ v₂.
    use1 𝓛 (later (some (λ (x : MutBor (List ℕ)). ((‵ (flft κ q) ⊛ ‵ ftrue) ⊛ ‵ (Lent.own_val x (v₂ ∷ []))) ⊛
    some
    (λ (ws : Unit {0} × (Unit {0} × (Unit {0} × Unit {0}))). ‵ (lasts h.ended κs z₂.0.3 ws) ⊛ ‵ (LendsPart r at x) ⊛
    raw (fact 𝓤 (x.now ≡ slice_range r.now at (at + len))) ⊛ raw (fact 𝓤 (length x.now ≡ len)))))) (id⊢ 𝓤 _) $
    await ! tt $ pick ! (λ x. split ! $ split ! $ split ! $ move ! (3 ∷ []) $
    pick ! (λ ws. split ! $ drop ! $ split ! $ move ! (1 ∷ []) $ split ! $
    heard ! _ (λ bytes. heard ! _ (λ long.
    -- [the lender; the token; nothing; the part]
    move ! (3 ∷ []) $ fsplit ! $ fsplit ! $ feq_l ! (λ is_piece.
    -- [the memory of the part; the rest of the part; the lender; the token; nothing]
    let n : ℕ = length x.now in let v₃ : Val = slice_val x.ref_ptr n in
    let n-fits : n < 2 ^ 64 = omega (arith, long, len-fits) in
    lands_as ! (ap only is_piece) refl (tt, (tt, (record { fits = n-fits }, tt))) $
    sets ! (addr ! (from ! (fld ! refl (hop ! (look_in_at ! 5 (sub ! 0 refl (whole !))) (stop !))))) refl (tt, tt) $
    sets !
    (agg ! (and_then ! (get ! refl) (and_then ! (get_in ! (fld ! refl (stop !)) (sub ! 1 refl (whole !))) (no_more !))))
    refl (tt, (tt, (record { fits = n-fits }, tt))) $
    sets ! (agg ! (and_then ! (lit ! tt) (and_then ! (get ! refl) (no_more !)))) refl
    (tt, (record { fits = lit< tt }, ((tt, (record { fits = n-fits }, tt)), tt))) $
    returns_within ! (W.post y) refl (look_at ! 0 refl) $ free_all ! refl $
    feq_i ! (List Val) (v₃ ∷ []) (mut_slice_vals x) refl $ fjoin ! $ fjoin ! $
    use1 𝓛 (‵ ((OP.the_row Lent).own_val (Some x) (live 1 (of_list (v₃ ∷ [])) ∷ []))) (some_of 𝓛 Lent x v₃) $
    keep ! (0 ∷ 2 ∷ 1 ∷ []) $
    suffices ! _
    (ends_at 𝓛 f.ended stayed c y (live 1 (of_list (v₃ ∷ []))) (Some x) (tt, (tt, (tt, tt))) (tt, (tt, (tt, tt)))) $
    nothing ! $ nothing ! $ fjoin ! $ nothing ! $ fjoin ! $ nothing ! $ fjoin ! $ join ! $ nothing ! $
    move ! (2 ∷ 0 ∷ []) $ join ! $ join ! $ frame ! $
    says_three ! (((λ _. fits), λ _. refl), (bytes, long)) $ done !)))))))
    (λ t. skips ! $ exec ! 𝓣.C 𝓣.Λ (env code.Mir.locals l) code.Mir.t-4 (at_ret _ (W.post y)) $
    sets ! (agg ! (and_then ! (lit ! tt) (no_more !))) refl (tt, (record { fits = lit< tt }, tt)) $
    returns ! (look_at ! 0 refl) $ free_all ! refl $
    fsplit3 ! $ drop ! $ keep ! (0 ∷ 2 ∷ []) $
    use1 𝓛 (‵ (fres r.ghost_name (R.coded.code r.now))) (𝓛.names.obs-res r.ghost_name (R.coded.code r.now)) $
    move ! (1 ∷ []) $
    use0 𝓛 (‵ ((OP.the_row Lent).own_val None (live 0 (of_list []) ∷ []))) (none_of 𝓛 Lent) $
    suffices ! _ (ends_at 𝓛 f.ended stayed c y (live 0 (of_list [])) None (tt, (tt, (tt, tt))) (tt, (tt, (tt, tt)))) $
    nothing ! $ nothing ! $ fjoin ! $ nothing ! $ fjoin ! $ nothing ! $ fjoin ! $ join ! $ nothing ! $
    move ! (2 ∷ 0 ∷ []) $ join ! $ join ! $ frame ! $
    says_three ! (((λ e. fails false tt e), λ le. fails b t (inside.1 le)), (tt, tt)) $ done !))))))))
