-- `into_pointer` repacks the pointer. Assumes `Logic`.
use Rattle.std.proofs.Common.{◌≡◌, List, [], ◌∷◌, ◌++◌, refl, Some, true, is_some, Option}
use mir.Val.{Val}
use base.Logic.{SProp, emp}
use prog.Wp.{WpFn}
use types.Kit.{‵, raw, ◌⊛◌, prop, ◌$◌, ◌∵◌, !, qed, by, move, keep, use0, split, regoal, rewrite, fsplit, fjoin}
use types.Run.{stop, fld, of_opd, no_more, and_then, returns, enter}
use types.ByLocal.{alloc_all, pass_all, free_all, look_at, get, get_in, sets}
use types.Part.{agg, sub, whole}
use contract.Monad.{fact, fact_i}
use contract.Running.{tables}
use denote.RattleType.{owns}
use denote.Signature.{types_at, plain}
use denote.Steps.{nothing, heard}
use denote.Triple.Entry.{alive}
use denote.Triple.Walked.{Stays, stay_dropped, walk_of}
use Rattle.core.proofs.alloc.Calls.{Goes-blank}
use Rattle.std.proofs.raw_atomic.Walks.{proved_at, leaves}
use Rattle.nvme_tcp_library.specs.HoldingTransfers.{Row, holds}
use Rattle.nvme_tcp_library.proofs.Values.{something, word, word_good, at_good}
use Rattle.nvme_tcp_library.proofs.TransferValues.{Slot, pointer_packed, slot_opened}
use Rattle.nvme_tcp_library.specs.contracts.transfers_slot.TransfersSlot.into_pointer.{ended, clauses}
use Rattle.nvme_tcp_library.specs.contracts.transfers_slot.TransfersSlot.into_pointer.Key.{name as #self}
use Rattle.nvme_tcp_library.proofs.transfers_slot.TransfersSlot.into_pointer.Statement.{statement}
use Rattle.nvme_tcp_library.proofs.transfers_slot.TransfersSlot.into_pointer.Code as code

pub into_pointer_spec : {M : Type 1} → statement M
into_pointer_spec 𝓤 𝓛 𝓜 𝓡 wired =
    let H = 𝓛.H in let 𝓣 = tables 𝓤 H 𝓜 𝓡 𝓡.env in let c = clauses 𝓛 𝓜.mem 𝓡.returns in let fn = code.function in
    let hs : Stays ended.signature.params ended.kept = (stay_dropped (plain (λ _. Slot)) ended.kept.0, tt) in
    proved_at 𝓛 ended hs c 𝓜 𝓡 (Goes-blank 𝓛 0 (plain (λ _. Slot)) ended.kept.0 (λ κs x f. tt), tt) #self fn
    (code.unfolded 𝓤 H 𝓜 𝓡 wired) (λ z are.
    let Post : Val → SProp 𝓤 = (walk_of 𝓛 ended hs c).post z in let d = z.0.3.0 in let p = d.at in
    let good = word_good p in
    let Asked : Type 0 = is_some d.value ≡ true in
    qed 𝓛 ((raw (alive 𝓛 ended.signature z.0.0 z.0.1) ⊛ ‵ (owns (types_at ended.signature.params z.0.0) z.0.3 z.0.4))
    ∷ raw (fact 𝓤 Asked) ∷ []) ∵ move ! (1 ∷ []) $ heard ! Asked
    (λ asked. let held = something d.value asked in let x = held.0 in split ! $ move ! (1 ∷ []) $ fsplit ! $
    slot_opened ! d z.0.4.0
    (λ ws. regoal ! (λ (us : List Val). prop (WpFn 𝓤 H 𝓣.C 𝓣.Λ fn us Post)) (λ i. ws i ++ []) refl $
    rewrite ! 0 (λ (v : Option Row.Denot). ‵ (holds d.alloc p v)) held.1 refl $
    enter ! 𝓣.C 𝓣.Λ fn (word p ∷ []) Post $ alloc_all ! (λ l. pass_all ! refl (good, tt) $
    sets ! (of_opd ! (get_in ! (fld ! refl (stop !)) (sub ! 0 refl (whole !)))) refl (at_good p) $
    sets ! (of_opd ! (get_in ! (fld ! refl (stop !)) (sub ! 1 refl (whole !)))) refl (tt, ((tt, tt), tt)) $
    sets ! (of_opd ! (get ! refl)) refl (at_good p) $
    sets ! (agg ! (and_then ! (get ! refl) (and_then ! (get ! refl) (no_more !)))) refl good $
    returns ! (look_at ! 0 refl) $ free_all ! refl $ pointer_packed ! p d.alloc x $
    use0 𝓛 (raw (fact 𝓤 (d.value ≡ Some x))) (fact_i 𝓤 (d.value ≡ Some x) (emp 𝓤) held.1) $ nothing ! $
    nothing ! $ fjoin ! $
    keep ! (4 ∷ 0 ∷ 2 ∷ 1 ∷ []) $
    by ! (leaves 𝓛 ended hs c z (word p) (record { at = p; alloc = d.alloc; value = x }) (tt, tt) (tt, tt))))))
