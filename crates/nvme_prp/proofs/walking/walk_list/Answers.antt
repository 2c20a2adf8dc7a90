use Rattle.std.proofs.Common.{◌≡◌, ◌-◌, ◌%◌, ◌≤◌, ◌<◌, ◌++◌, map, ℕ, List, arith, ap, ◌∙◌, None}
use Rattle.std.proofs.lemmas.Result.{err_from_is_err_and}
use Rattle.std.proofs.lemmas.Bool.{ltb-true}
use Rattle.std.specs.List.{flat_map, range_with_len}
use Rattle.nvme_spec.specs.Limits.{most_bytes}
use Rattle.nvme_prp.specs.Walk.{list_of, list_tests, listed_piece}
use Rattle.nvme_spec.specs.declared.pointer.Piece.{Piece}
use Rattle.nvme_spec.specs.Pointer.{PageList, first_fault, entry_tests}
use Rattle.nvme_prp.proofs.Turns.{IsShort, Reached, turn, page-fault, next-fault, found-length}
use Rattle.nvme_prp.proofs.walking.walk_list.Goals as goal

short : (window : List ℕ) (start bytes : ℕ) → start % 8 ≡ 0 → start < 4194304 → bytes ≤ most_bytes
    → IsShort (list_of window start bytes)
short window start bytes a b s = record { aligned = a; in_window = b; short = omega arith }

-- once all entries are read, no test is left
done : (l : PageList) (bytes j left at : ℕ) (before parts : List Piece)
    → Reached l bytes j left at before parts → l.pages ≤ j
    → (first_fault (list_tests l) ≡ None) × (parts ≡ before ++ map (listed_piece l bytes) (range_with_len 0 l.pages))
unfolding first_fault
done l bytes j left at before parts r h =
    let within = r.within in
    let none : l.pages - j ≡ 0 = omega arith in
    let all : j ≡ l.pages = omega arith in (
      r.tested ∙ ap (λ n. first_fault (flat_map (entry_tests l) (range_with_len j n))) none,
      r.found ∙ ap (λ n. before ++ map (listed_piece l bytes) (range_with_len 0 n)) all,
    )

pub returns-in_err-slot-clause-err : goal.returns-in_err-slot-clause-err
returns-in_err-slot-clause-err c =
    let p = err_from_is_err_and c.from_residual.result c.from_residual.ensures.1 in
    let l : PageList = list_of c.args.window.now c.args.start c.args.rest in
    let s = short c.args.window.now c.args.start c.args.rest c.requires.aligned c.requires.in_window c.requires.most in
    let count = c.loop-j.invariant.count in
    let e = c.in_err-slot.ensures.err in
    let more = ltb-true _ _ e.0 in
    rw (p.1, p.2) (next-fault l c.args.rest c.loop-j.j c.loop-j.left c.loop-j.slot c.args.parts.now.items
    c.loop-j.parts.items c.in_err-slot.field-0.0 c.loop-j.invariant.reached s (omega arith) (omega arith) e.1 e.2)

pub returns-in_err-check-clause-err : goal.returns-in_err-check-clause-err
returns-in_err-check-clause-err c =
    let p = err_from_is_err_and c.from_residual-in_err-check.result c.from_residual-in_err-check.ensures.1 in
    let l : PageList = list_of c.args.window.now c.args.start c.args.rest in
    let s = short c.args.window.now c.args.start c.args.rest c.requires.aligned c.requires.in_window c.requires.most in
    let f = rw c.loop-j.invariant.count at c.in_ok-slot.ensures.ok in
    let count = c.loop-j.invariant.count in
    let fault = rw c.u64_at-page.ensures.number at c.in_err-check.ensures.judged in
    rw (p.1, p.2)
    (page-fault l c.args.rest c.loop-j.j c.loop-j.left c.loop-j.slot c.in_ok-slot.slot c.args.parts.now.items
    c.loop-j.parts.items c.in_err-check.field-0.0 c.loop-j.invariant.reached s (omega arith) f fault)

pub push-requires : goal.push-requires
push-requires c =
    let r = c.loop-j.invariant.reached in
    let n = found-length _ _ _ _ _ _ _ r in
    (omega arith, omega arith)

pub loop-j-preserved : goal.loop-j-preserved
loop-j-preserved c =
    let l : PageList = list_of c.args.window.now c.args.start c.args.rest in
    let s = short c.args.window.now c.args.start c.args.rest c.requires.aligned c.requires.in_window c.requires.most in
    let f = rw c.loop-j.invariant.count at c.in_ok-slot.ensures.ok in
    let count = c.loop-j.invariant.count in
    let ok = rw c.u64_at-page.ensures.number at c.in_ok-check.ensures.judged in
    record {
      count = c.loop-j.invariant.count;
      reached =
          rw (c.push.ensures.items, c.u64_at-page.ensures.number, c.min-len.ensures)
          (turn l c.args.rest c.loop-j.j c.loop-j.left c.loop-j.slot c.in_ok-slot.slot c.args.parts.now.items
          c.loop-j.parts.items c.loop-j.invariant.reached s (omega arith) f ok);
    }

pub returns-clause-ok : goal.returns-clause-ok
returns-clause-ok c =
    let count = c.loop-j.invariant.count in
    done _ _ _ _ _ _ _ c.loop-j.invariant.reached (omega arith)
