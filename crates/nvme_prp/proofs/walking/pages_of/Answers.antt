use Rattle.std.proofs.Common.{◌≡◌, ◌+◌, ◌-◌, ◌/◌, ◌<◌, ◌++◌, ◌∷◌, [], map, min, ℕ, List, arith, sym, ap, ◌∙◌, None}
use Rattle.std.proofs.lemmas.Result.{err_from_is_err_and}
use Rattle.std.specs.List.{range_with_len}
use Rattle.nvme_prp.specs.Walk.{list_of, list_tests, listed_piece}
use Rattle.nvme_spec.specs.Pointer.{Transfer, transfer, first_fault, further_pages, room}
use Rattle.nvme_spec.specs.declared.pointer.Piece.{Piece}
use Rattle.nvme_prp.proofs.Judged.{
  first-fault,
  none-further,
  one-further,
  many-further,
  same-list,
  parts-none,
  parts-one,
  parts-many,
}
use Rattle.nvme_prp.proofs.walking.pages_of.Goals as goal

pub returns-in_err-check-clause-fault : goal.returns-in_err-check-clause-fault
returns-in_err-check-clause-fault c =
    let p = err_from_is_err_and c.from_residual.result c.from_residual.ensures.1 in
    let t : Transfer = transfer c.args.window.now c.args.prp1 c.args.prp2 c.args.len in
    rw (p.1, p.2) (first-fault t _ c.in_err-check.ensures.judged)

pub returns-in_err-check-2-clause-fault : goal.returns-in_err-check-2-clause-fault
returns-in_err-check-2-clause-fault c =
    let p = err_from_is_err_and c.from_residual-in_err-check-2.result c.from_residual-in_err-check-2.ensures.1 in
    let t : Transfer = transfer c.args.window.now c.args.prp1 c.args.prp2 c.args.len in
    let first = c.min-first.ensures in
    let more : 1 < further_pages t = omega arith in
    rw (p.1, p.2) (many-further t _ c.in_ok-check.ensures.judged more c.in_err-check-2.ensures.judged)

pub returns-in_err-walk_list-clause-fault : goal.returns-in_err-walk_list-clause-fault
returns-in_err-walk_list-clause-fault c =
    let p = err_from_is_err_and c.from_residual-in_err-walk_list.result c.from_residual-in_err-walk_list.ensures.1 in
    let t : Transfer = transfer c.args.window.now c.args.prp1 c.args.prp2 c.args.len in
    let first = c.min-first.ensures in
    let more : 1 < further_pages t = omega arith in
    let rest : c.args.len - c.min-first.result ≡ t.bytes - room t.prp1 = omega arith in
    let e = ap (λ l. first_fault (list_tests l)) (sym (same-list t (c.args.len - c.min-first.result) rest))
    ∙ c.in_err-walk_list.ensures.err in
    rw (p.1, p.2) (many-further t _ c.in_ok-check.ensures.judged more c.in_ok-check-2.ensures.judged ∙ e)

pub returns-in_err-check-3-clause-fault : goal.returns-in_err-check-3-clause-fault
returns-in_err-check-3-clause-fault c =
    let p = err_from_is_err_and c.from_residual-in_err-check-3.result c.from_residual-in_err-check-3.ensures.1 in
    let t : Transfer = transfer c.args.window.now c.args.prp1 c.args.prp2 c.args.len in
    let first = c.min-first.ensures in
    let one : further_pages t ≡ 1 = omega arith in
    rw (p.1, p.2) (one-further t _ c.in_ok-check.ensures.judged one c.in_err-check-3.ensures.judged)

-- there is only the first piece
started : (t : Transfer) (first : ℕ) (before after : List Piece) → before ≡ [] → first ≡ min t.bytes (room t.prp1)
    → after ≡ before ++ record { address = t.prp1; len = first } ∷ []
    → after ≡ record { address = t.prp1; len = min t.bytes (room t.prp1) } ∷ []
started t first before after empty is pushed =
    pushed ∙ ap (λ ps. ps ++ record { address = t.prp1; len = first } ∷ []) empty
    ∙ ap (λ n. record { address = t.prp1; len = n } ∷ []) is

pub returns-in_ok-walk_list-clause-sound : goal.returns-in_ok-walk_list-clause-sound
returns-in_ok-walk_list-clause-sound c =
    let t : Transfer = transfer c.args.window.now c.args.prp1 c.args.prp2 c.args.len in
    let first = c.min-first.ensures in
    let rest : c.args.len - c.min-first.result ≡ t.bytes - room t.prp1 = omega arith in
    let more : 1 < further_pages t = omega arith in
    many-further t None c.in_ok-check.ensures.judged more c.in_ok-check-2.ensures.judged
    ∙ ap (λ l. first_fault (list_tests l)) (sym (same-list t (c.args.len - c.min-first.result) rest))
    ∙ c.in_ok-walk_list.ensures.ok.0

pub returns-in_ok-walk_list-clause-parts : goal.returns-in_ok-walk_list-clause-parts
returns-in_ok-walk_list-clause-parts c =
    let t : Transfer = transfer c.args.window.now c.args.prp1 c.args.prp2 c.args.len in
    let first = c.min-first.ensures in
    let left : ℕ = c.args.len - c.min-first.result in
    let rest : left ≡ t.bytes - room t.prp1 = omega arith in
    let more : 1 < further_pages t = omega arith in
    let piece : Piece = record { address = t.prp1; len = min t.bytes (room t.prp1) } in
    let start = started t _ _ _ c.requires.empty first c.push.ensures.items in
    c.in_ok-walk_list.ensures.ok.1
    ∙ ap
    (λ ps. ps ++ map (listed_piece (list_of t.window t.prp2 left) left) (range_with_len 0 ((left + 4095) / 4096))) start
    ∙ ap
    (λ n. piece ∷ map (listed_piece (list_of t.window t.prp2 left) left) (range_with_len 0 ((n + 4095) / 4096))) rest
    ∙ sym (parts-many t left more rest)

pub returns-in_ok-check-3-clause-sound : goal.returns-in_ok-check-3-clause-sound
returns-in_ok-check-3-clause-sound c =
    let t : Transfer = transfer c.args.window.now c.args.prp1 c.args.prp2 c.args.len in
    let first = c.min-first.ensures in
    let one : further_pages t ≡ 1 = omega arith in
    one-further t None c.in_ok-check.ensures.judged one c.in_ok-check-3.ensures.judged

pub returns-in_ok-check-3-clause-parts : goal.returns-in_ok-check-3-clause-parts
returns-in_ok-check-3-clause-parts c =
    let t : Transfer = transfer c.args.window.now c.args.prp1 c.args.prp2 c.args.len in
    let first = c.min-first.ensures in
    let rest : c.args.len - c.min-first.result ≡ t.bytes - room t.prp1 = omega arith in
    let one : further_pages t ≡ 1 = omega arith in
    let start = started t _ _ _ c.requires.empty first c.push.ensures.items in
    c.push-then-rest-gt0.ensures.items
    ∙ ap (λ ps. ps ++ record { address = c.args.prp2; len = c.args.len - c.min-first.result } ∷ []) start
    ∙ sym (parts-one t (c.args.len - c.min-first.result) one rest)

pub returns-else-rest-gt0-clause-sound : goal.returns-else-rest-gt0-clause-sound
returns-else-rest-gt0-clause-sound c =
    let t : Transfer = transfer c.args.window.now c.args.prp1 c.args.prp2 c.args.len in
    let first = c.min-first.ensures in
    let none : further_pages t ≡ 0 = omega arith in
    none-further t c.in_ok-check.ensures.judged none

pub returns-else-rest-gt0-clause-parts : goal.returns-else-rest-gt0-clause-parts
returns-else-rest-gt0-clause-parts c =
    let t : Transfer = transfer c.args.window.now c.args.prp1 c.args.prp2 c.args.len in
    let first = c.min-first.ensures in
    let none : further_pages t ≡ 0 = omega arith in
    started t _ _ _ c.requires.empty first c.push.ensures.items ∙ sym (parts-none t none)
