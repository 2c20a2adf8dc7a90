use Rattle.std.proofs.Common.{◌≡◌, ◌∷◌, ap, rules}
use Rattle.std.specs.List.{flat_map}
use Rattle.nvme_grammar.specs.FaultTexts.{shown_byte}
use Rattle.script_text.proofs.PageLemmas.{lacks_piece, next_piece}
use Rattle.nvme_grammar.proofs.fault_text.put_shown_bytes.Goals as goal

pub loop-first-preserved : goal.loop-first-preserved
loop-first-preserved g c =
    let joined : c.loop-first.rest.now ≡ c.in-Some.first.now ∷ c.in-Some.behind.now = search rules in
    next_piece _ _ (shown_byte c.in-Some.first.now) (flat_map shown_byte c.in-Some.behind.now)
    (flat_map shown_byte c.loop-first.rest.now) _
    c.in_ok-put_shown_byte.ensures (ap (flat_map shown_byte) joined) c.loop-first.invariant

pub returns-in_err-put_shown_byte : goal.returns-in_err-put_shown_byte
returns-in_err-put_shown_byte g c =
    let joined : c.loop-first.rest.now ≡ c.in-Some.first.now ∷ c.in-Some.behind.now = search rules in
    lacks_piece g.P.Page.room c.from_residual.result (g.P.Page.written c.loop-first.page)
    (shown_byte c.in-Some.first.now) (flat_map shown_byte c.in-Some.behind.now)
    (flat_map shown_byte c.loop-first.rest.now) (g.P.Page.written c.args.page.now)
    (flat_map shown_byte c.args.bytes.now) (g.P.Page.written c.put_shown_byte.new.page) (search rules)
    c.in_err-put_shown_byte.ensures (ap (flat_map shown_byte) joined) c.loop-first.invariant
