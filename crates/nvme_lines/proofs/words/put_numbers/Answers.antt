use Rattle.std.proofs.Common.{◌≡◌, ◌++◌, ◌∷◌, ap, codes, decimal, rules}
use Rattle.script_text.proofs.PageLemmas.{lacks_piece, next_piece}
use Rattle.nvme_lines.specs.LineTexts.{decimals, spaced}
use Rattle.nvme_lines.proofs.words.put_numbers.Goals as goal

pub loop-first-preserved : goal.loop-first-preserved
loop-first-preserved g c =
    let joined : c.loop-first.rest.now ≡ c.in-Some.first.now ∷ c.in-Some.behind.now = search rules in
    next_piece _ _ (codes " " ++ decimal c.in-Some.first.now) (spaced (decimals c.in-Some.behind.now))
    (spaced (decimals c.loop-first.rest.now)) _
    c.in_ok-put_labelled.ensures (ap (λ ns. spaced (decimals ns)) joined) c.loop-first.invariant

pub returns-in_err-put_labelled : goal.returns-in_err-put_labelled
returns-in_err-put_labelled g c =
    let joined : c.loop-first.rest.now ≡ c.in-Some.first.now ∷ c.in-Some.behind.now = search rules in
    lacks_piece g.P.Page.room c.from_residual.result (g.P.Page.written c.loop-first.page)
    (codes " " ++ decimal c.in-Some.first.now) (spaced (decimals c.in-Some.behind.now))
    (spaced (decimals c.loop-first.rest.now)) (g.P.Page.written c.args.page.now) (spaced (decimals c.args.numbers.now))
    (g.P.Page.written c.put_labelled.new.page) (search rules)
    c.in_err-put_labelled.ensures (ap (λ ns. spaced (decimals ns)) joined) c.loop-first.invariant
