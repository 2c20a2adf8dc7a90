use Rattle.std.proofs.Common.{◌≡◌, ◌++◌, ap, codes, subst, sym}
use Rattle.nvme_grammar.specs.FaultTexts.{meant_early, nearest_text, why_text}
use Rattle.nvme_grammar.specs.declared.fault.Why.TheVariants.{TooEarly}
use Rattle.script_text.specs.Pages.{Adds}
use Rattle.script_text.proofs.PageLemmas.{puts_behind}
use Rattle.nvme_grammar.proofs.fault_text.put_too_early.Goals as goal

pub returns : goal.returns
returns g c =
    let keyword = c.args.keyword in
    let name = c.text.result.now in
    let needs = codes " needs a 'start' before it" in
    let nearest = nearest_text (meant_early keyword) in
    let parts : why_text (TooEarly keyword) ≡ (name ++ needs) ++ nearest =
    ap (λ t. (t ++ needs) ++ nearest) (sym c.text.ensures) in
    puts_behind g.P.Page.room c.put_nearest.result (g.P.Page.written c.args.page.now)
    (g.P.Page.written c.put_both.new.page) (name ++ needs) nearest (why_text (TooEarly keyword))
    (g.P.Page.written c.put_nearest.new.page)
    c.in_ok-put_both.ensures parts
    (subst (λ k. Adds g.P.Page.room c.put_nearest.result (g.P.Page.written c.put_both.new.page) (nearest_text k)
    (g.P.Page.written c.put_nearest.new.page)) c.meant_early.ensures c.put_nearest.ensures)
