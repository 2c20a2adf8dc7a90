use Rattle.std.proofs.Common.{◌≡◌, ◌++◌, ◌∙◌, ap, append_assoc, codes, decimal, sym}
use Rattle.nvme_live.specs.Standings.{reason_text, refused_text}
use Rattle.script_text.proofs.PageLemmas.{puts_behind}
use Rattle.nvme_live.proofs.session.RefusedTextSpell.spell.Goals as goal

pub returns : goal.returns
returns g c =
    let old = g.P.Page.written c.args.page.now in
    let text = c.args.self.now in
    let line = codes "refused line " ++ decimal text.number in
    let name = c.config_fault_name.result.now in
    let front = (line ++ codes ": ") ++ name in
    let put : g.P.Page.written c.put_both.new.page ≡ old ++ front =
    c.in_ok-put_both.ensures ∙ ap (λ t. t ++ (codes ": " ++ name)) c.in_ok-put_labelled.ensures
    ∙ append_assoc old line (codes ": " ++ name) ∙ ap (λ t. old ++ t) (sym (append_assoc line (codes ": ") name)) in
    puts_behind g.P.Page.room c.put_reason.result old (g.P.Page.written c.put_both.new.page) front
    (reason_text text.reason) (refused_text text.number text.fault text.reason) (g.P.Page.written c.put_reason.new.page)
    put (ap (λ t. ((line ++ codes ": ") ++ t) ++ reason_text text.reason) (sym c.config_fault_name.ensures))
    c.put_reason.ensures
