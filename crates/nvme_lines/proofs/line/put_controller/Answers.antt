use Rattle.std.proofs.Common.{◌∙◌, ◌++◌, ap, codes, false, subst}
use Rattle.std.specs.Fmt.{digits}
use Rattle.script_text.specs.Pages.{Adds}
use Rattle.script_text.proofs.PageLemmas.{puts_behind}
use Rattle.nvme_lines.specs.LineTexts.{controller_line, raw_words, spaced}
use Rattle.nvme_lines.proofs.Parts.{after, controller_front, controller-parts}
use Rattle.nvme_lines.proofs.line.put_controller.Goals as goal

pub returns : goal.returns
returns g c =
    let old = g.P.Page.written c.args.page.now in
    let k = c.args.controller.now in
    let front = (controller_front k.cntlid ++ codes " host 0x") ++ digits 16 false k.host in
    let named = c.in_ok-put_keyword.ensures ∙ ap (λ n. old ++ controller_front n) c.from.ensures in
    let host = after old _ _ (controller_front k.cntlid) (codes " host 0x") named c.in_ok-put_str.ensures in
    let put = after old _ _ (controller_front k.cntlid ++ codes " host 0x")
    (digits 16 false k.host) host c.in_ok-put_wide_hex.ensures in
    puts_behind g.P.Page.room c.put_str-2.result old (g.P.Page.written c.put_wide_hex.new.page) front
    (spaced (raw_words k.raw)) (controller_line k.cntlid k.host k.raw) (g.P.Page.written c.put_str-2.new.self)
    put (controller-parts k.cntlid k.host k.raw)
    (subst (λ x. Adds g.P.Page.room c.put_str-2.result (g.P.Page.written c.put_wide_hex.new.page) x
    (g.P.Page.written c.put_str-2.new.self)) c.raw_text.ensures c.put_str-2.ensures)
