use Rattle.std.proofs.Common.{◌≡◌, ◌++◌, ◌∙◌, ap, append_assoc, codes, decimal, sym}
use Rattle.live_views.specs.Showing.{queue_registers_text, registers_text, state_registers_text}
use Rattle.script_text.proofs.PageLemmas.{puts_behind}
use Rattle.live_views.proofs.controllers.RegistersTextSpell.spell.Goals as goal

pub returns : goal.returns
returns g c =
    let old = g.P.Page.written c.args.page.now in
    let registers = c.args.self.now.controller.now.registers in
    let line = codes "registers " ++ decimal c.from.result in
    let state = state_registers_text registers in
    puts_behind g.P.Page.room c.put_places.result old (g.P.Page.written c.put_state.new.page)
    (line ++ state) (queue_registers_text registers) (registers_text c.args.self.now.cntlid registers)
    (g.P.Page.written c.put_places.new.page)
    (c.in_ok-put_state.ensures ∙ ap (λ t. t ++ state) c.in_ok-put_labelled.ensures ∙ append_assoc old line state)
    (ap (λ n. ((codes "registers " ++ decimal n) ++ state) ++ queue_registers_text registers) (sym c.from.ensures))
    c.put_places.ensures
