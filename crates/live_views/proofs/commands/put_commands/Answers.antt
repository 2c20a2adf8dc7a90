use Rattle.std.proofs.Common.{◌≡◌, ◌++◌, ◌+◌, ◌∷◌, ◌∙◌, length, ap, rules, arith}
use Rattle.live_views.specs.Showing.{command_text, commands_text}
use Rattle.script_text.proofs.PageLemmas.{lacks_piece, next_piece}
use Rattle.live_views.proofs.commands.put_commands.Goals as goal

pub loop-command-preserved : goal.loop-command-preserved
loop-command-preserved g c =
    let command = c.in-Some.command.now in
    let behind = c.in-Some.behind.now in
    let place = c.loop-command.place in
    let joined : c.loop-command.rest.now ≡ command ∷ behind = search rules in
    let long = ap length joined in
    let few = c.loop-command.invariant.few in
    let next : c.saturating_add-place.result ≡ place + 1 = omega (arith, c.saturating_add-place.ensures, few, long) in
    record {
      wrote = ap (λ i. g.P.Page.written c.put_command.new.page ++ commands_text i behind) next
          ∙ next_piece (g.P.Page.written c.loop-command.page)
          (g.P.Page.written c.put_command.new.page) (command_text place command) (commands_text (place + 1) behind)
          (commands_text place c.loop-command.rest.now) _
          c.in_ok-put_command.ensures (ap (commands_text place) joined) c.loop-command.invariant.wrote;
      few = omega (arith, next, few, long);
    }

pub returns-in_err-put_command : goal.returns-in_err-put_command
returns-in_err-put_command g c =
    let command = c.in-Some.command.now in
    let behind = c.in-Some.behind.now in
    let place = c.loop-command.place in
    let joined : c.loop-command.rest.now ≡ command ∷ behind = search rules in
    lacks_piece g.P.Page.room c.from_residual.result (g.P.Page.written c.loop-command.page) (command_text place command)
    (commands_text (place + 1) behind) (commands_text place c.loop-command.rest.now) (g.P.Page.written c.args.page.now)
    (commands_text 0 c.args.commands.now) (g.P.Page.written c.put_command.new.page) (search rules)
    c.in_err-put_command.ensures (ap (commands_text place) joined) c.loop-command.invariant.wrote
