use Rattle.std.proofs.Common.{◌-◌, ◌/◌, ◌%◌, ◌∷◌, [], false, subst, rules, arith}
use Rattle.std.specs.Fmt.{digit_glyph}
use Rattle.script_text.specs.Pages.{Adds, in_hex}
use Rattle.script_text.proofs.HexNumberLemmas.{in_hex_by_steps}
use Rattle.script_text.proofs.PageLemmas.{lacks_front, puts_behind}
use Rattle.script_text.proofs.hex_number.+put_hex_in.Goals as goal

pub returns-in_err-put_hex_in : goal.returns-in_err-put_hex_in
returns-in_err-put_hex_in g t c =
    let width = c.args.width in
    let number = c.args.number in
    lacks_front g.P.Page.room c.from_residual.result (g.P.Page.written c.args.page.now)
    (in_hex (width - 1) (number / 16)) (digit_glyph false (number % 16) ∷ []) (in_hex width number)
    (g.P.Page.written c.put_hex_in.new.page) (search rules)
    (in_hex_by_steps width number (omega arith) (omega arith)) c.in_err-put_hex_in.ensures

pub returns : goal.returns
returns g t c =
    let width = c.args.width in
    let number = c.args.number in
    puts_behind g.P.Page.room c.put_str-2.result (g.P.Page.written c.args.page.now)
    (g.P.Page.written c.put_hex_in.new.page) (in_hex (width - 1) (number / 16)) (digit_glyph false (number % 16) ∷ [])
    (in_hex width number) (g.P.Page.written c.put_str-2.new.self)
    c.in_ok-put_hex_in.ensures (in_hex_by_steps width number (omega arith) (omega arith))
    (subst (λ x. Adds g.P.Page.room c.put_str-2.result (g.P.Page.written c.put_hex_in.new.page) x
    (g.P.Page.written c.put_str-2.new.self)) c.digit_text-2.ensures c.put_str-2.ensures)
