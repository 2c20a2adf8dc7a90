use Rattle.std.proofs.Common.{◌/◌, ◌%◌, ◌∷◌, [], false, subst, rules, arith}
use Rattle.std.specs.Fmt.{digit_glyph, digits}
use Rattle.script_text.specs.Pages.{Adds}
use Rattle.script_text.proofs.HexNumberLemmas.{digits_by_steps}
use Rattle.script_text.proofs.PageLemmas.{lacks_front, puts_behind}
use Rattle.script_text.proofs.hex_number.+put_wide_hex.Goals as goal

pub returns-in_err-put_wide_hex : goal.returns-in_err-put_wide_hex
returns-in_err-put_wide_hex g t c =
    let number = c.args.number in
    lacks_front g.P.Page.room c.from_residual.result (g.P.Page.written c.args.page.now) (digits 16 false (number / 16))
    (digit_glyph false (number % 16) ∷ []) (digits 16 false number) (g.P.Page.written c.put_wide_hex.new.page)
    (search rules)
    (digits_by_steps number (omega arith) (omega arith)) c.in_err-put_wide_hex.ensures

pub returns : goal.returns
returns g t c =
    let number = c.args.number in
    puts_behind g.P.Page.room c.put_str.result (g.P.Page.written c.args.page.now)
    (g.P.Page.written c.put_wide_hex.new.page) (digits 16 false (number / 16)) (digit_glyph false (number % 16) ∷ [])
    (digits 16 false number) (g.P.Page.written c.put_str.new.self)
    c.in_ok-put_wide_hex.ensures (digits_by_steps number (omega arith) (omega arith))
    (subst (λ x. Adds g.P.Page.room c.put_str.result (g.P.Page.written c.put_wide_hex.new.page) x
    (g.P.Page.written c.put_str.new.self)) c.digit_text.ensures c.put_str.ensures)
