use Rattle.std.proofs.Common.{rules, sym, ap, ◌++◌, ◌∙◌}
use Rattle.std.specs.Prelude.{codes}
use Rattle.nvme_transcript.proofs.ShortLemmas.{shown_by_digits, four}
use Rattle.nvme_transcript.proofs.short.put_digits.Goals as goal

pub returns-clause-bytes : goal.returns-clause-bytes
returns-clause-bytes c = λ is.
    four c.args.text.now.bytes c.push_str.new.self.bytes c.push_str-2.new.self.bytes c.push_str-3.new.self.bytes
    c.push_str-4.new.self.bytes
    c.hex_digit.result.now (codes ":") c.hex_digit-2.result.now c.hex_digit-3.result.now
    c.push_str.ensures.bytes c.push_str-2.ensures.bytes c.push_str-3.ensures.bytes c.push_str-4.ensures.bytes
    ∙ ap (λ t. c.args.text.now.bytes ++ t)
    (sym (shown_by_digits c.args.status c.hex_digit.result.now c.hex_digit-2.result.now c.hex_digit-3.result.now
    (search rules) (search rules)
    c.hex_digit.ensures.digit c.hex_digit-2.ensures.digit c.hex_digit-3.ensures.digit))
