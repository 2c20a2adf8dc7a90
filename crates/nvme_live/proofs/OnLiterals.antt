-- For examples: the definitions that compute texts with literal numbers.
use Rattle.std.specs.Prelude.{⊤}
use Rattle.std.specs.Fmt.{digits}
use Rattle.nvme_program.specs.RuleTexts.{rule_text}

unfoldable pub texts_on_literals : ⊤
unfolding digits rule_text
texts_on_literals = tt
