-- For examples: the definitions that compute the number or data of a literal word.
use Rattle.std.specs.Prelude.{⊤}
use Rattle.hex.proofs.OnLiterals.{hex_on_literals}
use Rattle.script_text.specs.Numbers.{number_at}
use Rattle.script_text.specs.Data.{bytes_at, data_at}

unfoldable pub words_on_literals : ⊤
unfolding number_at bytes_at data_at hex_on_literals
words_on_literals = tt
