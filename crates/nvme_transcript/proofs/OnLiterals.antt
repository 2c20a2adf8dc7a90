-- For examples: the definitions that compute lines with literal numbers.
use Rattle.std.specs.Prelude.{⊤}
use Rattle.std.specs.Fmt.{digits}

unfoldable pub lines_on_literals : ⊤
unfolding digits
lines_on_literals = tt
