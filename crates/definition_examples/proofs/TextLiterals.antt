-- For examples: the definitions that compute texts with literal numbers.
use Rattle.std.specs.Prelude.{⊤}
use Rattle.std.specs.Fmt.{char_count, digits, padded_integral}

unfoldable pub texts_on_literals : ⊤
unfolding digits padded_integral char_count
texts_on_literals = tt
