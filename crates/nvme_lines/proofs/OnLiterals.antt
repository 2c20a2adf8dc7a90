-- For examples: the definitions that compute the texts of literal lines.
use Rattle.std.specs.Prelude.{⊤}
use Rattle.std.specs.Fmt.{digits}

unfoldable pub texts_on_literals : ⊤
unfolding digits
texts_on_literals = tt
