use Rattle.std.specs.Fmt.{digits, padded_integral, char_count}
use Rattle.std.proofs.Common.{refl}
use Rattle.definition_examples.proofs.wire_status_texts.wire_status_text_example.Goals as goal

pub returns : goal.returns
unfolding digits padded_integral char_count
returns c = record { conflict = refl; zero = refl; greatest = refl; wide = refl }
