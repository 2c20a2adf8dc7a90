use Rattle.std.proofs.lemmas.Str.{IsUtf8-from_ascii}
use Rattle.script_text.proofs.HexTextLemmas.{pairs-ascii}
use Rattle.script_text.proofs.hex_text.text_of_chunk.Goals as goal

pub from_utf8_unchecked-requires : goal.from_utf8_unchecked-requires
from_utf8_unchecked-requires c =
    rw c.encode.ensures (IsUtf8-from_ascii _ (pairs-ascii c.args.chunk.now (λ i. record { fits = c.fits-chunk i })))
