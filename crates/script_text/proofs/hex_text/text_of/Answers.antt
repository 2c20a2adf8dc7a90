use Rattle.std.proofs.Common.{◌≡◌, ◌*◌, length, take, ap, ◌∙◌}
use Rattle.std.specs.List.{flat_map}
use Rattle.std.proofs.lemmas.Str.{IsUtf8-from_ascii}
use Rattle.script_text.specs.HexText.{hex_pair}
use Rattle.script_text.proofs.HexTextLemmas.{pairs-take, pairs-ascii}
use Rattle.script_text.proofs.hex_text.text_of.Goals as goal

pub from_utf8_unchecked-requires : goal.from_utf8_unchecked-requires
from_utf8_unchecked-requires c =
    let rest = c.args.rest.now in
    let shown : take (2 * length rest) c.encode.new.digits ≡ flat_map hex_pair rest =
    ap (take (2 * length rest)) c.encode.ensures ∙ pairs-take (length rest) c.padded.result
    ∙ ap (flat_map hex_pair) c.padded.ensures in
    rw shown (IsUtf8-from_ascii _ (pairs-ascii rest c.type_inv.rest))

pub returns : goal.returns
returns c =
    let rest = c.args.rest.now in
    c.from_utf8_unchecked.ensures
    ∙ ap (take (2 * length rest)) c.encode.ensures ∙ pairs-take (length rest) c.padded.result
    ∙ ap (flat_map hex_pair) c.padded.ensures
