use Rattle.std.proofs.Common.{◌∙◌}
use Rattle.script_text.proofs.LaneLemmas.{high-lanes}
use Rattle.script_text.proofs.hex_text.high_digits.Goals as goal

pub returns : goal.returns
returns c = c.low_digits.ensures ∙ high-lanes 32 c.args.bytes c.fits-bytes.0 c.fits-bytes.1
