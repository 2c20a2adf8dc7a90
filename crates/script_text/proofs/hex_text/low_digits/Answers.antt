use Rattle.script_text.proofs.LaneLemmas.{low-lanes}
use Rattle.script_text.proofs.hex_text.low_digits.Goals as goal

pub returns : goal.returns
returns c = low-lanes 32 c.args.bytes c.fits-bytes.0
