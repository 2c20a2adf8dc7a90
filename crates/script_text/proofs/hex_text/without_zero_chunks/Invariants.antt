use Rattle.std.proofs.Common.{◌≡◌, length}
use Rattle.script_text.specs.HexText.{without_trailing_zeros}
use Rattle.script_text.proofs.hex_text.without_zero_chunks.Given as goal

abbrev pub invariant-loop-front : goal.invariant-loop-front
invariant-loop-front g l = without_trailing_zeros l.rest ≡ without_trailing_zeros l.bytes

abbrev pub decreases-loop-front : goal.decreases-loop-front
decreases-loop-front g l = length l.rest
