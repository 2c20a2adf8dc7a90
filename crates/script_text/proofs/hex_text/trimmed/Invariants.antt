use Rattle.std.proofs.Common.{◌≡◌, length}
use Rattle.script_text.specs.HexText.{without_trailing_zeros}
use Rattle.script_text.proofs.hex_text.trimmed.Given as goal

abbrev pub invariant-loop-last : goal.invariant-loop-last
invariant-loop-last l = without_trailing_zeros l.rest ≡ without_trailing_zeros l.bytes

abbrev pub decreases-loop-last : goal.decreases-loop-last
decreases-loop-last l = length l.rest
