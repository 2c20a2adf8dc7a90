use Rattle.std.proofs.Common.{◌≡◌, ◌==◌, take}
use Rattle.std.specs.List.{list_all}
use Rattle.script_text.proofs.hex_text.are_zeros.Given as goal

abbrev pub invariant-loop-i : goal.invariant-loop-i
invariant-loop-i g l = l.all ≡ list_all (λ byte. byte == 0) (take l.i l.bytes)
