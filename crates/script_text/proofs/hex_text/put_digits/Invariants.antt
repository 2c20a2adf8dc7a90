use Rattle.std.proofs.Common.{◌≡◌, ◌++◌, length}
use Rattle.std.specs.List.{flat_map}
use Rattle.script_text.specs.HexText.{hex_pair}
use Rattle.script_text.proofs.hex_text.put_digits.Given as goal

abbrev pub invariant-loop-chunk : goal.invariant-loop-chunk
invariant-loop-chunk g l = g.P.Page.written l.page ++ flat_map hex_pair l.rest ≡ g.P.Page.written l.initial.page
    ++ flat_map hex_pair l.initial.rest

abbrev pub decreases-loop-chunk : goal.decreases-loop-chunk
decreases-loop-chunk g l = length l.rest
