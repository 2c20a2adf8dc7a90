use Rattle.std.proofs.Common.{◌≡◌, length}
use Rattle.nvme_grammar.specs.Near.{is_near as near}
use Rattle.nvme_grammar.proofs.near.is_near.Given as goal

abbrev pub invariant-loop-a : goal.invariant-loop-a
invariant-loop-a l = near l.left l.right ≡ near l.word l.other

abbrev pub decreases-loop-a : goal.decreases-loop-a
decreases-loop-a l = length l.left
