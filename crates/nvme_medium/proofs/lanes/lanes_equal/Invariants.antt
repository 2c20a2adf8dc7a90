use Rattle.std.proofs.Common.{◌≡◌, ◌*◌, take}
use Rattle.nvme_medium.proofs.lanes.lanes_equal.Given as goal

abbrev pub invariant-loop-k : goal.invariant-loop-k
invariant-loop-k l = record { same : take (32 * l.k) l.a ≡ take (32 * l.k) l.b }

abbrev pub invariant-loop-i : goal.invariant-loop-i
invariant-loop-i l = record { same : take l.i l.a ≡ take l.i l.b }
