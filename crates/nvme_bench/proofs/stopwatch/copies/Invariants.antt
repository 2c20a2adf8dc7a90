use Rattle.std.proofs.Common.{◌≡◌, length}
use Rattle.nvme_bench.proofs.stopwatch.copies.Given as goal

abbrev pub invariant-loop-i : goal.invariant-loop-i
invariant-loop-i g l = length l.target.items ≡ 131072
