use Rattle.std.proofs.Common.{length}
use Rattle.nvme_bench.proofs.text.zero_chunks.Given as goal

abbrev pub decreases-loop-first : goal.decreases-loop-first
decreases-loop-first l = length l.rest
