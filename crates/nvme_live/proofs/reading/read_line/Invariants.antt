use Rattle.std.proofs.Common.{◌≤◌, vec_len}
use Rattle.nvme_live.proofs.Takings.{SoFar}
use Rattle.nvme_live.proofs.reading.read_line.Given as goal

abbrev pub invariant-loop : goal.invariant-loop
invariant-loop g l = record {
  room : vec_len l.line ≤ 1048577;
  so_far : SoFar (g.R.Read.remaining l.fn.reader) (g.R.Read.remaining l.reader) l.some l.line.items;
}
