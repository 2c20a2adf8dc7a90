use Rattle.nvme_exec.specs.Carrying.{CanExecute}
use Rattle.nvme_bench.proofs.transfers.executions.Given as goal

abbrev pub invariant-loop : goal.invariant-loop
invariant-loop g l = CanExecute l.bench.spaces (g.M.Medium.size l.bench.medium) 1
