use Rattle.std.proofs.Common.{◌≡◌, length, take}
use Rattle.nvme_spec.specs.Configuration.{total_blocks}
use Rattle.nvme_spec.specs.World.{laid_out}
use Rattle.nvme_ns.proofs.opening.namespace_table.Given as goal

abbrev pub invariant-loop-namespace : goal.invariant-loop-namespace
invariant-loop-namespace l = record {
  counted : length l.table.items ≡ l.namespace-index;
  laid : l.table.items ≡ laid_out 0 (take l.namespace-index l.namespaces);
  next : l.first ≡ total_blocks (take l.namespace-index l.namespaces);
}
