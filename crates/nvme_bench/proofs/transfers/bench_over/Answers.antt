use Rattle.std.proofs.Common.{rules}
use Rattle.nvme_spec.proofs.Worlds.{known-opening}
use Rattle.nvme_bench.proofs.transfers.bench_over.Goals as goal

pub returns : goal.returns
returns g c = record {
  ready =
      record { configured = search rules; within = search rules; known = rw c.in-Ok.ensures.opened (known-opening _) };
}
