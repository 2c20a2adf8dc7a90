use Rattle.nvme_spec.proofs.Worlds.{known-opening}
use Rattle.controller_tests.proofs.tests.exec.bench.bench_over.Goals as goal

pub returns-clause-known : goal.returns-clause-known
returns-clause-known g c = rw c.in_ok-spaces.ensures.opened (known-opening _)
