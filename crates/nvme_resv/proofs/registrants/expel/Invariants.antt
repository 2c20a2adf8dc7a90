use Rattle.std.proofs.Common.{◌≡◌, ◌≤◌, length, take, map, filter}
use Rattle.nvme_resv.specs.Leaving.{leaves_test}
use Rattle.nvme_resv.proofs.registrants.expel.Given as goal

abbrev pub invariant-loop-r : goal.invariant-loop-r
invariant-loop-r l = record {
  so_far : l.removed.items ≡ map (λ r. r.host) (filter (leaves_test l.key l.spared) (take l.r-index l.r-items));
  few : length l.removed.items ≤ l.r-index;
}
