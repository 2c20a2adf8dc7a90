use Rattle.std.proofs.Common.{◌≡◌, ◌*◌, ◌&&◌, length, nat_lt}
use Rattle.nvme_spec.specs.Bytes.{with_bytes}
use Rattle.nvme_spec.specs.World.{is_attached}
use Rattle.nvme_admin.proofs.Structures.{spelled, below}
use Rattle.nvme_admin.proofs.identify.fill_list.Given as goal

abbrev pub invariant-loop-n : goal.invariant-loop-n
invariant-loop-n l = record {
  so_far : l.structure
      ≡ with_bytes l.fn.structure 0 (spelled (below (λ n. nat_lt l.nsid n && is_attached l.spaces l.cntlid n) l.n));
  at : l.at ≡ 4 * length (below (λ n. nat_lt l.nsid n && is_attached l.spaces l.cntlid n) l.n);
}
