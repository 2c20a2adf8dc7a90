use Rattle.std.proofs.Common.{◌≡◌, ◌+◌, [], take, drop}
use Rattle.nvme_spec.specs.Configuration.{total_blocks}
use Rattle.nvme_ns.specs.declared.refusal.SetupLine.TheVariants.{Namespace}
use Rattle.nvme_ns.specs.Refusals.{first_line, room_breaks}
use Rattle.nvme_ns.proofs.refusal.does_not_fit.Given as goal

-- the remaining lines decide, over the blocks that those before have left
abbrev pub invariant-loop-i : goal.invariant-loop-i
invariant-loop-i l = record {
  decides : first_line Namespace (room_breaks l.medium_blocks) (take l.i l.namespaces) (drop l.i l.namespaces)
      ≡ first_line Namespace (room_breaks l.medium_blocks) [] l.namespaces;
  room : l.room + total_blocks (take l.i l.namespaces) ≡ l.medium_blocks;
}
