use Rattle.std.proofs.Common.{◌≡◌, take}
use Rattle.nvme_ns.proofs.opening.attachment_table.Given as goal

abbrev pub invariant-loop-pair : goal.invariant-loop-pair
invariant-loop-pair l = l.table.items ≡ take l.pair-index l.attached
