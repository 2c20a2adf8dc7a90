use Rattle.std.proofs.Common.{◌≡◌, length, take}
use Rattle.nvme_ns.specs.Attached.{TellsPairs}
use Rattle.nvme_ns.proofs.pairs.pair_table.Given as goal

abbrev pub invariant-loop-pair : goal.invariant-loop-pair
invariant-loop-pair l = record {
  long : length l.table ≡ 128;
  tells : TellsPairs l.table (take l.pair-index l.attachments);
}
