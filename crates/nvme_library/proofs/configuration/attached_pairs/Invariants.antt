use Rattle.std.proofs.Common.{◌≡◌, take, map}
use Rattle.nvme_library.specs.Given.{pair_of}
use Rattle.nvme_library.proofs.configuration.attached_pairs.Given as goal

abbrev pub invariant-loop-pair : goal.invariant-loop-pair
invariant-loop-pair l = l.pairs.items ≡ map pair_of (take l.pair-index l.attached)
