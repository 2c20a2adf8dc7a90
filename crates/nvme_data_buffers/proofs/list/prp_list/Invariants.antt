use Rattle.std.proofs.Common.{◌≡◌, ◌-◌, ◌*◌, ◌++◌, replicate}
use Rattle.nvme_data_buffers.specs.Buffers.{first_listed, page_entries}
use Rattle.nvme_data_buffers.proofs.list.prp_list.Given as goal

-- the entries so far, and zeros
abbrev pub invariant-loop-index : goal.invariant-loop-index
invariant-loop-index l =
    record { bytes : l.bytes ≡ page_entries first_listed l.index ++ replicate (248 - 8 * l.index) 0 }
