use Rattle.std.proofs.Common.{◌≡◌, ◌-◌, ◌*◌, ◌++◌, replicate}
use Rattle.nvme_driver.specs.Pointers.{page_entries}
use Rattle.nvme_driver.proofs.page_list.spell.Given as goal

-- the entries so far, and zeros
abbrev pub invariant-loop-index : goal.invariant-loop-index
invariant-loop-index l = record { bytes : l.bytes ≡ page_entries l.first l.index ++ replicate (248 - 8 * l.index) 0 }
