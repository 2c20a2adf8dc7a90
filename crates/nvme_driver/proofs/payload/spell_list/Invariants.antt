use Rattle.std.proofs.Common.{◌≡◌, ◌-◌, ◌*◌, ◌++◌, length, take, replicate}
use Rattle.std.specs.List.{flat_map}
use Rattle.std.specs.Int.{w16, to_le_bytes}
use Rattle.nvme_driver.proofs.payload.spell_list.Given as goal

-- the count, the identifiers so far, and zeros
abbrev pub invariant-loop-index : goal.invariant-loop-index
invariant-loop-index l =
    record {
      page : l.page ≡ (to_le_bytes w16 (length l.fn.list) ++ flat_map (to_le_bytes w16) (take l.index l.fn.list))
          ++ replicate (4094 - 2 * l.index) 0;
    }
