-- What a driver reads of Identify Controller (Base Specification: Identify Controller data structure, that is MDTS,
-- CNTLID, CNTRLTYPE, SQES, CQES, NN, ONCS and VWC).
use Rattle.std.specs.Prelude.{ℕ, nat_lt, nat_le, Bool, not, ◌&&◌, ◌||◌, if◌then◌else◌, List, Result, Ok, Err}
use Rattle.std.specs.List.{slice_index}
use Rattle.nvme_wire.specs.Entry.{word_at, dword_at, bits}
use Rattle.nvme_device.specs.declared.controller.ControllerFacts.{ControllerFacts}
use Rattle.nvme_device.specs.declared.controller.ControllerFault.{ControllerFault}
use Rattle.nvme_device.specs.declared.controller.ControllerFault.TheVariants.{NotIo, EntrySize}

-- a size between the required one, bits 3:0, and the largest one, bits 7:4
abbrev pub can_have : ℕ → ℕ → Bool
can_have sizes size = nat_le (bits sizes 3 0) size && nat_le size (bits sizes 7 4)

abbrev pub controller_facts : List ℕ → ControllerFacts
controller_facts bytes = record {
  nn = dword_at bytes 516;
  cntlid = word_at bytes 78;
  oncs = word_at bytes 520;
  mdts = slice_index bytes 77;
  vwc = slice_index bytes 525;
}

-- CNTRLTYPE is 0, not reported, or 1, an I/O controller; entries of 2 ^ 6 and 2 ^ 4 bytes are possible
abbrev pub judged_controller : List ℕ → Result ControllerFacts ControllerFault
judged_controller bytes =
    if nat_lt 1 (slice_index bytes 111) then Err NotIo
    else (if not (can_have (slice_index bytes 512) 6) || not (can_have (slice_index bytes 513) 4) then Err EntrySize
    else Ok (controller_facts bytes))
