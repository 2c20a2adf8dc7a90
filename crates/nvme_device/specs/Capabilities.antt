-- What a driver reads of Controller Capabilities, and what it needs of them (Base Specification: Controller
-- Capabilities, that is MQES, TO, DSTRD, CSS and MPSMIN).
use Rattle.std.specs.Prelude.{ℕ, ◌+◌, ◌-◌, ◌*◌, ◌^◌, ◌==◌, nat_lt, if◌then◌else◌, max, Result, Ok, Err}
use Rattle.nvme_wire.specs.Entry.{bits}
use Rattle.nvme_device.specs.declared.capabilities.Capabilities.{Capabilities}
use Rattle.nvme_device.specs.declared.capabilities.CapabilityFault.{CapabilityFault}
use Rattle.nvme_device.specs.declared.capabilities.CapabilityFault.TheVariants.{
  Removed,
  QueuesTooShort,
  NoNvmCommands,
  PageSize,
}

-- a register of 64 bits of a device that is gone
abbrev pub all_ones : ℕ
all_ones = 2 ^ 64 - 1

-- MQES, one less than the most entries of a queue; the driver's completion queues have 32
abbrev pub longest_queue : ℕ → ℕ
longest_queue cap = bits cap 15 0 + 1

abbrev pub needed_entries : ℕ
needed_entries = 32

-- CSS, whose bit 37 is the NVM command set
abbrev pub nvm_commands : ℕ → ℕ
nvm_commands cap = bits cap 37 37

-- MPSMIN: the smallest memory page has 2 ^ (12 + MPSMIN) bytes
abbrev pub smallest_page : ℕ → ℕ
smallest_page cap = bits cap 51 48

-- TO, in units of 500 ms, and at least one; DSTRD: doorbells are 2 ^ (2 + DSTRD) bytes apart
abbrev pub capabilities_of : ℕ → Capabilities
capabilities_of cap =
    record { timeout_ms = 500 * max (bits cap 31 24) 1; stride = 4 * 2 ^ bits cap 35 32 }

-- what the driver reads, or the first fault
abbrev pub judged_capabilities : ℕ → Result Capabilities CapabilityFault
judged_capabilities cap =
    if cap == all_ones then Err Removed
    else (if nat_lt (longest_queue cap) needed_entries then Err QueuesTooShort
    else (if nvm_commands cap == 0 then Err NoNvmCommands
    else (if smallest_page cap == 0 then Ok (capabilities_of cap) else Err PageSize)))
