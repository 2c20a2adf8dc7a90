-- What a driver reads of Identify Namespace (NVM Command Set Specification: Identify Namespace data structure, that is
-- NSZE, FLBAS, DPS and the LBA formats with MS and LBADS).
use Rattle.std.specs.Prelude.{ℕ, ◌+◌, ◌*◌, ◌==◌, not, ◌||◌, Bool, if◌then◌else◌, List, Result, Ok, Err}
use Rattle.std.specs.List.{slice_index}
use Rattle.nvme_wire.specs.Entry.{word_at, qword_at, bits}
use Rattle.nvme_device.specs.declared.namespace.NamespaceFacts.{NamespaceFacts}
use Rattle.nvme_device.specs.declared.namespace.NamespaceFault.{NamespaceFault}
use Rattle.nvme_device.specs.declared.namespace.NamespaceFault.TheVariants.{NotThere, BlockSize, Metadata}

-- the number of its LBA format: bits 3:0 of FLBAS, and above them bits 6:5
abbrev pub format_index : ℕ → ℕ
format_index flbas = bits flbas 3 0 + 16 * bits flbas 6 5

-- where that format is
abbrev pub format_place : List ℕ → ℕ
format_place bytes = 128 + 4 * format_index (slice_index bytes 26)

-- MS is the size of the metadata; bits 2:0 of DPS are the protection information
abbrev pub has_metadata : ℕ → ℕ → Bool
has_metadata ms dps = not (ms == 0) || not (bits dps 2 0 == 0)

-- Its number of blocks, if it has blocks, of 2 ^ 9 bytes (LBADS), without metadata
abbrev pub judged_namespace : List ℕ → Result NamespaceFacts NamespaceFault
judged_namespace bytes =
    if qword_at bytes 0 == 0 then Err NotThere
    else (if not (slice_index bytes (format_place bytes + 2) == 9) then Err BlockSize
    else (if has_metadata (word_at bytes (format_place bytes)) (slice_index bytes 29) then Err Metadata
    else Ok (record { blocks = qword_at bytes 0 })))
