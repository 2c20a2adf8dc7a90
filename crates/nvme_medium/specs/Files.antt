-- A medium of a file's whole blocks, as contracts see it.
use Rattle.std.specs.Prelude.{ℕ, List}
use Rattle.nvme_spec.specs.Blocks.{Device}
use Rattle.nvme_medium.specs.Memory.{whole_blocks}
use Rattle.nvme_medium.specs.declared.file.FileMedium.{FileMedium}

-- the file
abbrev pub file_of : {F : Type 0} → FileMedium F → F
file_of m = m.file

-- the whole blocks of the file, and the file's failures
abbrev pub device_over : {F : Type 0} → (F → List ℕ) → (F → ℕ) → FileMedium F → Device
device_over bytes failures m = record { content = whole_blocks (bytes m.file); failures = failures m.file }
