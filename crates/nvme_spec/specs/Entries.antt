-- Queue entries as bytes, one field after the other, for examples and for the definitions of controllers (Base
-- Specification: Common Command Format, Completion Queue Entry; NVM Command Set Specification: Read, Write).
-- `Completion` and `Submission` of `nvme_wire` define completions, and entries of any fields.
use Rattle.std.specs.Prelude.{ℕ, ◌-◌, List, ◌++◌, replicate}
use Rattle.std.specs.Int.{w32, w64, to_le_bytes}
pub use Rattle.nvme_wire.specs.Completion.{Completion, completion_entry}

-- a command, by its first double word, on one or more blocks from logical block `first`; all else is 0
unfoldable pub transfer_entry : ℕ → ℕ → ℕ → ℕ → List ℕ
transfer_entry cdw0 nsid first blocks =
    to_le_bytes w32 cdw0 ++ (to_le_bytes w32 nsid ++ (replicate 32 0
    ++ (to_le_bytes w64 first ++ (to_le_bytes w32 (blocks - 1) ++ replicate 12 0))))

-- a command, by its first double word, its namespace, PRP entry 1, and double words 10 and 11; other fields are 0
unfoldable pub command_entry : ℕ → ℕ → ℕ → ℕ → ℕ → List ℕ
command_entry cdw0 nsid prp1 cdw10 cdw11 =
    to_le_bytes w32 cdw0 ++ (to_le_bytes w32 nsid ++ (replicate 16 0
    ++ (to_le_bytes w64 prp1 ++ (replicate 8 0
    ++ (to_le_bytes w32 cdw10 ++ (to_le_bytes w32 cdw11 ++ replicate 16 0))))))
