-- The submission queue entry of a command whose data are in a buffer: what its host has sent, with other PRP entries
-- (Base Specification 2.0, Common Command Format).
use Rattle.std.specs.Prelude.{ℕ, ◌%◌, Bool, false, ◌&&◌, ◌==◌, if◌then◌else◌, List, slice_index, slice_set}
use Rattle.std.specs.Int.{w64, to_le_bytes}
use Rattle.nvme_wire.specs.Submission.{opcode}
use Rattle.nvme_spec.specs.AdminCommands as admin
use Rattle.nvme_spec.specs.Bytes.{with_bytes}
use Rattle.nvme_spec.specs.Commands as io
use Rattle.nvme_data_buffers.specs.Buffers.{prps}
use Rattle.nvme_data_buffers.specs.declared.buffer.DataBuffer.{DataBuffer}
use Rattle.nvme_data_buffers.specs.declared.buffer.Prps.{Prps}

-- the number of bytes that a command moves between host and controller
unfoldable pub moved : Bool → List ℕ → ℕ
moved is_admin e =
    if is_admin then admin.data_length_of (admin.command_of (opcode e)) e
    else io.data_length_of (io.command_of (opcode e)) e

-- PSDT, bits 7:6 of byte 1, is 0, and the data pointer is these entries. No other byte changes
unfoldable pub with_entries : List ℕ → Prps → List ℕ
with_entries e p =
    with_bytes (with_bytes (slice_set e 1 (slice_index e 1 % 64)) 24 (to_le_bytes w64 p.first)) 32
    (to_le_bytes w64 p.second)

-- the entry of a command with data of this size
abbrev pub placed : Bool → List ℕ → DataBuffer → ℕ → List ℕ
placed is_admin e b size = with_entries e (prps b size (moved is_admin e))

-- a Read of blocks of exactly this size: if it succeeds, all bytes of its data are new
unfoldable pub is_filled : Bool → List ℕ → ℕ → Bool
is_filled is_admin e size =
    if is_admin then false else opcode e == 2 && moved is_admin e == size
