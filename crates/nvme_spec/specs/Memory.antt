-- The memory that a host shares with a controller: a list of bytes, one for each address from 0 (Base Specification:
-- Memory-Based Transport Queue Model).
use Rattle.std.specs.Prelude.{ℕ, ◌+◌, ◌≤◌, List, replicate}
use Rattle.nvme_wire.specs.Entry.{qword_at}
use Rattle.nvme_spec.specs.declared.pointer.Piece.{Piece}

-- its length in bytes
abbrev pub window_size : ℕ
window_size = 4194304

-- a window of zeros. It is not an `abbrev`, so that no proof computes its four million bytes
unfoldable pub zeros : List ℕ
zeros = replicate window_size 0

-- all bytes of a piece are in the window
abbrev pub LiesInWindow : Piece → Type 0
LiesInWindow p = p.address + p.len ≤ window_size

-- the eight bytes at an address, as a little-endian number
unfoldable pub qword : List ℕ → ℕ → ℕ
qword window address = qword_at window address
