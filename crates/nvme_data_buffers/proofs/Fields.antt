-- For the answers of `moving.rt`: the fields of an entry, byte by byte.
use Rattle.std.proofs.Common.{◌≡◌, ◌<◌, ◌%◌, ◌/◌, ◌^◌, ℕ, List, length, sym, ap, ◌∙◌, arith}
use Rattle.std.specs.Prelude.{slice_index}
use Rattle.std.specs.Int.{w32, from_le_bytes}
use Rattle.nvme_wire.specs.Submission.{opcode}
use Rattle.nvme_data_buffers.proofs.Placed.{dword-read}

pub opcode_read : (e : List ℕ) → length e ≡ 64 → slice_index e 0 < 256 → slice_index e 0 ≡ opcode e
unfolding opcode
opcode_read e size small =
    omega (arith, small) ∙ ap (λ xs. from_le_bytes w32 xs / 2 ^ 0 % 2 ^ 8) (sym (dword-read e (omega (arith, size))))
