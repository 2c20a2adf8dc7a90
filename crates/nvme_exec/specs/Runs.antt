-- Blocks of a transfer that are contiguous in host memory, for the contract of `run_at`.
use Rattle.std.specs.Prelude.{◌≡◌, ◌+◌, ◌*◌, ◌%◌, ◌≤◌, ℕ, List, slice_range}
use Rattle.std.specs.List.{range_with_len}
use Rattle.nvme_spec.specs.declared.pointer.Piece.{Piece}
use Rattle.nvme_spec.specs.Memory.{LiesInWindow}
use Rattle.nvme_spec.specs.Transfers.{addresses}

-- block j of a transfer and blocks after it, `most` in all at most, are the bytes of this piece of the window
pub record IsRun (ps : List Piece) (j most : ℕ) (run : Piece) : Type 0 where
  pub blocks : run.len % 512 ≡ 0
  pub some : 512 ≤ run.len
  pub few : run.len ≤ 512 * most
  pub lies : LiesInWindow run
  pub places : slice_range (addresses ps) (512 * j) (512 * j + run.len) ≡ range_with_len run.address run.len
