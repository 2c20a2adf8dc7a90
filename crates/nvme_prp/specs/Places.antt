-- The place of a byte among the pieces of a transfer, for the contract of `byte_place`.
use Rattle.std.specs.Prelude.{ℕ, ◌≡◌, ◌<◌, List, length, drop}
use Rattle.std.specs.List.{slice_index_or}
use Rattle.nvme_spec.specs.declared.pointer.Piece.{Piece}
use Rattle.nvme_spec.specs.Transfers.{addresses}

-- Byte `at` is in piece i, after `skip` bytes.
pub record LiesAt (ps : List Piece) (at i skip : ℕ) : Type 0 where
  pub index : i < length ps
  pub skip_fits : (d : Piece) → skip < (slice_index_or ps i d).len
  pub same : drop at (addresses ps) ≡ drop skip (addresses (drop i ps))
