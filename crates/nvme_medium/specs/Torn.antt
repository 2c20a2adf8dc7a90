-- A write to a part of a file that failed, for the contract of `RawFile::write_at`.
use Rattle.std.specs.Prelude.{◌≡◌, ℕ, List, length}
use Rattle.nvme_spec.specs.Bytes.{with_bytes}

-- `size` bytes at the offset may be anything, and all others are unchanged
pub record TornPart (offset size : ℕ) (old new : List ℕ) : Type 0 where
  pub left : List ℕ
  pub whole : length left ≡ size
  pub is : new ≡ with_bytes old offset left
