-- Bytes that a C program provides and gets back.
use Rattle.std.specs.Prelude.{ℕ, Option, Some, None}
use Rattle.std.specs.Borrow.{full_share, u8}
use Rattle.std.specs.Ptr.{lies_at}
use Rattle.std.specs.Vec.{vec_len, vec_ptr}
use Rattle.std.proofs.Common.{lt_of_le_of_lt}
use base.Fml.{Fml, ftrue}
use denote.RawPtr.{Ptr}
use denote.Array.{Array}
use Rattle.std_alloc.specs.declared.vec.Vec.{Vec}
use Rattle.std_alloc.specs.declared.vec.lodged.Lodged.{Lodged}
use Rattle.nvme_lent.specs.declared.bytes.LentBytes.{LentBytes}

-- the bytes of a buffer: address, length and values
abbrev pub as_lent : Vec ℕ Lodged → LentBytes
as_lent buffer = record {
  at = vec_ptr buffer;
  len = vec_len buffer;
  items = buffer.items;
  small = lt_of_le_of_lt buffer.ok.1 buffer.small;
}

-- the right to them, if there are any: they are at this address, and nobody else reads or writes them
abbrev pub owned : Option LentBytes → Fml
owned None = ftrue
owned (Some bytes) = lies_at (Array u8 bytes.len) full_share bytes.at bytes.items

-- address and length
abbrev pub extent : LentBytes → Ptr × ℕ
extent bytes = (bytes.at, bytes.len)
