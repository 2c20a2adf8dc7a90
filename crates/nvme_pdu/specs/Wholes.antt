-- A PDU as a whole, and its parts.
use Rattle.std.specs.Prelude.{◌≡◌, ℕ, ◌+◌, ◌-◌, List, length, ◌++◌, replicate, take, slice_range}
use Rattle.nvme_pdu.specs.declared.layout.PduLayout.{PduLayout}
use Rattle.nvme_pdu.specs.Headers.{digest_bytes}
use Rattle.nvme_pdu.specs.Layouts.{IsOrdered}

pub record Parts : Type 0 where
  pub header : List ℕ
  pub header_digest : List ℕ
  pub bytes : List ℕ
  pub data_digest : List ℕ

-- zeros fill what is between a header with its digest and the data
abbrev pub padding : PduLayout → ℕ
padding l = l.data_offset - (l.header + digest_bytes l.header_digest)

abbrev pub whole_of : PduLayout → Parts → List ℕ
whole_of l p = p.header ++ (p.header_digest ++ (replicate (padding l) 0 ++ (p.bytes ++ p.data_digest)))

abbrev pub parts_of : PduLayout → List ℕ → Parts
parts_of l unit = record {
  header = take l.header unit;
  header_digest = slice_range unit l.header (l.header + digest_bytes l.header_digest);
  bytes = slice_range unit l.data_offset (l.data_offset + l.data_length);
  data_digest = slice_range unit (l.data_offset + l.data_length) l.length;
}

-- parts of the lengths that a layout has
pub record Fit (l : PduLayout) (p : Parts) : Type 0 where
  pub ordered : IsOrdered l
  pub header : length p.header ≡ l.header
  pub header_digest : length p.header_digest ≡ digest_bytes l.header_digest
  pub bytes : length p.bytes ≡ l.data_length
  pub data_digest : length p.data_digest ≡ digest_bytes l.data_digest
