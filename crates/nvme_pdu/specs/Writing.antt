-- The headers of the PDUs that a controller sends, and their layouts (NVMe/TCP Transport Specification 1.0, PDU types).
use Rattle.std.specs.Prelude.{
  ℕ,
  ◌+◌,
  ◌-◌,
  ◌*◌,
  ◌/◌,
  ◌^◌,
  min,
  true,
  false,
  ◌&&◌,
  if◌then◌else◌,
  List,
  ◌∷◌,
  ◌++◌,
  replicate,
  nat_lt,
  nat_le,
  Option,
  Some,
  None,
}
use Rattle.std.specs.Int.{w16, w32, to_le_bytes}
use Rattle.nvme_pdu.specs.declared.agreed.Agreed.{Agreed}
use Rattle.nvme_pdu.specs.declared.fatal.Fatal.{Fatal}
use Rattle.nvme_pdu.specs.declared.kind.Kind.{Kind}
use Rattle.nvme_pdu.specs.declared.kind.Kind.TheVariants.{IcResp, C2hTermReq, CapsuleResp, C2hData, R2t}
use Rattle.nvme_pdu.specs.declared.writing.Written.{Written}
use Rattle.nvme_pdu.specs.Headers.{number_of, flags, digest_bytes}
use Rattle.nvme_pdu.specs.Layouts.{without_data}

abbrev pub common : Kind → ℕ → ℕ → ℕ → ℕ → List ℕ
common kind given hlen pdo plen = number_of kind ∷ given ∷ hlen ∷ pdo ∷ to_le_bytes w32 plen

-- ICResp: PFV 0, CPDA 0, DGST, MAXH2CDATA
unfoldable pub ic_response : Agreed → List ℕ
ic_response a =
    common IcResp 0 128 0 128
    ++ (replicate 3 0 ++ (flags a.header_digests a.data_digests ∷ (to_le_bytes w32 131072 ++ replicate 112 0)))

-- a PDU without data, which has these 16 bytes after its common header
abbrev pub plain : Agreed → Kind → List ℕ → Written
plain a kind rest = record {
  bytes = common kind (flags a.header_digests false) 24 0 (24 + digest_bytes a.header_digests) ++ rest;
  layout = without_data kind 24 a.header_digests false;
}

abbrev pub short : Agreed → Kind → Written
short a kind = plain a kind (replicate 16 0)

-- CapsuleResp: the completion queue entry
unfoldable pub response : Agreed → List ℕ → Written
response a entry = plain a CapsuleResp entry

-- R2T: CCCID, TTAG, R2TO 0, R2TL
unfoldable pub ready : Agreed → ℕ → ℕ → ℕ → Written
ready a cid tag n = plain a R2t
    (to_le_bytes w16 cid ++ (to_le_bytes w16 tag ++ (replicate 4 0 ++ (to_le_bytes w32 n ++ replicate 4 0))))

-- PDO of C2HData: the least multiple of the alignment that is not in the header
abbrev pub data_place : Agreed → ℕ
data_place a =
    let unit = 4 * (a.alignment + 1) in
    (24 + digest_bytes a.header_digests + (unit - 1)) / unit * unit

abbrev pub data_plen : Agreed → ℕ → ℕ
data_plen a n = n + (data_place a + digest_bytes a.data_digests)

-- C2HData, the last of its command: CCCID, DATAO 0, DATAL
abbrev pub data_written : Agreed → ℕ → ℕ → Written
data_written a cid n = record {
  bytes = common C2hData (flags a.header_digests a.data_digests + 4) 24 (data_place a) (data_plen a n)
      ++ (to_le_bytes w16 cid ++ (replicate 6 0 ++ (to_le_bytes w32 n ++ replicate 4 0)));
  layout = record {
    kind = C2hData;
    is_last = true;
    header = 24;
    header_digest = a.header_digests;
    data_offset = data_place a;
    data_length = n;
    data_digest = a.data_digests;
    length = data_plen a n;
  };
}

unfoldable pub controller_data : Agreed → ℕ → ℕ → Option Written
controller_data a cid n =
    if nat_le a.alignment 31 && nat_lt (data_plen a n) (2 ^ 32) then Some (data_written a cid n) else None

-- C2HTermReq: FES, FEI, and then up to 128 bytes of the PDU at fault
unfoldable pub termination : Fatal → ℕ → Written
termination f received = record {
  bytes = common C2hTermReq 0 24 0 (24 + min received 128)
      ++ (to_le_bytes w16 f.status ++ (to_le_bytes w32 f.field ++ replicate 10 0));
  layout = record {
    kind = C2hTermReq;
    is_last = false;
    header = 24;
    header_digest = false;
    data_offset = 24;
    data_length = min received 128;
    data_digest = false;
    length = 24 + min received 128;
  };
}
