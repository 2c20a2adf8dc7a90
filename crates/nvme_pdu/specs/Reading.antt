-- How a host reads the headers that a controller writes (NVMe/TCP Transport Specification 1.0, PDU types).
use Rattle.std.specs.Prelude.{
  ℕ,
  ◌+◌,
  ◌-◌,
  ◌*◌,
  ◌/◌,
  ◌%◌,
  ◌==◌,
  Bool,
  false,
  ◌&&◌,
  ◌||◌,
  if◌then◌else◌,
  List,
  [],
  ◌∷◌,
  get_or,
  nat_le,
  slice_range,
  Result,
  Err,
}
use Rattle.nvme_wire.specs.Entry.{word_at, dword_at}
use Rattle.nvme_pdu.specs.declared.agreed.Agreed.{Agreed}
use Rattle.nvme_pdu.specs.declared.fatal.Fatal.{Fatal}
use Rattle.nvme_pdu.specs.declared.kind.Kind.{Kind}
use Rattle.nvme_pdu.specs.declared.kind.Kind.TheVariants.{IcResp, C2hTermReq, CapsuleResp, C2hData, R2t}
use Rattle.nvme_pdu.specs.declared.layout.Head.{Head}
use Rattle.nvme_pdu.specs.declared.layout.PduLayout.{PduLayout}
use Rattle.nvme_pdu.specs.Checking.{checked, invalid}
use Rattle.nvme_pdu.specs.Headers.{flags, digest_bytes}
use Rattle.nvme_pdu.specs.Layouts.{head_of, without_data}

-- ICResp
abbrev pub ic_response_layout : Head → Result PduLayout Fatal
ic_response_layout h =
    checked ((invalid 2, h.hlen == 128) ∷ (invalid 1, h.flags == 0) ∷ (invalid 4, h.plen == 128) ∷ [])
    (without_data IcResp 128 false false)

-- C2HTermReq
abbrev pub termination_layout : Head → Result PduLayout Fatal
termination_layout h =
    checked ((invalid 2, h.hlen == 24) ∷ (invalid 4, nat_le 24 h.plen && nat_le h.plen 152) ∷ []) (record {
      kind = C2hTermReq;
      is_last = false;
      header = 24;
      header_digest = false;
      data_offset = 24;
      data_length = h.plen - 24;
      data_digest = false;
      length = h.plen;
    })

-- CapsuleResp and R2T
abbrev pub plain_layout : Kind → Agreed → Head → Result PduLayout Fatal
plain_layout kind a h =
    checked ((invalid 2, h.hlen == 24)
    ∷ (invalid 1, h.flags == flags a.header_digests false)
    ∷ (invalid 4, h.plen == 24 + digest_bytes a.header_digests)
    ∷ []) (without_data kind 24 a.header_digests false)

-- C2HData
abbrev pub data_flags : Agreed → ℕ
data_flags a = flags a.header_digests a.data_digests

abbrev pub around_data : Agreed → Head → ℕ
around_data a h = h.pdo + digest_bytes a.data_digests

abbrev pub data_layout : Agreed → Head → Result PduLayout Fatal
data_layout a h =
    checked ((invalid 2, h.hlen == 24)
    ∷ (invalid 1, h.flags == data_flags a || h.flags == data_flags a + 4)
    ∷ (invalid 3, nat_le (24 + digest_bytes a.header_digests) h.pdo && (h.pdo % (4 * (a.alignment + 1)) == 0))
    ∷ (invalid 4, nat_le (around_data a h) h.plen)
    ∷ []) (record {
      kind = C2hData;
      is_last = h.flags == data_flags a + 4;
      header = 24;
      header_digest = a.header_digests;
      data_offset = h.pdo;
      data_length = h.plen - around_data a h;
      data_digest = a.data_digests;
      length = h.plen;
    })

unfoldable pub host_layout_of : Agreed → List ℕ → Result PduLayout Fatal
host_layout_of a bytes =
    let h = head_of bytes in
    if h.kind == 1 then ic_response_layout h
    else (if h.kind == 3 then termination_layout h
    else (if h.kind == 5 then plain_layout CapsuleResp a h
    else (if h.kind == 7 then data_layout a h
    else (if h.kind == 9 then plain_layout R2t a h
    else Err (invalid 0)))))

-- the fields after the common header: those of CapsuleResp, R2T and C2HData, C2HTermReq, ICResp
abbrev pub entry_of : List ℕ → List ℕ
entry_of h = slice_range h 8 24

pub record Data : Type 0 where
  pub cid : ℕ
  pub tag : ℕ
  pub offset : ℕ
  pub count : ℕ

abbrev pub data_of : List ℕ → Data
data_of h = record { cid = word_at h 8; tag = word_at h 10; offset = dword_at h 12; count = dword_at h 16 }

abbrev pub termination_of : List ℕ → Fatal
termination_of h = record { status = word_at h 8; field = dword_at h 10 }

pub record Granted : Type 0 where
  pub pfv : ℕ
  pub cpda : ℕ
  pub header_digests : Bool
  pub data_digests : Bool
  pub max_h2c_data : ℕ

abbrev pub granted_by : List ℕ → Granted
granted_by h = record {
  pfv = word_at h 8;
  cpda = get_or h 10 0;
  header_digests = get_or h 11 0 % 2 == 1;
  data_digests = get_or h 11 0 / 2 % 2 == 1;
  max_h2c_data = dword_at h 12;
}
