-- The places of the parts of a PDU of a host, by its common header, and the first of these fields that is at fault
-- (NVMe/TCP Transport Specification 1.0, PDU Common Header and PDU types). Ignored are PDO of a PDU without data and of
-- ICReq, and FLAGS and PDO of H2CTermReq.
use Rattle.std.specs.Prelude.{
  ◌≡◌,
  ℕ,
  ◌+◌,
  ◌-◌,
  ◌%◌,
  ◌==◌,
  ◌≤◌,
  Bool,
  false,
  not,
  ◌&&◌,
  ◌||◌,
  if◌then◌else◌,
  List,
  [],
  ◌∷◌,
  get_or,
  nat_lt,
  nat_le,
  Result,
  Err,
}
use Rattle.nvme_wire.specs.Entry.{dword_at}
use Rattle.nvme_pdu.specs.declared.agreed.Agreed.{Agreed}
use Rattle.nvme_pdu.specs.declared.fatal.Fatal.{Fatal}
use Rattle.nvme_pdu.specs.declared.kind.Kind.{Kind}
use Rattle.nvme_pdu.specs.declared.kind.Kind.TheVariants.{IcReq, H2cTermReq, CapsuleCmd, H2cData}
use Rattle.nvme_pdu.specs.declared.layout.Head.{Head}
use Rattle.nvme_pdu.specs.declared.layout.PduLayout.{PduLayout}
use Rattle.nvme_pdu.specs.Checking.{checked, invalid}
use Rattle.nvme_pdu.specs.Headers.{flags, digest_bytes}

-- PDU-Type, FLAGS, HLEN, PDO, PLEN
abbrev pub head_of : List ℕ → Head
head_of bytes = record {
  kind = get_or bytes 0 0;
  flags = get_or bytes 1 0;
  hlen = get_or bytes 2 0;
  pdo = get_or bytes 3 0;
  plen = dword_at bytes 4;
}

-- the parts are in their order, and are the whole
pub record IsOrdered (l : PduLayout) : Type 0 where
  pub header : l.header + digest_bytes l.header_digest ≤ l.data_offset
  pub whole : l.data_offset + l.data_length + digest_bytes l.data_digest ≡ l.length
  pub begin : l.data_offset ≤ 255

abbrev pub without_data : Kind → ℕ → Bool → Bool → PduLayout
without_data kind n has_digest is_last = record {
  kind = kind;
  is_last = is_last;
  header = n;
  header_digest = has_digest;
  data_offset = n + digest_bytes has_digest;
  data_length = 0;
  data_digest = false;
  length = n + digest_bytes has_digest;
}

-- ICReq: no digest, no data
unfoldable pub request_layout : Head → Result PduLayout Fatal
request_layout h =
    checked ((invalid 2, h.hlen == 128) ∷ (invalid 1, h.flags == 0) ∷ (invalid 4, h.plen == 128) ∷ [])
    (without_data IcReq 128 false false)

-- H2CTermReq: no digest, and up to 128 bytes of a header as its data
unfoldable pub termination_layout : Head → Result PduLayout Fatal
termination_layout h =
    checked ((invalid 2, h.hlen == 24) ∷ (invalid 4, nat_le 24 h.plen && nat_le h.plen 152) ∷ []) (record {
      kind = H2cTermReq;
      is_last = false;
      header = 24;
      header_digest = false;
      data_offset = 24;
      data_length = h.plen - 24;
      data_digest = false;
      length = h.plen;
    })

-- LAST_PDU, which only data have
abbrev pub is_last : Kind → ℕ → ℕ → Bool
is_last H2cData given wanted = given == wanted + 4
is_last other given wanted = false

-- a header of n bytes and its digest, and whether anything follows them
abbrev pub least : ℕ → Agreed → ℕ
least n a = n + digest_bytes a.header_digests

abbrev pub has_data : ℕ → Agreed → Head → Bool
has_data n a h = not (h.plen == least n a)

abbrev pub has_digest : ℕ → Agreed → Head → Bool
has_digest n a h = has_data n a h && a.data_digests

abbrev pub wanted : ℕ → Agreed → Head → ℕ
wanted n a h = flags a.header_digests (has_digest n a h)

-- the bytes of a PDU that are not data
abbrev pub around : ℕ → Agreed → Head → ℕ
around n a h = h.pdo + digest_bytes (has_digest n a h)

-- HLEN and FLAGS
abbrev pub form_rules : Kind → ℕ → Agreed → Head → List (Fatal × Bool)
form_rules kind n a h =
    (invalid 2, h.hlen == n)
    ∷ (invalid 1, h.flags == wanted n a h || is_last kind h.flags (wanted n a h))
    ∷ []

-- and PLEN and PDO, with at most `most` bytes of data
abbrev pub data_rules : Kind → ℕ → ℕ → Agreed → Head → List (Fatal × Bool)
data_rules kind n most a h =
    (invalid 2, h.hlen == n)
    ∷ (invalid 1, h.flags == wanted n a h || is_last kind h.flags (wanted n a h))
    ∷ (invalid 4, nat_le (least n a) h.plen)
    ∷ (invalid 3, nat_le (least n a) h.pdo && (h.pdo % 4 == 0))
    ∷ (invalid 4, nat_lt (around n a h) h.plen && nat_le h.plen (around n a h + most))
    ∷ []

-- CapsuleCmd and H2CData
unfoldable pub data_layout : Kind → ℕ → ℕ → Agreed → Head → Result PduLayout Fatal
data_layout kind n most a h =
    if has_data n a h
    then checked (data_rules kind n most a h) (record {
      kind = kind;
      is_last = is_last kind h.flags (wanted n a h);
      header = n;
      header_digest = a.header_digests;
      data_offset = h.pdo;
      data_length = h.plen - around n a h;
      data_digest = has_digest n a h;
      length = h.plen;
    })
    else checked (form_rules kind n a h)
    (without_data kind n a.header_digests (is_last kind h.flags (wanted n a h)))

unfoldable pub layout_of : Agreed → List ℕ → Result PduLayout Fatal
layout_of a bytes =
    let h = head_of bytes in
    if h.kind == 0 then request_layout h
    else (if h.kind == 2 then termination_layout h
    else (if h.kind == 4 then data_layout CapsuleCmd 72 8192 a h
    else (if h.kind == 6 then data_layout H2cData 24 131072 a h
    else Err (invalid 0))))
