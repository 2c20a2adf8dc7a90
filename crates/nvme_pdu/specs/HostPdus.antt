-- The headers that a host writes (NVMe/TCP Transport Specification 1.0, PDU types), for the laws that they are read as
-- they were written.
use Rattle.std.specs.Prelude.{
  ◌≡◌,
  ℕ,
  ◌+◌,
  ◌<◌,
  ◌≤◌,
  ◌%◌,
  ◌^◌,
  Bool,
  true,
  false,
  ◌&&◌,
  zero,
  suc,
  if◌then◌else◌,
  List,
  ◌∷◌,
  ◌++◌,
  replicate,
}
use Rattle.std.specs.Int.{w16, w32, to_le_bytes}
use Rattle.nvme_pdu.specs.declared.agreed.Agreed.{Agreed}
use Rattle.nvme_pdu.specs.declared.fatal.Fatal.{Fatal}
use Rattle.nvme_pdu.specs.declared.fields.HostData.{HostData}
use Rattle.nvme_pdu.specs.declared.kind.Kind.{Kind}
use Rattle.nvme_pdu.specs.declared.kind.Kind.TheVariants.{IcReq, H2cTermReq, CapsuleCmd, H2cData}
use Rattle.nvme_pdu.specs.declared.layout.PduLayout.{PduLayout}
use Rattle.nvme_pdu.specs.Headers.{flags, digest_bytes}
use Rattle.nvme_pdu.specs.Writing.{common}

-- ICReq: PFV 0, HPDA, DGST, MAXR2T
unfoldable pub ic_request : ℕ → ℕ → Agreed → List ℕ
ic_request pdo max_r2t a =
    common IcReq 0 128 pdo 128
    ++ (replicate 2 0
    ++ (a.alignment ∷ flags a.header_digests a.data_digests ∷ (to_le_bytes w32 max_r2t ++ replicate 112 0)))

-- H2CTermReq, with n bytes of a header after its own
unfoldable pub termination_request : ℕ → ℕ → ℕ → Fatal → List ℕ
termination_request given pdo n f =
    common H2cTermReq given 24 pdo (24 + n)
    ++ (to_le_bytes w16 f.status ++ (to_le_bytes w32 f.field ++ replicate 10 0))

-- whether there are any
abbrev pub are_some : ℕ → Bool
are_some zero = false
are_some (suc n) = true

-- whether n bytes of data have a digest
abbrev pub data_digest : Agreed → ℕ → Bool
data_digest a n = are_some n && a.data_digests

-- PLEN of a PDU with n bytes of data from `pdo`, after a header of `header` bytes
abbrev pub plen : ℕ → Agreed → ℕ → ℕ → ℕ
plen header a pdo n =
    if are_some n then pdo + n + digest_bytes a.data_digests else header + digest_bytes a.header_digests

abbrev pub with_data : Kind → ℕ → Bool → Agreed → ℕ → ℕ → List ℕ
with_data kind header is_last a pdo n =
    common kind (flags a.header_digests (data_digest a n) + (if is_last then 4 else 0)) header pdo (plen header a pdo n)

-- the layout of such a PDU
abbrev pub layout_with_data : Kind → ℕ → Bool → Agreed → ℕ → ℕ → PduLayout
layout_with_data kind header is_last a pdo n = record {
  kind = kind;
  is_last = is_last;
  header = header;
  header_digest = a.header_digests;
  data_offset = if are_some n then pdo else header + digest_bytes a.header_digests;
  data_length = n;
  data_digest = data_digest a n;
  length = plen header a pdo n;
}

-- PDO and the number of data are as the standard allows them: CPDA is 0
pub record FitsData (header most : ℕ) (a : Agreed) (pdo n : ℕ) : Type 0 where
  pub after : header + digest_bytes a.header_digests ≤ pdo
  pub aligned : pdo % 4 ≡ 0
  pub byte : pdo < 256
  pub short : n ≤ most

-- CapsuleCmd with n bytes of data
unfoldable pub command : Agreed → ℕ → ℕ → List ℕ → List ℕ
command a pdo n entry = with_data CapsuleCmd 72 false a pdo n ++ entry

-- H2CData: CCCID, TTAG, DATAO, DATAL
unfoldable pub data_header : Bool → Agreed → ℕ → ℕ → HostData → List ℕ
data_header is_last a pdo n f =
    with_data H2cData 24 is_last a pdo n
    ++ (to_le_bytes w16 f.cid
    ++ (to_le_bytes w16 f.tag ++ (to_le_bytes w32 f.offset ++ (to_le_bytes w32 n ++ replicate 4 0))))

pub record FitsHostData (f : HostData) : Type 0 where
  pub cid : f.cid < 2 ^ 16
  pub tag : f.tag < 2 ^ 16
  pub offset : f.offset < 2 ^ 32

pub record FitsFatal (f : Fatal) : Type 0 where
  pub status : f.status < 2 ^ 16
  pub field : f.field < 2 ^ 32
