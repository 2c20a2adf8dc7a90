-- The types of PDUs, their flags and digests (NVMe/TCP Transport Specification 1.0, PDU Common Header).
use Rattle.std.specs.Prelude.{ℕ, ◌+◌, Bool, if◌then◌else◌}
use Rattle.nvme_pdu.specs.declared.kind.Kind.{Kind}
use Rattle.nvme_pdu.specs.declared.kind.Kind.TheVariants.{
  IcReq,
  IcResp,
  H2cTermReq,
  C2hTermReq,
  CapsuleCmd,
  CapsuleResp,
  H2cData,
  C2hData,
  R2t,
}

-- PDU-Type
abbrev pub number_of : Kind → ℕ
number_of IcReq = 0
number_of IcResp = 1
number_of H2cTermReq = 2
number_of C2hTermReq = 3
number_of CapsuleCmd = 4
number_of CapsuleResp = 5
number_of H2cData = 6
number_of C2hData = 7
number_of R2t = 9

-- FLAGS: HDGSTF is bit 0, DDGSTF bit 1. LAST_PDU, bit 2, is 4 more.
abbrev pub flags : Bool → Bool → ℕ
flags header bytes = (if header then 1 else 0) + (if bytes then 2 else 0)

-- the length of a digest (HDGST, DDGST), if there is one
abbrev pub digest_bytes : Bool → ℕ
digest_bytes there = if there then 4 else 0
