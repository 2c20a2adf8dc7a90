-- The fields of a host's PDUs after the common header (NVMe/TCP Transport Specification 1.0, Host To Controller Data
-- Transfer, and Host to Controller Terminate Connection Request). Reserved bytes are ignored.
use Rattle.std.specs.Prelude.{ℕ, ◌==◌, List, [], ◌∷◌, slice_range, Result}
use Rattle.nvme_wire.specs.Entry.{word_at, dword_at}
use Rattle.nvme_pdu.specs.declared.fatal.Fatal.{Fatal}
use Rattle.nvme_pdu.specs.declared.fields.HostData.{HostData}
use Rattle.nvme_pdu.specs.Checking.{checked, invalid}

-- H2CData: CCCID, TTAG, DATAO, and DATAL, which is the number of its data
unfoldable pub host_data : List ℕ → ℕ → Result HostData Fatal
host_data h n = checked ((invalid 16, dword_at h 16 == n) ∷ [])
    (record { cid = word_at h 8; tag = word_at h 10; offset = dword_at h 12 })

-- H2CTermReq: FES, FEI
abbrev pub host_termination : List ℕ → Fatal
host_termination h = record { status = word_at h 8; field = dword_at h 10 }

-- CapsuleCmd: the submission queue entry
abbrev pub command_of : List ℕ → List ℕ
command_of h = slice_range h 8 72
