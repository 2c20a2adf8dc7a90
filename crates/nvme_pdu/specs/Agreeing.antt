-- What an ICReq asks for (NVMe/TCP Transport Specification 1.0, Initialize Connection Request). MAXR2T and the reserved
-- bits and bytes are ignored: a controller never has more than one R2T of a command outstanding.
use Rattle.std.specs.Prelude.{ℕ, ◌/◌, ◌%◌, ◌==◌, List, [], ◌∷◌, get_or, nat_le, Result}
use Rattle.nvme_wire.specs.Entry.{word_at}
use Rattle.nvme_pdu.specs.declared.agreed.Agreed.{Agreed}
use Rattle.nvme_pdu.specs.declared.fatal.Fatal.{Fatal}
use Rattle.nvme_pdu.specs.Checking.{checked, invalid, unsupported}

-- PFV, HPDA, DGST
abbrev pub pfv_of : List ℕ → ℕ
pfv_of r = word_at r 8

abbrev pub hpda_of : List ℕ → ℕ
hpda_of r = get_or r 10 0

abbrev pub dgst_of : List ℕ → ℕ
dgst_of r = get_or r 11 0

unfoldable pub agreed_of : List ℕ → Result Agreed Fatal
agreed_of r = checked ((unsupported 8, pfv_of r == 0) ∷ (invalid 10, nat_le (hpda_of r) 31) ∷ [])
    (record { header_digests = dgst_of r % 2 == 1; data_digests = dgst_of r / 2 % 2 == 1; alignment = hpda_of r })
