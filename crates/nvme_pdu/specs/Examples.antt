-- Worked examples of `examples.rt`.
use Rattle.std.specs.Prelude.{◌≡◌, ℕ, Bool, true, false, ◌∷◌, Ok, Err}
use Rattle.std.specs.Int.{w32, to_le_bytes}
use Rattle.nvme_pdu.specs.declared.agreed.Agreed.{Agreed}
use Rattle.nvme_pdu.specs.declared.kind.Kind.{Kind}
use Rattle.nvme_pdu.specs.Checking.{invalid}
use Rattle.nvme_pdu.specs.Layouts.{layout_of}
use Rattle.nvme_pdu.specs.Writing.{common}

-- connections without digests, and with both
abbrev pub plain : Agreed
plain = record { header_digests = false; data_digests = false; alignment = 0 }

abbrev pub digested : Agreed
digested = record { header_digests = true; data_digests = true; alignment = 1 }

-- a host's common header with this type, FLAGS, HLEN, PDO and PLEN is refused: the field at this offset is wrong
abbrev pub IsRefused : Agreed → ℕ → ℕ → ℕ → ℕ → ℕ → ℕ → Type 0
IsRefused a type given hlen pdo plen field =
    layout_of a (type ∷ given ∷ hlen ∷ pdo ∷ to_le_bytes w32 plen) ≡ Err (invalid field)

-- it is that of a PDU without data
abbrev pub HasNoData : Agreed → Kind → ℕ → ℕ → ℕ → ℕ → Bool → Type 0
HasNoData a kind given hlen pdo plen is_last =
    layout_of a (common kind given hlen pdo plen) ≡ Ok (record {
      kind = kind;
      is_last = is_last;
      header = hlen;
      header_digest = a.header_digests;
      data_offset = plen;
      data_length = 0;
      data_digest = false;
      length = plen;
    })

-- it is that of a PDU with n bytes of data
abbrev pub HasData : Agreed → Kind → ℕ → ℕ → ℕ → ℕ → Bool → ℕ → Type 0
HasData a kind given hlen pdo plen is_last n =
    layout_of a (common kind given hlen pdo plen) ≡ Ok (record {
      kind = kind;
      is_last = is_last;
      header = hlen;
      header_digest = a.header_digests;
      data_offset = pdo;
      data_length = n;
      data_digest = a.data_digests;
      length = plen;
    })
