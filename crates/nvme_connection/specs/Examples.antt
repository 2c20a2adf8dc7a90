-- Worked examples of `examples.rt`.
use Rattle.std.specs.Prelude.{ℕ, Bool, true, false, List, [], ◌∷◌, ◌++◌, replicate}
use Rattle.nvme_pdu.specs.declared.agreed.Agreed.{Agreed}
use Rattle.nvme_pdu.specs.declared.kind.Kind.TheVariants.{H2cTermReq, H2cData}
use Rattle.nvme_pdu.specs.declared.layout.PduLayout.{PduLayout}
use Rattle.nvme_connection.specs.declared.raw.RawConnection.{RawConnection}
use Rattle.nvme_connection.specs.declared.stage.Stage.TheVariants.{Complete}
use Rattle.nvme_connection.specs.Connections.{Connection, Outcome, Completes}
use Rattle.nvme_connection.specs.Streams.{Judge}

-- each PDU has these digests
abbrev pub judge : Bool → Bool → Judge
judge header bytes unit = record { header = header; «data» = bytes }

-- ICReq was granted, and nothing has come since
abbrev pub opened_with : Agreed → Connection
opened_with a = record { stage = Complete; is_open = true; agreed = a; unit = [] }

-- ICReq for no digests, without its last byte
abbrev pub most_of_request : List ℕ
most_of_request = 0 ∷ 0 ∷ 128 ∷ 0 ∷ 128 ∷ 0 ∷ 0 ∷ 0 ∷ replicate 119 0

abbrev pub ending : List ℕ
ending = 2 ∷ 0 ∷ 24 ∷ 0 ∷ 24 ∷ 0 ∷ 0 ∷ 0 ∷ 1 ∷ replicate 15 0

abbrev pub ending_layout : PduLayout
ending_layout = record {
  kind = H2cTermReq;
  is_last = false;
  header = 24;
  header_digest = false;
  data_offset = 24;
  data_length = 0;
  data_digest = false;
  length = 24;
}

-- the header of the last H2CData with this FLAGS, PDO, PLEN and DATAL
abbrev pub data_header : ℕ → ℕ → ℕ → ℕ → List ℕ
data_header given pdo plen datal =
    6 ∷ given ∷ 24 ∷ pdo ∷ plen ∷ 0 ∷ 0 ∷ 0 ∷ 1 ∷ 0 ∷ 2 ∷ 0 ∷ 0 ∷ 0 ∷ 0 ∷ 0 ∷ datal ∷ 0 ∷ 0 ∷ 0 ∷ 0 ∷ 0 ∷ 0 ∷ 0 ∷ []

-- four bytes of data after four of padding
abbrev pub padded : List ℕ
padded = data_header 4 28 32 4 ++ (90 ∷ 91 ∷ 92 ∷ 93 ∷ 11 ∷ 12 ∷ 13 ∷ 14 ∷ [])

abbrev pub padded_layout : PduLayout
padded_layout = record {
  kind = H2cData;
  is_last = true;
  header = 24;
  header_digest = false;
  data_offset = 28;
  data_length = 4;
  data_digest = false;
  length = 32;
}

-- the same four bytes between two digests
abbrev pub guarded : List ℕ
guarded = data_header 7 28 36 4 ++ (90 ∷ 91 ∷ 92 ∷ 93 ∷ 11 ∷ 12 ∷ 13 ∷ 14 ∷ 80 ∷ 81 ∷ 82 ∷ 83 ∷ [])

abbrev pub guarded_layout : PduLayout
guarded_layout = record {
  kind = H2cData;
  is_last = true;
  header = 24;
  header_digest = true;
  data_offset = 28;
  data_length = 4;
  data_digest = true;
  length = 36;
}

-- the PDU that they are
abbrev pub is_guarded : Bool → Outcome
is_guarded is_sound = Completes (record {
  layout = guarded_layout;
  parts = record {
    header = data_header 7 28 36 4;
    header_digest = 90 ∷ 91 ∷ 92 ∷ 93 ∷ [];
    bytes = 11 ∷ 12 ∷ 13 ∷ 14 ∷ [];
    data_digest = 80 ∷ 81 ∷ 82 ∷ 83 ∷ [];
  };
  is_sound = is_sound;
})

abbrev pub is_padded : Outcome
is_padded = Completes (record {
  layout = padded_layout;
  parts = record {
    header = data_header 4 28 32 4;
    header_digest = [];
    bytes = 11 ∷ 12 ∷ 13 ∷ 14 ∷ [];
    data_digest = [];
  };
  is_sound = true;
})

-- a struct of zeros, except for its stage
abbrev pub raw_at : ℕ → RawConnection
raw_at stage = record {
  count = 0;
  length = 0;
  data_offset = 0;
  data_length = 0;
  kind = 0;
  header = 0;
  stage = stage;
  is_last = false;
  header_digest = false;
  data_digest = false;
  is_open = false;
  agreed = record { header_digests = false; data_digests = false; alignment = 0 };
  kept = replicate 128 0;
}
