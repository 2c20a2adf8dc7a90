-- The fields of a Connect, and the rules on them alone (NVM Express Base Specification 2.0, Connect Command).
use Rattle.std.specs.Prelude.{
  ℕ,
  ◌+◌,
  Bool,
  ◌&&◌,
  ◌==◌,
  nat_lt,
  nat_le,
  List,
  [],
  ◌∷◌,
  length,
  take,
  slice_range,
  position,
  Option,
  Some,
  None,
  Result,
}
use Rattle.std.specs.Int.{w128, from_le_bytes}
use Rattle.nvme_wire.specs.Entry.{word_at}
use Rattle.nvme_fabrics.specs.declared.answer.Answer.{Answer}
use Rattle.nvme_fabrics.specs.declared.request.Request.{Request}
use Rattle.nvme_fabrics.specs.Answers.{checked, incompatible_format, sgl_length, in_entry, in_data}

-- of the entry: RECFMT, QID, SQSIZE
abbrev pub recfmt_of : List ℕ → ℕ
recfmt_of e = word_at e 40

abbrev pub qid_of : List ℕ → ℕ
qid_of e = word_at e 42

abbrev pub sqsize_of : List ℕ → ℕ
sqsize_of e = word_at e 44

-- of the data: HOSTID, CNTLID, HOSTNQN
unfoldable pub host_id_of : List ℕ → ℕ
host_id_of d = from_le_bytes w128 (slice_range d 0 16)

unfoldable pub cntlid_of : List ℕ → ℕ
cntlid_of d = word_at d 16

unfoldable pub host_nqn_of : List ℕ → List ℕ
host_nqn_of d = slice_range d 512 768

-- the text of a field: the bytes before the first NUL, or all
abbrev pub before : Option ℕ → List ℕ → List ℕ
before None xs = xs
before (Some n) xs = take n xs

unfoldable pub text_of : List ℕ → List ℕ
text_of field = before (position (λ b. b == 0) field) field

unfoldable pub is_name : List ℕ → Bool
is_name field = nat_lt 0 (length (text_of field)) && nat_lt (length (text_of field)) 256

-- a record format of 0, 1,024 bytes of data, a Host NQN with its NUL, and 2 to 64 entries, in this order
abbrev pub request_rules : List ℕ → List ℕ → Bool → List (Answer × Bool)
request_rules e d is_whole =
    (incompatible_format, recfmt_of e == 0)
    ∷ (sgl_length, is_whole)
    ∷ (in_data 512, is_name (host_nqn_of d))
    ∷ (in_entry 44, nat_le 1 (sqsize_of e) && nat_le (sqsize_of e) 63)
    ∷ []

abbrev pub request_fields : List ℕ → List ℕ → Request
request_fields e d = record {
  host_id = host_id_of d;
  host_nqn = host_nqn_of d;
  cntlid = cntlid_of d;
  qid = qid_of e;
  entries = sqsize_of e + 1;
}

unfoldable pub request_of : List ℕ → List ℕ → Bool → Result Request Answer
request_of e d is_whole = checked (request_rules e d is_whole) (request_fields e d)
