-- Completion queue entries of Fabrics (NVM Express Base Specification 2.0, Completion Queue Entry and Status Field
-- Definition).
use Rattle.std.specs.Prelude.{
  ℕ,
  ◌+◌,
  ◌*◌,
  ◌%◌,
  ◌^◌,
  Bool,
  ◌&&◌,
  ◌==◌,
  not,
  if◌then◌else◌,
  List,
  [],
  ◌∷◌,
  ◌++◌,
  replicate,
}
use Rattle.std.specs.Int.{w16, w32, to_le_bytes}
use Rattle.std.specs.List.{list_any}
use Rattle.nvme_wire.specs.declared.status.Status.{Status}
use Rattle.nvme_responses.specs.declared.reply.Response.{Response}

-- SCT has three bits
abbrev pub three_bits : Status → Status
three_bits s = record { sct = s.sct % 8; sc = s.sc }

abbrev pub successful_completion : Status
successful_completion = record { sct = 0; sc = 0x00 }

abbrev pub command_sequence_error : Status
command_sequence_error = record { sct = 0; sc = 0x0c }

abbrev pub transient_transport_error : Status
transient_transport_error = record { sct = 0; sc = 0x22 }

abbrev pub connect_controller_busy : Status
connect_controller_busy = record { sct = 1; sc = 0x81 }

abbrev pub asymmetric_access_inaccessible : Status
asymmetric_access_inaccessible = record { sct = 3; sc = 0x02 }

-- Success, and the statuses of commands that may succeed later or by another path, before their host has done anything
-- else.
abbrev pub without_do_not_retry : List Status
without_do_not_retry =
    successful_completion
    ∷ command_sequence_error
    ∷ transient_transport_error
    ∷ connect_controller_busy
    ∷ asymmetric_access_inaccessible
    ∷ []

abbrev pub is_same : Status → Status → Bool
is_same a b = (a.sct == b.sct) && (a.sc == b.sc)

-- DNR, Do Not Retry
abbrev pub has_do_not_retry : Status → Bool
has_do_not_retry s = not (list_any (is_same s) without_do_not_retry)

-- the last word of an entry: the phase tag, which is 0, SC from bit 1, SCT from bit 9, and DNR, bit 15
abbrev pub status_field : Status → ℕ
status_field s =
    2 * s.sc + 2 ^ 9 * (s.sct % 8) + (if has_do_not_retry (three_bits s) then 2 ^ 15 else 0)

-- the 16 bytes of an entry, whose SQID is 0
unfoldable pub entry : Response → List ℕ
entry r =
    to_le_bytes w32 r.dw0 ++ (to_le_bytes w32 r.dw1 ++ (to_le_bytes w16 r.sqhd ++ (replicate 2 0
    ++ (to_le_bytes w16 r.cid ++ to_le_bytes w16 r.status))))
