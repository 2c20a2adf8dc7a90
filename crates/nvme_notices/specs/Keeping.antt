-- The notices that a controller keeps for its host (NVM Express Base Specification 2.0, "Reservation Notification Log
-- Page", "Reservation Notification Mask").
use Rattle.std.specs.Prelude.{
  ℕ,
  ◌+◌,
  ◌-◌,
  ◌*◌,
  Bool,
  ◌==◌,
  nat_lt,
  if◌then◌else◌,
  Option,
  Some,
  None,
  List,
  [],
  ◌∷◌,
  ◌++◌,
  length,
  take,
  drop,
  min,
  replicate,
  slice_index_or,
}
use Rattle.std.specs.List.{slice_set}
use Rattle.std.specs.Int.{w32, w64, to_le_bytes}
use Rattle.nvme_wire.specs.Entry.{bits}
use Rattle.nvme_notices.specs.declared.notice.NoticeType.{NoticeType}
use Rattle.nvme_notices.specs.declared.notice.NoticeType.TheVariants.{
  RegistrationPreempted,
  ReservationReleased,
  ReservationPreempted,
}
use Rattle.nvme_notices.specs.declared.notice.Notice.{Notice}
use Rattle.nvme_notices.specs.declared.raw.RawNotices.{RawNotices}

-- the masks of the namespaces 1 to 8, the notices that were not read, the oldest first, and the Log Page Count of the
-- last notice, kept or lost: 0 if there was none since the reset
pub record Notices : Type 0 where
  pub masks : List ℕ
  pub kept : List Notice
  pub count : ℕ

-- the notices in a struct that C code holds: at most 64, even if its `kept` is larger
abbrev pub notices_of : RawNotices → Notices
notices_of raw = record { masks = raw.masks; kept = take (min raw.kept 64) raw.places; count = raw.count }

-- Controller Level Reset: nothing is masked, and there is no notice
abbrev pub no_notices : Notices
no_notices = record { masks = replicate 8 0; kept = []; count = 0 }

-- the value of a type in the log page, and its bit in the mask
abbrev pub type_number : NoticeType → ℕ
type_number RegistrationPreempted = 1
type_number ReservationReleased = 2
type_number ReservationPreempted = 3

-- the mask of a namespace: REGPRE is bit 1, RESREL bit 2, RESPRE bit 3
abbrev pub mask_of : Notices → ℕ → ℕ
mask_of n nsid = slice_index_or n.masks (nsid - 1) 0

-- the bits of double word 11 that are kept
abbrev pub mask_bits : ℕ → ℕ
mask_bits dw11 = bits dw11 3 1 * 2

abbrev pub with_mask : Notices → ℕ → ℕ → Notices
with_mask n nsid dw11 = record n { masks = slice_set n.masks (nsid - 1) (mask_bits dw11) }

abbrev pub is_in_mask : ℕ → NoticeType → Bool
is_in_mask mask kind = bits mask (type_number kind) (type_number kind) == 1

abbrev pub is_masked : Notices → ℕ → NoticeType → Bool
is_masked n nsid kind = is_in_mask (mask_of n nsid) kind

-- the Log Page Count after this one: the largest one is followed by 1
abbrev pub count_after : ℕ → ℕ
count_after count = if count == 18446744073709551615 then 1 else count + 1

-- the last notice gets this count
abbrev pub with_last_count : List Notice → ℕ → List Notice
with_last_count [] count = []
with_last_count (x ∷ []) count = record x { count = count } ∷ []
with_last_count (x ∷ y ∷ rest) count = x ∷ with_last_count (y ∷ rest) count

abbrev pub has_room : List Notice → Bool
has_room kept = nat_lt (length kept) 64

-- A new notice comes last. If 64 are kept, it is lost, and the last of them gets its count.
abbrev pub kept_with : List Notice → Notice → List Notice
kept_with kept notice = if has_room kept then kept ++ notice ∷ [] else with_last_count kept notice.count

-- a notice with the next Log Page Count
abbrev pub queued : Notices → ℕ → NoticeType → Notices
queued n nsid kind = record n {
  kept = kept_with n.kept (record { count = count_after n.count; kind = type_number kind; nsid = nsid });
  count = count_after n.count;
}

-- a masked notice changes nothing
abbrev pub added : Notices → ℕ → NoticeType → Notices
added n nsid kind = if is_masked n nsid kind then n else queued n nsid kind

abbrev pub added_if : Notices → ℕ → Option NoticeType → Notices
added_if n nsid None = n
added_if n nsid (Some kind) = added n nsid kind

-- the notices after the host has read the oldest one
abbrev pub taken : Notices → Notices
taken n = record n { kept = drop 1 n.kept }

-- bytes 0 to 7 the Log Page Count, 8 the type, 9 the Number of Available Log Pages after this one, 12 to 15 the
-- namespace. At most 63 are available, so that byte is never saturated.
unfoldable pub page_of_notice : Notice → ℕ → List ℕ
page_of_notice notice others =
    to_le_bytes w64 notice.count ++ notice.kind ∷ others ∷ 0 ∷ 0 ∷ []
    ++ to_le_bytes w32 notice.nsid ++ replicate 48 0

-- Reservation Notification log page: the oldest notice, or zeros if there is none
abbrev pub page : List Notice → List ℕ
page [] = replicate 64 0
page (notice ∷ rest) = page_of_notice notice (length rest)
