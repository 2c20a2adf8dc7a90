-- The two PRP entries of a request, which name the data of its slot (Base Specification: Physical Region Page Entry and
-- List). The second entry is the second page or, if there are more, the slot's list page, at whose start the list is.
use Rattle.std.specs.Prelude.{
  slice_range,
  ℕ,
  zero,
  suc,
  ◌+◌,
  ◌-◌,
  ◌*◌,
  ◌/◌,
  ◌<◌,
  ◌≤◌,
  ◌≡◌,
  ◌≢◌,
  List,
  [],
  ◌++◌,
  length,
  take,
  None,
  nat_le,
  if◌then◌else◌,
  ◌⊎◌,
}
use Rattle.std.specs.List.{range_with_len}
use Rattle.std.specs.Int.{w64, to_le_bytes}
use Rattle.nvme_spec.specs.Limits.{memory_page, most_bytes}
use Rattle.nvme_spec.specs.Bytes.{with_bytes}
use Rattle.nvme_spec.specs.Memory.{window_size}
use Rattle.nvme_spec.specs.Pointer.{Transfer, transfer, pointer_fault, address}
use Rattle.nvme_spec.specs.Transfers.{addresses, pieces_of, gathered_bytes, with_scattered}
use Rattle.nvme_driver.specs.Layout.{slot_count, list_page, data_area}

-- the number of pages after the first that data from the start of a page need
abbrev pub pages_behind : ℕ → ℕ
pages_behind bytes = (bytes - memory_page + 4095) / memory_page

-- PRP1: the slot's data, if there are any
abbrev pub first_entry : ℕ → ℕ → ℕ
first_entry slot bytes = if nat_le bytes 0 then 0 else data_area slot

-- PRP2: nothing, the second page, or the list
abbrev pub second_entry : ℕ → ℕ → ℕ
second_entry slot bytes =
    if nat_le bytes memory_page then 0
    else (if nat_le bytes (2 * memory_page) then data_area slot + memory_page else list_page slot)

-- a page as an entry of a list
unfoldable pub page_entry : ℕ → List ℕ
page_entry page = to_le_bytes w64 page

-- the entries of n adjacent pages
unfoldable pub page_entries : ℕ → ℕ → List ℕ
page_entries page zero = []
page_entries page (suc n) = page_entry page ++ page_entries (page + memory_page) n

-- the list of a slot: the second and the later pages of its data
abbrev pub list_of_slot : ℕ → ℕ → List ℕ
list_of_slot slot bytes = page_entries (data_area slot + memory_page) (pages_behind bytes)

-- what a driver stores in the list page: the list, if it is at PRP2
abbrev pub listed_pages : ℕ → ℕ
listed_pages bytes = if nat_le bytes (2 * memory_page) then 0 else pages_behind bytes

abbrev pub stored_list : ℕ → ℕ → List ℕ
stored_list slot bytes = page_entries (data_area slot + memory_page) (listed_pages bytes)

-- the list is there, if it is at PRP2
abbrev pub HasList : List ℕ → ℕ → ℕ → Type 0
HasList window slot bytes =
    2 * memory_page < bytes
    → slice_range window (list_page slot) (list_page slot + 8 * pages_behind bytes) ≡ list_of_slot slot bytes

-- the transfer of a request
abbrev pub slot_transfer : List ℕ → ℕ → ℕ → Transfer
slot_transfer window slot bytes = transfer window (data_area slot) (second_entry slot bytes) bytes

-- a pointer without a fault, whose bytes are contiguous from PRP1
pub record IsContiguous (t : Transfer) : Type 0 where
  pub sound : pointer_fault t ≡ None
  pub places : (k : ℕ) → k < t.bytes → address t k ≡ t.prp1 + k

-- a slot's request with data
pub record IsRequest (window : List ℕ) (slot bytes : ℕ) : Type 0 where
  pub whole : length window ≡ window_size
  pub slot_fits : slot < slot_count
  pub some : 1 ≤ bytes
  pub most : bytes ≤ most_bytes

-- If a slot's list is stored, the slot's data pointer has no fault, and its bytes are the slot's data, in order.
abbrev pub SlotsAreContiguous : Type 0
SlotsAreContiguous =
    (window : List ℕ) (slot bytes : ℕ) → IsRequest window slot bytes → HasList window slot bytes
    → IsContiguous (slot_transfer window slot bytes)

-- Its addresses are one run. Gathering by such a transfer returns the slot's data, and scattering to the front of it
-- replaces their front.
pub record IsOneRun (window : List ℕ) (slot bytes : ℕ) (places : List ℕ) : Type 0 where
  pub run : places ≡ range_with_len (data_area slot) bytes
  pub gathering : gathered_bytes window places ≡ slice_range window (data_area slot) (data_area slot + bytes)
  pub scattering : (read : List ℕ) → length read ≤ bytes
      → with_scattered window (take (length read) places) read ≡ with_bytes window (data_area slot) read

abbrev pub SlotsMoveOneRun : Type 0
SlotsMoveOneRun =
    (window : List ℕ) (slot bytes : ℕ) → IsRequest window slot bytes → HasList window slot bytes
    → IsOneRun window slot bytes (addresses (pieces_of (slot_transfer window slot bytes)))

-- a store leaves every part of the window that it does not overlap
abbrev pub OtherPartsStay : Type 0
OtherPartsStay =
    (window part : List ℕ) (at i n : ℕ) → at + length part ≤ length window → (at + length part ≤ i) ⊎ (i + n ≤ at)
    → slice_range (with_bytes window at part) i (i + n) ≡ slice_range window i (i + n)

-- a list that is stored is there
abbrev pub StoredListIsThere : Type 0
StoredListIsThere =
    (window : List ℕ) (slot bytes : ℕ) → IsRequest window slot bytes
    → HasList (with_bytes window (list_page slot) (stored_list slot bytes)) slot bytes

-- a store outside the list page keeps the list
abbrev pub StoresKeepLists : Type 0
StoresKeepLists =
    (window : List ℕ) (slot bytes at : ℕ) (part : List ℕ) → IsRequest window slot bytes → at + length part ≤ window_size
    → (at + length part ≤ list_page slot) ⊎ (list_page slot + memory_page ≤ at)
    → HasList window slot bytes → HasList (with_bytes window at part) slot bytes

-- so does the list of another slot
abbrev pub ListsKeepOthers : Type 0
ListsKeepOthers =
    (window : List ℕ) (slot bytes other others : ℕ) → IsRequest window slot bytes → other < slot_count
    → others ≤ most_bytes
    → slot ≢ other → HasList window slot bytes
    → HasList (with_bytes window (list_page other) (stored_list other others)) slot bytes
