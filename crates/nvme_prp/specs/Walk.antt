-- A walk along a PRP List, one slot after the other, for the contracts of `walking.rt`.
use Rattle.std.specs.Prelude.{ℕ, ◌+◌, ◌-◌, ◌*◌, ◌/◌, ◌%◌, ◌==◌, ◌&&◌, ◌≡◌, min, List, Bool, cond, None}
use Rattle.std.specs.List.{flat_map, range_with_len}
use Rattle.nvme_spec.specs.declared.pointer.Piece.{Piece}
use Rattle.nvme_spec.specs.Memory.{qword}
use Rattle.nvme_spec.specs.Pointer.{AddressTest, fault_of, page_test, PageList, listed, entry_tests}

-- The slot to read: the given one, unless it is the last of its page and entries follow. Then it has the address of the
-- list's next page, and the slot to read is the first one of that page.
abbrev pub Follows : List ℕ → ℕ → Bool → ℕ → Type 0
Follows window old more new =
    cond (more && old % 4096 == 4088)
    ((new ≡ qword window old) × (fault_of (page_test new) ≡ None))
    (new ≡ old)

-- the list of the pages for `bytes` bytes
abbrev pub list_of : List ℕ → ℕ → ℕ → PageList
list_of window start bytes = record { window = window; start = start; pages = (bytes + 4095) / 4096 }

-- the tests of all entries of a list, in order
abbrev pub list_tests : PageList → List AddressTest
list_tests l = flat_map (entry_tests l) (range_with_len 0 l.pages)

-- the piece in page j of a list: as much of the page as the transfer needs
abbrev pub listed_piece : PageList → ℕ → ℕ → Piece
listed_piece l bytes j = record { address = listed l j; len = min (bytes - 4096 * j) 4096 }
