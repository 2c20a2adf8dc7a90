-- Data buffers in the 4 MiB of memory that a host shares with its controller, and the PRP entries of the data in them
-- (Base Specification 2.0, Physical Region Page Entry and List). Data are at the end of their buffer.
use Rattle.std.specs.Prelude.{ℕ, ◌+◌, ◌-◌, ◌*◌, ◌/◌, ◌&&◌, nat_le, nat_lt, if◌then◌else◌, List, slice_range, ◌≡◌}
use Rattle.std.specs.List.{flat_map, range_with_len}
use Rattle.std.specs.Int.{w64, to_le_bytes}
use Rattle.nvme_spec.specs.Limits.{memory_page, most_bytes}
use Rattle.nvme_spec.specs.Memory.{window_size}
use Rattle.nvme_spec.specs.Pointer.{room}
use Rattle.nvme_data_buffers.specs.declared.buffer.DataBuffer.{DataBuffer}
use Rattle.nvme_data_buffers.specs.declared.buffer.DataBuffer.TheVariants.{AtOnce, Held}
use Rattle.nvme_data_buffers.specs.declared.buffer.Prps.{Prps}

-- the number of buffers for held commands, and the size of each
abbrev pub most_held : ℕ
most_held = 16

abbrev pub held_bytes : ℕ
held_bytes = 2 * memory_page

abbrev pub capacity : DataBuffer → ℕ
capacity AtOnce = most_bytes
capacity (Held n) = if nat_lt n most_held then held_bytes else 0

-- the address after the last byte
abbrev pub end_of : DataBuffer → ℕ
end_of AtOnce = window_size
end_of (Held n) = if nat_lt n most_held then window_size - most_bytes - held_bytes * n else window_size

-- an address that is not in the window
abbrev pub nowhere : ℕ
nowhere = window_size

-- the space that data take: PRP1 has to be a multiple of 4
abbrev pub rounded : ℕ → ℕ
rounded size = (size + 3) / 4 * 4

-- the address of data of this size, if they fit
abbrev pub start : DataBuffer → ℕ → ℕ
start b size = if nat_le size (capacity b) then end_of b - rounded size else nowhere

-- The PRP list has the pages of the buffer at the end of the window after the first, as many as the longest data need.
abbrev pub list_place : ℕ
list_place = 16 * memory_page

abbrev pub listed_pages : ℕ
listed_pages = 31

abbrev pub first_listed : ℕ
first_listed = window_size - most_bytes + memory_page

-- the entries of n pages from one
abbrev pub page_entry : ℕ → ℕ → List ℕ
page_entry page j = to_le_bytes w64 (page + memory_page * j)

abbrev pub page_entries : ℕ → ℕ → List ℕ
page_entries page n = flat_map (page_entry page) (range_with_len 0 n)

unfoldable pub prp_list : List ℕ
prp_list = page_entries first_listed listed_pages

-- the list is at this place of a window, and at its own
unfoldable pub HasListAt : List ℕ → ℕ → Type 0
HasListAt window at = slice_range window at (at + 8 * listed_pages) ≡ prp_list

abbrev pub HasList : List ℕ → Type 0
HasList window = HasListAt window list_place

-- the place in the list of a page's entry
abbrev pub entry_place : ℕ → ℕ
entry_place page = list_place + 8 * ((page - first_listed) / memory_page)

-- PRP2 of this many bytes from an address: not used, the second page, or the list from the second page on
abbrev pub second_entry : ℕ → ℕ → ℕ
second_entry first bytes =
    if nat_le bytes (room first) then nowhere
    else (if nat_le bytes (room first + memory_page) then first + room first
    else entry_place (first + room first))

-- the entries of a command that moves this number of bytes, and has data of this size
abbrev pub prps : DataBuffer → ℕ → ℕ → Prps
prps b size bytes =
    if nat_le bytes size && nat_le size (capacity b)
    then record { first = start b size; second = second_entry (start b size) bytes }
    else record { first = nowhere; second = nowhere }
