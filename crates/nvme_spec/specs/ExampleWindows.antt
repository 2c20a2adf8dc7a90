-- Small windows for the worked examples of pointers.
use Rattle.std.specs.Prelude.{ℕ, ◌+◌, ◌*◌, List, replicate}
use Rattle.std.specs.List.{flat_map, range_with_len}
use Rattle.std.specs.Int.{w64, to_le_bytes}
use Rattle.nvme_spec.specs.declared.pointer.Piece.{Piece}
use Rattle.nvme_spec.specs.Bytes.{with_bytes}

-- an entry of a list, at an address
abbrev pub with_entry : List ℕ → ℕ → ℕ → List ℕ
with_entry window address entry = with_bytes window address (to_le_bytes w64 entry)

-- A list whose first slot is the last of its page: it names the page 3000h, or `next`, and the entries there name the
-- pages 6000h and 7000h.
unfoldable pub linked : ℕ → List ℕ
linked next = with_entry (with_entry (with_entry (replicate 12304 0) 12280 next) 12288 24576) 12296 28672

-- a list in the last two slots of a page, whose entries name the pages 6000h and 7000h
unfoldable pub full : List ℕ
full = with_entry (with_entry (replicate 12304 0) 12272 24576) 12280 28672

-- a list at 3000h whose two entries name the page 6000h
unfoldable pub doubled : List ℕ
doubled = with_entry (with_entry (replicate 12304 0) 12288 24576) 12296 24576

-- a list at 0 whose 32 entries name the pages from 10000h
unfoldable pub long : List ℕ
long = flat_map (λ i. to_le_bytes w64 (65536 + 4096 * i)) (range_with_len 0 32)

abbrev pub whole : ℕ → Piece
whole address = record { address = address; len = 4096 }
