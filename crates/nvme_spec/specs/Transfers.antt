-- The bytes of a transfer, page by page and block by block: gathered from host memory and scattered to it (Base
-- Specification 2.0, Physical Region Page Entry and List). Blocks have 512 bytes.
use Rattle.std.specs.Prelude.{
  slice_range,
  slice_index,
  slice_set,
  ℕ,
  zero,
  suc,
  ◌+◌,
  ◌-◌,
  ◌*◌,
  ◌%◌,
  ◌≡◌,
  ◌≤◌,
  List,
  [],
  ◌∷◌,
  map,
  min,
  take,
  drop,
}
use Rattle.std.specs.List.{flat_map, range_with_len}
use Rattle.nvme_spec.specs.declared.pointer.Piece.{Piece}
use Rattle.nvme_spec.specs.Memory.{LiesInWindow}
use Rattle.nvme_spec.specs.Pointer.{Transfer, page, room, further_pages}

-- the addresses of a piece's bytes
abbrev pub run : Piece → List ℕ
run p = range_with_len p.address p.len

-- the addresses of all bytes, in order
unfoldable pub addresses : List Piece → List ℕ
addresses ps = flat_map run ps

-- the pieces of a transfer: one for each page that it touches
abbrev pub first_piece : Transfer → Piece
first_piece t = record { address = t.prp1; len = min t.bytes (room t.prp1) }

abbrev pub further_piece : Transfer → ℕ → Piece
further_piece t j = record { address = page t j; len = min (t.bytes - room t.prp1 - 4096 * j) 4096 }

abbrev pub pieces_of : Transfer → List Piece
pieces_of t = first_piece t ∷ map (further_piece t) (range_with_len 0 (further_pages t))

-- a piece is inside one page, and in the window
abbrev pub LiesInPage : Piece → Type 0
LiesInPage p = (p.address % 4096 + p.len ≤ 4096) × LiesInWindow p

abbrev pub StartsPage : Piece → Type 0
StartsPage p = p.address % 4096 ≡ 0

abbrev pub EndsPage : Piece → Type 0
EndsPage p = p.address % 4096 + p.len ≡ 4096

-- Each piece is inside one page of the window. Each except the first starts its page, and each except the last ends its
-- page and has at least four bytes.
unfoldable pub ArePages : List Piece → Type 0
ArePages [] = Unit {0}
ArePages (p ∷ []) = LiesInPage p
ArePages (p ∷ q ∷ later) = LiesInPage p × EndsPage p × (4 ≤ p.len) × StartsPage q × ArePages (q ∷ later)

-- the addresses of block j of a transfer
abbrev pub block_addresses : List Piece → ℕ → List ℕ
block_addresses ps j = slice_range (addresses ps) (512 * j) (512 * j + 512)

-- the bytes at these addresses
abbrev pub gathered_bytes : List ℕ → List ℕ → List ℕ
gathered_bytes window places = map (slice_index window) places

-- a window after bytes are stored at these addresses, one after the other
unfoldable pub with_scattered : List ℕ → List ℕ → List ℕ → List ℕ
with_scattered window [] bytes = window
with_scattered window (a ∷ places) [] = window
with_scattered window (a ∷ places) (b ∷ bytes) = with_scattered (slice_set window a b) places bytes

-- n blocks from block j, gathered one after the other
abbrev pub gathered_blocks : List ℕ → List Piece → ℕ → ℕ → List ℕ
gathered_blocks window ps j n = flat_map (λ i. gathered_bytes window (block_addresses ps i)) (range_with_len j n)

-- a window after n blocks from block j are scattered one after the other
unfoldable pub with_scattered_blocks : List ℕ → List Piece → ℕ → ℕ → List ℕ → List ℕ
with_scattered_blocks window ps j zero bytes = window
with_scattered_blocks window ps j (suc n) bytes =
    with_scattered_blocks (with_scattered window (block_addresses ps j) (take 512 bytes)) ps (j + 1) n (drop 512 bytes)
