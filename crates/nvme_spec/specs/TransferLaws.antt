-- Statements of `laws/transfers.rt` on the definitions of transfers (Base Specification 2.0, Physical Region Page Entry
-- and List): which byte an address keeps, that blocks make up the whole, and the place of a small transfer.
use Rattle.std.specs.Prelude.{slice_range, slice_index, ℕ, ◌+◌, ◌*◌, ◌≡◌, ◌≢◌, ◌<◌, ◌≤◌, List, length, map}
use Rattle.std.specs.List.{range_with_len}
use Rattle.nvme_spec.specs.declared.pointer.Piece.{Piece}
use Rattle.nvme_spec.specs.Bytes.{with_bytes}
use Rattle.nvme_spec.specs.Pointer.{Transfer, room, address}
use Rattle.nvme_spec.specs.Transfers.{addresses, gathered_bytes, with_scattered, gathered_blocks, with_scattered_blocks}

-- k is the last place of an address in this list
abbrev pub StandsLastAt : List ℕ → ℕ → ℕ → Type 0
StandsLastAt places a k =
    (k < length places) × (slice_index places k ≡ a)
    × ((i : ℕ) → k < i → i < length places → slice_index places i ≢ a)

-- an address that is named more than once keeps the last byte stored there
abbrev pub LastByteIsKept : Type 0
LastByteIsKept =
    (window places bytes : List ℕ) (a k : ℕ) → length places ≡ length bytes → a < length window
    → StandsLastAt places a k → slice_index (with_scattered window places bytes) a ≡ slice_index bytes k

-- an address that is not named is unchanged
abbrev pub OthersStay : Type 0
OthersStay =
    (window places bytes : List ℕ) (a : ℕ) → ((i : ℕ) → i < length places → slice_index places i ≢ a)
    → slice_index (with_scattered window places bytes) a ≡ slice_index window a

-- blocks gathered one after the other, and joined, are all bytes
abbrev pub BlocksMakeTheWhole : Type 0
BlocksMakeTheWhole =
    (window : List ℕ) (ps : List Piece) (n : ℕ) → length (addresses ps) ≡ 512 * n
    → gathered_blocks window ps 0 n ≡ gathered_bytes window (addresses ps)

-- blocks scattered one after the other leave the same as all bytes scattered at once
abbrev pub BlocksScatterTheWhole : Type 0
BlocksScatterTheWhole =
    (window : List ℕ) (ps : List Piece) (n : ℕ) (bytes : List ℕ) → length (addresses ps) ≡ 512 * n
    → length bytes ≡ 512 * n → with_scattered_blocks window ps 0 n bytes ≡ with_scattered window (addresses ps) bytes

-- a transfer that fits into its first page is one run from PRP1
abbrev pub SmallIsContiguous : Type 0
SmallIsContiguous =
    (t : Transfer) → t.bytes ≤ room t.prp1 → t.prp1 + t.bytes ≤ length t.window
    → (map (address t) (range_with_len 0 t.bytes) ≡ range_with_len t.prp1 t.bytes)
    × (gathered_bytes t.window (map (address t) (range_with_len 0 t.bytes))
    ≡ slice_range t.window t.prp1 (t.prp1 + t.bytes))

-- no address is named twice
abbrev pub AreDistinct : List ℕ → Type 0
AreDistinct places = (i j : ℕ) → i < j → j < length places → slice_index places j ≢ slice_index places i

-- bytes scattered to such addresses are gathered from them
abbrev pub GatheredIsScattered : Type 0
GatheredIsScattered =
    (window places bytes : List ℕ) → length places ≡ length bytes → AreDistinct places
    → ((k : ℕ) → k < length places → slice_index places k < length window)
    → gathered_bytes (with_scattered window places bytes) places ≡ bytes

-- bytes scattered over a run of rising addresses are written there
abbrev pub RunIsWritten : Type 0
RunIsWritten =
    (window : List ℕ) (first : ℕ) (bytes : List ℕ) → first + length bytes ≤ length window
    → with_scattered window (range_with_len first (length bytes)) bytes ≡ with_bytes window first bytes

-- a window keeps its length
abbrev pub ScatteringKeepsTheLength : Type 0
ScatteringKeepsTheLength = (window places bytes : List ℕ) → length (with_scattered window places bytes) ≡ length window
