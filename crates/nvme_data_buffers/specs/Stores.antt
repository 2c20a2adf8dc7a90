-- The memory between the placing of a command and its execution, and from there to the answer: what is stored in other
-- areas meanwhile leaves its data (Base Specification 2.0, Memory-Based Transport Queue Model).
use Rattle.std.specs.Prelude.{ℕ, ◌+◌, ◌≤◌, ◌≡◌, ◌≢◌, Bool, List, [], ◌∷◌, length, take, slice_range}
use Rattle.std.specs.List.{AllByRecursion}
use Rattle.nvme_spec.specs.Bytes.{with_bytes}
use Rattle.nvme_spec.specs.DataRules.{data_in}
use Rattle.nvme_spec.specs.Memory.{window_size}
use Rattle.nvme_data_buffers.specs.Areas.{Area, Listing, Buffer, IsArea, extent, LiesIn}
use Rattle.nvme_data_buffers.specs.Buffers.{capacity, start, HasList}
use Rattle.nvme_data_buffers.specs.Entries.{moved, placed}
use Rattle.nvme_data_buffers.specs.Laws.{IsWithin, IsEntry}
use Rattle.nvme_data_buffers.specs.declared.buffer.DataBuffer.{DataBuffer}

-- bytes that are stored at an address of an area: an entry, a completion, or data
pub record Store : Type 0 where
  pub area : Area
  pub at : ℕ
  pub part : List ℕ

abbrev pub after_stores : List ℕ → List Store → List ℕ
after_stores window [] = window
after_stores window (s ∷ later) = after_stores (with_bytes window s.at s.part) later

-- a store in another area than this buffer and the PRP list
pub record IsElsewhere (b : DataBuffer) (s : Store) : Type 0 where
  pub is : IsArea s.area
  pub no_buffer : s.area ≢ Buffer b
  pub no_list : s.area ≢ Listing
  pub inside : LiesIn (extent s.area) s.at (length s.part)

-- A command that was placed with its data gathers exactly these when it is executed, whatever was stored elsewhere.
abbrev pub OwnDataStay : Type 0
OwnDataStay =
    (window e sent : List ℕ) (is_admin : Bool) (b : DataBuffer) (stores : List Store)
    → length window ≡ window_size → HasList window → IsEntry e → IsWithin b (length sent) (moved is_admin e)
    → AllByRecursion (IsElsewhere b) stores
    → data_in (moved is_admin (placed is_admin e b (length sent)))
    (after_stores (with_bytes window (start b (length sent)) sent) stores) (placed is_admin e b (length sent))
    ≡ take (moved is_admin (placed is_admin e b (length sent))) sent

-- What an execution has stored in the buffer is there until it is read, whatever is stored elsewhere.
abbrev pub ReturnedDataStay : Type 0
ReturnedDataStay =
    (window returned : List ℕ) (b : DataBuffer) (size : ℕ) (stores : List Store) → length window ≡ window_size
    → IsArea (Buffer b) → size ≤ capacity b → length returned ≤ size → AllByRecursion (IsElsewhere b) stores
    → slice_range (after_stores (with_bytes window (start b size) returned) stores) (start b size)
    (start b size + length returned) ≡ returned
