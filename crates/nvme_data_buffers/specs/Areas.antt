-- The parts of the memory that a host shares with its controller: the pages of queues, the PRP list, and data buffers.
use Rattle.std.specs.Prelude.{ℕ, ◌+◌, ◌-◌, ◌*◌, ◌<◌, ◌≤◌, ◌≡◌, ◌≢◌, ◌⊎◌, List, length, slice_range}
use Rattle.nvme_spec.specs.Bytes.{with_bytes}
use Rattle.nvme_spec.specs.Limits.{memory_page, highest_queue}
use Rattle.nvme_spec.specs.Memory.{window_size, LiesInWindow}
use Rattle.nvme_spec.specs.declared.pointer.Piece.{Piece}
use Rattle.nvme_data_buffers.specs.Buffers.{
  capacity,
  end_of,
  most_held,
  list_place,
  listed_pages,
  start,
  prp_list,
  HasList,
}
use Rattle.nvme_data_buffers.specs.Queues.{submission_queue, completion_queue}
use Rattle.nvme_data_buffers.specs.declared.buffer.DataBuffer.{DataBuffer}
use Rattle.nvme_data_buffers.specs.declared.buffer.DataBuffer.TheVariants.{AtOnce, Held}

pub data Area : Type 0 where
  Commands : ℕ → Area
  Completions : ℕ → Area
  Listing : Area
  Buffer : DataBuffer → Area

abbrev pub IsBuffer : DataBuffer → Type 0
IsBuffer AtOnce = Unit {0}
IsBuffer (Held n) = n < most_held

-- queues have the identifiers up to 4, and all others share pages
abbrev pub IsArea : Area → Type 0
IsArea (Commands qid) = qid ≤ highest_queue + 1
IsArea (Completions qid) = qid ≤ highest_queue + 1
IsArea Listing = Unit {0}
IsArea (Buffer b) = IsBuffer b

abbrev pub extent : Area → Piece
extent (Commands qid) = record { address = submission_queue qid; len = memory_page }
extent (Completions qid) = record { address = completion_queue qid; len = memory_page }
extent Listing = record { address = list_place; len = 8 * listed_pages }
extent (Buffer b) = record { address = end_of b - capacity b; len = capacity b }

-- each is in the window
abbrev pub AreasLieInWindow : Type 0
AreasLieInWindow = (a : Area) → IsArea a → LiesInWindow (extent a)

-- pieces without a common byte
abbrev pub AreApart : Piece → Piece → Type 0
AreApart p q = (p.address + p.len ≤ q.address) ⊎ (q.address + q.len ≤ p.address)

-- no two have a common byte
abbrev pub AreasAreApart : Type 0
AreasAreApart = (a b : Area) → IsArea a → IsArea b → a ≢ b → AreApart (extent a) (extent b)

-- data that fit are in their buffer
pub record LiesIn (p : Piece) (first size : ℕ) : Type 0 where
  pub from : p.address ≤ first
  pub until : first + size ≤ p.address + p.len

abbrev pub DataLieInTheirBuffer : Type 0
DataLieInTheirBuffer =
    (b : DataBuffer) (size : ℕ) → size ≤ capacity b → LiesIn (extent (Buffer b)) (start b size) size

-- bytes that are stored in one area leave those of another
abbrev pub StoresKeepOtherAreas : Type 0
StoresKeepOtherAreas =
    (window part : List ℕ) (a b : Area) (at i n : ℕ) → length window ≡ window_size → IsArea a → IsArea b → a ≢ b
    → LiesIn (extent a) at (length part) → LiesIn (extent b) i n
    → slice_range (with_bytes window at part) i (i + n) ≡ slice_range window i (i + n)

-- the list is there once it is stored, and stays when bytes are stored in another area
abbrev pub StoredListIsThere : Type 0
StoredListIsThere = (window : List ℕ) → length window ≡ window_size → HasList (with_bytes window list_place prp_list)

abbrev pub StoresKeepTheList : Type 0
StoresKeepTheList =
    (window part : List ℕ) (a : Area) (at : ℕ) → length window ≡ window_size → IsArea a → a ≢ Listing
    → LiesIn (extent a) at (length part) → HasList window → HasList (with_bytes window at part)
