-- The parts of a driver's window: the queue pages of its two lanes (queue pairs), and for each of its 24 slots a page
-- for a PRP list and an area for data. Also the doorbells (Base Specification: Submission Queue Tail Doorbell,
-- Completion Queue Head Doorbell).
use Rattle.std.specs.Prelude.{ℕ, ◌+◌, ◌*◌, ◌<◌, ◌≤◌, ◌≢◌, ◌⊎◌}
use Rattle.nvme_spec.specs.Limits.{memory_page, most_bytes}
use Rattle.nvme_spec.specs.Memory.{LiesInWindow}
use Rattle.nvme_spec.specs.Queues.{submission_place, completion_place}
use Rattle.nvme_spec.specs.declared.pointer.Piece.{Piece}
use Rattle.nvme_driver.specs.declared.lane.Lane.{Lane}
use Rattle.nvme_driver.specs.declared.lane.Lane.TheVariants.{Admin, Io}

abbrev pub slot_count : ℕ
slot_count = 24

-- the numbers of entries of a lane's two queues
abbrev pub submission_entries : ℕ
submission_entries = 8

abbrev pub completion_entries : ℕ
completion_entries = 32

-- the identifier of a lane's two queues
abbrev pub queue_id : Lane → ℕ
queue_id Admin = 0
queue_id Io = 1

-- the pages of a lane's two queues
abbrev pub submission_queue : Lane → ℕ
submission_queue lane = 0x2000 * queue_id lane

abbrev pub completion_queue : Lane → ℕ
completion_queue lane = 0x1000 + 0x2000 * queue_id lane

-- the addresses of the n-th command and of the n-th completion of a lane
abbrev pub command_place : Lane → ℕ → ℕ
command_place lane n = submission_place (submission_queue lane) submission_entries n

abbrev pub completion_place_in : Lane → ℕ → ℕ
completion_place_in lane n = completion_place (completion_queue lane) completion_entries n

-- the list page of a slot, and its data
abbrev pub list_page : ℕ → ℕ
list_page slot = 0x10000 + 0x1000 * slot

abbrev pub data_area : ℕ → ℕ
data_area slot = 0x100000 + 0x20000 * slot

-- the doorbells of a lane
abbrev pub tail_doorbell : Lane → ℕ
tail_doorbell lane = 0x1000 + 8 * queue_id lane

abbrev pub head_doorbell : Lane → ℕ
head_doorbell lane = 0x1004 + 8 * queue_id lane

-- The parts of the window.
pub data Area : Type 0 where
  Commands : Lane → Area
  Completions : Lane → Area
  Listing : ℕ → Area
  Holding : ℕ → Area

abbrev pub IsArea : Area → Type 0
IsArea (Commands lane) = Unit {0}
IsArea (Completions lane) = Unit {0}
IsArea (Listing slot) = slot < slot_count
IsArea (Holding slot) = slot < slot_count

abbrev pub extent : Area → Piece
extent (Commands lane) = record { address = submission_queue lane; len = memory_page }
extent (Completions lane) = record { address = completion_queue lane; len = memory_page }
extent (Listing slot) = record { address = list_page slot; len = memory_page }
extent (Holding slot) = record { address = data_area slot; len = most_bytes }

-- each is in the window
abbrev pub AreasLieInWindow : Type 0
AreasLieInWindow = (a : Area) → IsArea a → LiesInWindow (extent a)

-- pieces without a common byte
abbrev pub AreApart : Piece → Piece → Type 0
AreApart p q = (p.address + p.len ≤ q.address) ⊎ (q.address + q.len ≤ p.address)

-- no two parts have a common byte
abbrev pub AreasAreApart : Type 0
AreasAreApart = (a b : Area) → IsArea a → IsArea b → a ≢ b → AreApart (extent a) (extent b)

-- entries are in their queue's page
abbrev pub EntriesLieInTheirPages : Type 0
EntriesLieInTheirPages =
    (lane : Lane) (n : ℕ) →
    (submission_queue lane ≤ command_place lane n) × (command_place lane n + 64 ≤ submission_queue lane + memory_page)
    × (completion_queue lane ≤ completion_place_in lane n)
    × (completion_place_in lane n + 16 ≤ completion_queue lane + memory_page)
