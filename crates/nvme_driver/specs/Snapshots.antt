-- A device that writes to memory while a driver reads it (Base Specification: Completion Queue Entry, Phase Tag).
use Rattle.std.specs.Prelude.{◌≡◌, ◌≤◌, ℕ, ◌+◌, true, false, List, ◌++◌, take, drop, slice_range, None, Some}
use Rattle.nvme_wire.specs.Completion.{cid, status}
use Rattle.nvme_driver.specs.declared.lane.Lane.{Lane}
use Rattle.nvme_driver.specs.declared.lane.Lane.TheVariants.{Admin, Io}
use Rattle.nvme_driver.specs.declared.slots.Waiting.{Waiting}
use Rattle.nvme_driver.specs.Layout.{data_area}
use Rattle.nvme_driver.specs.Drivers.{Driver, ends, is_up}
use Rattle.nvme_driver.specs.Ports.{Memory}
use Rattle.nvme_driver.specs.Polls.{next_entry, is_new, answered, answer_len, entry_poll, polled}

-- the next completion of a lane, in some bytes
abbrev pub next_of : Driver → Lane → List ℕ → List ℕ
next_of d lane window = next_entry lane (ends lane d) window

abbrev pub NewIn : Driver → Lane → List ℕ → Type 0
NewIn d lane window = is_new (ends lane d) (next_of d lane window) ≡ true

-- the data of the request that an entry answers
abbrev pub data_of : List ℕ → Waiting → List ℕ → List ℕ
data_of entry w window =
    slice_range window (data_area (cid entry)) (data_area (cid entry) + answer_len w.received (status entry))

-- The premise on the device: once the next completion of a lane is new, its entry stays, and so do the data of the
-- request that it answers, until the driver consumes it.
pub record Settles (d : Driver) (lane : Lane) (m : Memory) : Type 0 where
  pub entry : (s t : ℕ) → s ≤ t → NewIn d lane (m s) → next_of d lane (m t) ≡ next_of d lane (m s)
  pub moved : (s t : ℕ) → s ≤ t → NewIn d lane (m s) → (w : Waiting)
      → answered d lane (next_of d lane (m s)) ≡ Some w
      → data_of (next_of d lane (m s)) w (m t) ≡ data_of (next_of d lane (m s)) w (m s)

-- The premise on a port with a window of its own: of the next completion of a lane it reads the last double word first,
-- which has the phase tag; then the other twelve bytes; then the data of the request that it answers.
pub record Snapshot (d : Driver) (lane : Lane) (m : Memory) (window : List ℕ) : Type 0 where
  pub first : ℕ
  pub second : ℕ
  pub third : ℕ
  pub rest_later : first ≤ second
  pub data_later : second ≤ third
  pub new : NewIn d lane (m first)
  pub entry : next_of d lane window ≡ take 12 (next_of d lane (m second)) ++ drop 12 (next_of d lane (m first))
  pub moved : (w : Waiting) → answered d lane (next_of d lane window) ≡ Some w
      → data_of (next_of d lane window) w window ≡ data_of (next_of d lane window) w (m third)

-- Then a poll of that lane over the port's own window has the outcome of a poll over the device's memory at one moment,
-- in which that completion is new.
pub record IsOfOneMoment (d : Driver) (lane : Lane) (m : Memory) (window : List ℕ) : Type 0 where
  pub moment : ℕ
  pub new : NewIn d lane (m moment)
  pub same : entry_poll d window lane (next_of d lane window) ≡ entry_poll d (m moment) lane (next_of d lane (m moment))

abbrev pub SnapshotsAreOfOneMoment : Type 0
SnapshotsAreOfOneMoment =
    (d : Driver) (lane : Lane) (m : Memory) (window : List ℕ) → Settles d lane m → Snapshot d lane m window
    → IsOfOneMoment d lane m window

-- So a poll has the outcome of one lane of the device's memory at one moment, if no request was aborted and the driver
-- is up. The snapshots decide which lane: the admin lane is first among them. In the device's memory an admin
-- completion may have become new meanwhile.
pub record IsPollOfOneMoment (d : Driver) (lane : Lane) (m : Memory) (window : List ℕ) : Type 0 where
  pub moment : ℕ
  pub new : NewIn d lane (m moment)
  pub same : polled d None window ≡ entry_poll d (m moment) lane (next_of d lane (m moment))

-- the lane is the admin lane, or nothing new was seen of that one
abbrev pub IsFirstSeen : Driver → Lane → List ℕ → Type 0
IsFirstSeen d Admin window = Unit {0}
IsFirstSeen d Io window = is_new d.admin (next_of d Admin window) ≡ false

abbrev pub PollsAreOfOneMoment : Type 0
PollsAreOfOneMoment =
    (d : Driver) (lane : Lane) (m : Memory) (window : List ℕ) → is_up d.state ≡ true → IsFirstSeen d lane window
    → Settles d lane m → Snapshot d lane m window → IsPollOfOneMoment d lane m window
