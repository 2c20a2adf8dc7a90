-- What a program takes from the memory of its device for a driver: completions, and the data that come with them.
use Rattle.std.specs.Prelude.{
  ◌≡◌,
  ◌≤◌,
  ◌<◌,
  ℕ,
  ◌+◌,
  ◌==◌,
  if◌then◌else◌,
  List,
  length,
  slice_range,
  Option,
  None,
  Some,
}
use Rattle.nvme_wire.specs.Completion.{cid, status}
use Rattle.nvme_spec.specs.Bytes.{with_bytes}
use Rattle.nvme_spec.specs.Memory.{window_size}
use Rattle.nvme_spec.specs.Queues.{CompletionHead, phase_tag}
use Rattle.nvme_driver.specs.declared.lane.Lane.{Lane}
use Rattle.nvme_driver.specs.declared.lane.Lane.TheVariants.{Admin, Io}
use Rattle.nvme_driver.specs.declared.slots.Waiting.{Waiting}
use Rattle.nvme_driver.specs.Layout.{data_area}
use Rattle.nvme_driver.specs.Polls.{waiting_at, live_in, is_success}
use Rattle.nvme_host.specs.declared.doorbells.Doorbells.{Doorbells}
use Rattle.nvme_host.specs.declared.open_driver.OpenDriver.{OpenDriver}
use Rattle.nvme_host.specs.declared.completions.NextCompletion.{NextCompletion}
use Rattle.nvme_host.specs.declared.completions.CompletionData.{CompletionData}
use Rattle.nvme_host.specs.Doorbells.{head_of_lane, next_place}
use Rattle.nvme_host.specs.Refusals.{blocked_by}

-- the lane (queue pair) with this number
abbrev pub lane_of : ℕ → Option Lane
lane_of queue = if queue == 0 then Some Admin else (if queue == 1 then Some Io else None)

abbrev pub no_next_completion : ℕ → NextCompletion
no_next_completion code = record { at = 0; phase = 0; code = code }

abbrev pub no_data : ℕ → CompletionData
no_data code = record { at = 0; len = 0; code = code }

-- the place and the phase tag of the next completion of a lane
abbrev pub phase_by : CompletionHead → ℕ
phase_by head = if phase_tag head.size head.consumed then 1 else 0

abbrev pub next_completion_in : Option Lane → Doorbells → NextCompletion
next_completion_in None doorbells = no_next_completion 32
next_completion_in (Some lane) doorbells =
    record { at = next_place lane doorbells; phase = phase_by (head_of_lane lane doorbells); code = 0 }

-- the data that come with a completion: those of the live request in its slot, if it succeeded
abbrev pub data_of : Option Waiting → List ℕ → CompletionData
data_of None entry = no_data 0
data_of (Some w) entry =
    if is_success (status entry) then record { at = data_area (cid entry); len = w.received; code = 0 } else no_data 0

-- a completion of a lane comes into the window, in its place
pub record StoredCompletion (lane : Lane) (old : OpenDriver) (entry : List ℕ) (outcome : CompletionData)
    (new : OpenDriver) : Type 0 where
  pub gives : outcome ≡ data_of (live_in lane (waiting_at old.driver.slots (cid entry))) entry
  pub window : new.port.window ≡ with_bytes old.port.window (next_place lane old.port.doorbells) entry
  pub port : new.port ≡ record old.port { window = new.port.window }
  pub kept : new ≡ record old { port = new.port }

abbrev pub StoringCompletionUnless : Option ℕ → Lane → OpenDriver → List ℕ → CompletionData → OpenDriver → Type 0
StoringCompletionUnless (Some code) lane old entry outcome new = (outcome ≡ no_data code) × (new ≡ old)
StoringCompletionUnless None lane old entry outcome new = StoredCompletion lane old entry outcome new

abbrev pub StoringCompletion : Option Lane → OpenDriver → List ℕ → CompletionData → OpenDriver → Type 0
StoringCompletion None old entry outcome new = (outcome ≡ no_data 32) × (new ≡ old)
StoringCompletion (Some lane) old entry outcome new =
    StoringCompletionUnless (blocked_by old) lane old entry outcome new

-- bytes come into the window, if they fit
pub record StoredData (old : OpenDriver) (at : ℕ) (part : List ℕ) (code : ℕ) (new : OpenDriver) : Type 0 where
  pub inside : at + length part ≤ window_size → (code ≡ 0) × (new.port.window ≡ with_bytes old.port.window at part)
  pub outside : window_size < at + length part → (code ≡ 32) × (new.port.window ≡ old.port.window)
  pub port : new.port ≡ record old.port { window = new.port.window }
  pub kept : new ≡ record old { port = new.port }

abbrev pub StoringDataUnless : Option ℕ → OpenDriver → ℕ → List ℕ → ℕ → OpenDriver → Type 0
StoringDataUnless (Some reason) old at part code new = (code ≡ reason) × (new ≡ old)
StoringDataUnless None old at part code new = StoredData old at part code new

abbrev pub StoringData : OpenDriver → ℕ → List ℕ → ℕ → OpenDriver → Type 0
StoringData old at part code new = StoringDataUnless (blocked_by old) old at part code new

-- bytes of the window are copied, if they are there
pub record Loads (window : List ℕ) (at : ℕ) (before : List ℕ) (code : ℕ) (after : List ℕ) : Type 0 where
  pub inside : at + length before ≤ window_size
      → (code ≡ 0) × (after ≡ slice_range window at (at + length before))
  pub outside : window_size < at + length before → (code ≡ 32) × (after ≡ before)
