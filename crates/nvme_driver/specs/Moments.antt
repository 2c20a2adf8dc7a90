-- Statement of the law `moments`: a poll over memory that a device writes at any moment.
use Rattle.std.specs.Prelude.{
  ◌≡◌,
  ◌≤◌,
  ℕ,
  ◌⊎◌,
  true,
  List,
  length,
  take,
  Option,
  None,
  Result,
  Ok,
}
use Rattle.nvme_driver.specs.declared.lane.Lane.{Lane}
use Rattle.nvme_driver.specs.declared.lane.Lane.TheVariants.{Admin, Io}
use Rattle.nvme_driver.specs.declared.answer.Answer.{Answer}
use Rattle.nvme_driver.specs.declared.faults.PollFault.{PollFault}
use Rattle.nvme_driver.specs.Calls.{Call}
use Rattle.nvme_driver.specs.Drivers.{Driver, is_up}
use Rattle.nvme_driver.specs.Polls.{IsOldest, IsPolled, Poll, entry_poll, head_of, phase_of}
use Rattle.nvme_driver.specs.Ports.{IsOld, IsOverMemory, Memory}
use Rattle.nvme_driver.specs.Snapshots.{NewIn, Settles, next_of}

-- the poll of one lane of some memory
abbrev pub lane_poll : Driver → Lane → List ℕ → Poll
lane_poll d lane memory = entry_poll d memory lane (next_of d lane memory)

-- The poll has found nothing: the next completion of each lane was not new at some moment of the call.
pub record FindsNothing (d : Driver) (m : Memory) (from to : ℕ) (result : Result (Option Answer) PollFault)
    (d' : Driver) : Type 0 where
  pub admin : IsOld m from to Admin (head_of d.admin) (phase_of d.admin)
  pub io : IsOld m from to Io (head_of d.io) (phase_of d.io)
  pub gives : result ≡ Ok None
  pub driver : d' ≡ d

-- Or its outcome is that of one lane at one moment of the call, in which the next completion of the lane was new. Which
-- lane that is depends on the device: while the driver looks at the admin lane, a completion may come there.
pub record IsOfOneLane (d : Driver) (m : Memory) (from to : ℕ) (result : Result (Option Answer) PollFault)
    (d' : Driver) (buffer : List ℕ) : Type 0 where
  pub lane : Lane
  pub moment : ℕ
  pub after : from ≤ moment
  pub before : moment ≤ to
  pub new : NewIn d lane (m moment)
  pub gives : result ≡ (lane_poll d lane (m moment)).answer
  pub driver : d' ≡ (lane_poll d lane (m moment)).driver
  pub front : take (length (lane_poll d lane (m moment)).bytes) buffer ≡ (lane_poll d lane (m moment)).bytes

-- So it is, if the driver is up and has no aborted request, and the device leaves a new completion and the data that it
-- answers until the driver consumes it.
abbrev pub PollsAreOfMoments : {S : Type 0} → (S → Call → S → Type 0) → Type 0
PollsAreOfMoments {S} step =
    (m : Memory) (clock : S → ℕ) (d d' : Driver) (old new : S) (result : Result (Option Answer) PollFault)
    (buffer : List ℕ) → IsOverMemory step m clock → ((lane : Lane) → Settles d lane m) → IsOldest d.slots None
    → is_up d.state ≡ true → IsPolled step d old result d' new buffer
    → FindsNothing d m (clock old) (clock new) result d' ⊎ IsOfOneLane d m (clock old) (clock new) result d' buffer
