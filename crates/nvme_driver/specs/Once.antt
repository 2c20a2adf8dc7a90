-- Statements of the law `tickets`: a ticket is delivered at most once, for any calls of the host and any bytes of the
-- window.
use Rattle.std.specs.Prelude.{
  ◌≡◌,
  ◌≤◌,
  ℕ,
  ◌+◌,
  ◌==◌,
  if◌then◌else◌,
  List,
  [],
  ◌∷◌,
  ◌++◌,
  Option,
  None,
  Some,
  Result,
  Ok,
  Err,
}
use Rattle.nvme_driver.specs.declared.slots.Waiting.{Waiting}
use Rattle.nvme_driver.specs.declared.request.Request.{Request}
use Rattle.nvme_driver.specs.declared.answer.Answer.{Answer}
use Rattle.nvme_driver.specs.declared.answer.Answer.TheVariants.{Done, Aborted}
use Rattle.nvme_driver.specs.declared.faults.PollFault.{PollFault}
use Rattle.nvme_driver.specs.Drivers.{Driver, new_driver, free_slot, placed, after_reset}
use Rattle.nvme_driver.specs.HostCommands.{placed_command}
use Rattle.nvme_driver.specs.Calls.{Call}
use Rattle.nvme_driver.specs.Polls.{IsOldest, IsPolled, polled}
use Rattle.nvme_driver.specs.Requests.{Asked}

-- The effect of a call on the requests: a request, or a command, is placed in a slot; a poll of a window, with this
-- oldest aborted request; a reset; or no effect, like that of a ring, a bring-up or a refusal.
pub data Event : Type 0 where
  Places : Request → ℕ → Event
  PlacesCommand : Asked → ℕ → Event
  Polls : Option ℕ → List ℕ → Event
  Resets : Event
  Stays : Event

abbrev pub Happens : Event → Driver → Driver → Type 0
Happens (Places request slot) d d' = (free_slot d ≡ Some slot) × (d' ≡ placed d request slot)
Happens (PlacesCommand asked slot) d d' = (free_slot d ≡ Some slot) × (d' ≡ placed_command d asked slot)
Happens (Polls oldest window) d d' = IsOldest d.slots oldest × (d' ≡ (polled d oldest window).driver)
Happens Resets d d' = d' ≡ after_reset d
Happens Stays d d' = (d'.slots ≡ d.slots) × (d'.next ≡ d.next)

-- the ticket of an answer
abbrev pub handed_by : Result (Option Answer) PollFault → List ℕ
handed_by (Ok (Some (Done ticket status word len))) = ticket.0 ∷ []
handed_by (Ok (Some (Aborted ticket))) = ticket.0 ∷ []
handed_by (Ok None) = []
handed_by (Err fault) = []

abbrev pub handed : Event → Driver → List ℕ
handed (Places request slot) d = []
handed (PlacesCommand asked slot) d = []
handed (Polls oldest window) d = handed_by (polled d oldest window).answer
handed Resets d = []
handed Stays d = []

-- these calls, in order, and the tickets that they deliver
abbrev pub Run : List Event → Driver → List ℕ → Driver → Type 0
Run [] d tickets d' = (tickets ≡ []) × (d' ≡ d)
Run (event ∷ events) d tickets d' =
    (mid : Driver) × (later : List ℕ) × Happens event d mid × (tickets ≡ handed event d ++ later)
    × Run events mid later d'

-- the number of occurrences in a list
abbrev pub times : ℕ → List ℕ → ℕ
times t [] = 0
times t (u ∷ us) = (if u == t then 1 else 0) + times t us

-- the number of slots that hold a request with this ticket
abbrev pub bears : ℕ → Option Waiting → ℕ
bears t None = 0
bears t (Some w) = if w.ticket.0 == t then 1 else 0

abbrev pub borne : ℕ → List (Option Waiting) → ℕ
borne t [] = 0
borne t (x ∷ xs) = bears t x + borne t xs

-- a ticket that is delivered is that of a request in a slot
abbrev pub HandsUpOutstanding : Type 0
HandsUpOutstanding =
    (d : Driver) (oldest : Option ℕ) (window : List ℕ) (t : ℕ) → IsOldest d.slots oldest
    → handed (Polls oldest window) d ≡ t ∷ [] → 1 ≤ borne t d.slots

-- no ticket is delivered twice
abbrev pub HandsUpOnce : Type 0
HandsUpOnce =
    (first : ℕ) (events : List Event) (tickets : List ℕ) (d : Driver) (t : ℕ)
    → Run events (new_driver first) tickets d → times t tickets ≤ 1

-- A poll over any port, whatever its device writes meanwhile, is such an event, and delivers the ticket of its answer.
pub record IsEvent (d : Driver) (result : Result (Option Answer) PollFault) (d' : Driver) : Type 0 where
  pub event : Event
  pub happens : Happens event d d'
  pub delivers : handed event d ≡ handed_by result

abbrev pub PollsAreEvents : {S : Type 0} → (S → Call → S → Type 0) → Type 0
PollsAreEvents {S} step =
    (d d' : Driver) (old new : S) (result : Result (Option Answer) PollFault) (buffer : List ℕ)
    → IsPolled step d old result d' new buffer → IsEvent d result d'
