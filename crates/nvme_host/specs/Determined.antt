-- Each call of an open driver has one outcome: its relation leaves no field open. That it has one is what the contract
-- of its function says.
use Rattle.std.specs.Prelude.{◌≡◌, ℕ, Bool, List, length, Option, Some}
use Rattle.nvme_driver.specs.declared.request.Request.{Request}
use Rattle.nvme_driver.specs.declared.slots.Waiting.{Waiting}
use Rattle.nvme_driver.specs.declared.ticket.Ticket.{Ticket}
use Rattle.nvme_driver.specs.declared.lane.Lane.{Lane}
use Rattle.nvme_driver.specs.Requests.{Asked}
use Rattle.nvme_driver.specs.Polls.{aborted_at, handed_len, polled}
use Rattle.nvme_host.specs.declared.outcome.Outcome.{Outcome}
use Rattle.nvme_host.specs.declared.open_driver.OpenDriver.{OpenDriver}
use Rattle.nvme_host.specs.declared.recording_port.Action.{Action}
use Rattle.nvme_host.specs.Calls.{
  Placing,
  Commanding,
  Asking,
  Polling,
  Ringing,
  Resetting,
  ShuttingDown,
  Expiring,
  BringingUp,
  TakingActions,
  Judging,
  CheckingStatus,
  ReportingCompletion,
}
use Rattle.nvme_host.specs.Completions.{StoringCompletion, StoringData}
use Rattle.nvme_host.specs.Runs.{Use, Tickets, Uses, IsIdle}

-- a call with one outcome, from each state
abbrev pub IsDetermined : {A : Type 0} → (OpenDriver → A → OpenDriver → Type 0) → Type 0
IsDetermined {A} call =
    (old : OpenDriver) (one two : A) (new other : OpenDriver) → call old one new → call old two other
    → (one ≡ two) × (new ≡ other)

-- no two slots hold aborted requests with one ticket: so it is in each run
abbrev pub HasDistinctTickets : List (Option Waiting) → Type 0
HasDistinctTickets slots =
    (j k : ℕ) (t : Ticket) → aborted_at slots j ≡ Some t → aborted_at slots k ≡ Some t → j ≡ k

abbrev pub RunsHaveDistinctTickets : Type 0
RunsHaveDistinctTickets =
    (uses : List Use) (tickets : Tickets) (old new : OpenDriver)
    → IsIdle old → Uses uses old tickets new → HasDistinctTickets new.driver.slots

-- the data of an answer are in the window, which has 4 MiB
abbrev pub HasItsData : OpenDriver → Type 0
HasItsData h =
    (oldest : Option ℕ)
    → length (polled h.driver oldest h.port.window).bytes ≡ handed_len (polled h.driver oldest h.port.window).answer

abbrev pub PollsAreDetermined : Type 0
PollsAreDetermined =
    (old : OpenDriver) (before : List ℕ) (one two : Outcome) (new other : OpenDriver) (buffer bytes : List ℕ)
    → HasDistinctTickets old.driver.slots → HasItsData old
    → Polling old before one new buffer → Polling old before two other bytes
    → (one ≡ two) × (new ≡ other) × (buffer ≡ bytes)

abbrev pub TakingsAreDetermined : Type 0
TakingsAreDetermined =
    (old : OpenDriver) (before : List Action) (one two : ℕ) (after afterwards : List Action) (new other : OpenDriver)
    → TakingActions old before one after new → TakingActions old before two afterwards other
    → (one ≡ two) × (new ≡ other) × (after ≡ afterwards)

pub record CallsAreDetermined : Type 0 where
  pub placing : (refusal : Option ℕ) (request : Request)
      → IsDetermined (λ old placed new. Placing refusal old request placed new)
  pub commanding : (refusal : Option ℕ) (identifies : Bool) (asked : Asked)
      → IsDetermined (λ old placed new. Commanding refusal old identifies asked placed new)
  pub asking : (nsid : ℕ) → IsDetermined (λ old placed new. Asking old nsid placed new)
  pub polling : PollsAreDetermined
  pub ringing : IsDetermined Ringing
  pub resetting : IsDetermined Resetting
  pub shutting_down : IsDetermined ShuttingDown
  pub expiring : (t : ℕ) → IsDetermined (λ old code new. Expiring old t code new)
  pub bringing_up : IsDetermined BringingUp
  pub taking : TakingsAreDetermined
  pub judging : (cap : ℕ) → IsDetermined (λ old limits new. Judging old cap limits new)
  pub checking : (csts elapsed_ms : ℕ) → IsDetermined (λ old code new. CheckingStatus old csts elapsed_ms code new)
  pub reporting : (bytes : List ℕ) → IsDetermined (λ old code new. ReportingCompletion old bytes code new)
  pub storing : (lane : Option Lane) (entry : List ℕ)
      → IsDetermined (λ old outcome new. StoringCompletion lane old entry outcome new)
  pub storing_data : (at : ℕ) (part : List ℕ) → IsDetermined (λ old code new. StoringData old at part code new)
