-- What a program may do with an open driver, in any order, and over any bytes of its device.
use Rattle.std.specs.Prelude.{
  ◌≡◌,
  ◌≤◌,
  ℕ,
  ◌+◌,
  ◌==◌,
  Bool,
  true,
  false,
  if◌then◌else◌,
  List,
  [],
  ◌∷◌,
  ◌++◌,
  replicate,
  Option,
  None,
  Some,
}
use Rattle.nvme_driver.specs.declared.lane.Lane.{Lane}
use Rattle.nvme_wire.specs.Completion.{cid}
use Rattle.nvme_spec.specs.declared.command.Command.{Command}
use Rattle.nvme_device.specs.declared.admission.Span.{Span}
use Rattle.nvme_driver.specs.declared.request.Request.{Request}
use Rattle.nvme_driver.specs.declared.request.Request.TheVariants.{Identify}
use Rattle.nvme_driver.specs.declared.slots.Waiting.{Waiting}
use Rattle.nvme_driver.specs.Layout.{slot_count}
use Rattle.nvme_driver.specs.Requests.{Asked}
use Rattle.nvme_driver.specs.Drivers.{Driver, ends}
use Rattle.nvme_driver.specs.Polls.{next_entry, waiting_at}
use Rattle.nvme_driver.specs.Once.{times, borne}
use Rattle.nvme_host.specs.declared.devices.Limits.{Limits}
use Rattle.nvme_host.specs.declared.outcome.Outcome.{Outcome}
use Rattle.nvme_host.specs.declared.outcome.Placed.{Placed}
use Rattle.nvme_host.specs.declared.open_driver.OpenDriver.{OpenDriver}
use Rattle.nvme_host.specs.declared.completions.CompletionData.{CompletionData}
use Rattle.nvme_host.specs.declared.recording_port.Action.{Action}
use Rattle.nvme_host.specs.declared.stage.Stage.TheVariants as at
use Rattle.nvme_host.specs.Doorbells.{head_of_lane}
use Rattle.nvme_host.specs.Calls.{
  IsNew,
  Placing,
  Commanding,
  Asking,
  Polling,
  Ringing,
  Resetting,
  ShuttingDown,
  Expiring,
  BringingUp,
  TakingActions,
  Judging,
  CheckingStatus,
  ReportingCompletion,
}
use Rattle.nvme_host.specs.Completions.{StoringCompletion, StoringData}
use Rattle.nvme_host.specs.Refusals.{request_refusal, stopped_by}

-- The calls that may change an open driver: a request on a namespace is placed, with its command and its blocks; an
-- Identify is placed; a command that is no request is placed; a completion of a lane (queue pair), and bytes, are
-- copied from the device; actions are taken; and so on.
pub data Use : Type 0 where
  Places : ℕ → Command → Span → Request → Use
  Identifies : ℕ → ℕ → Use
  Commands : Bool → Asked → Use
  Asks : ℕ → Use
  Polls : Use
  Rings : Use
  Resets : Use
  ShutsDown : Use
  Expires : ℕ → Use
  BringsUp : Use
  Judges : ℕ → Use
  ChecksStatus : ℕ → ℕ → Use
  ReportsCompletion : List ℕ → Use
  StoresCompletion : Option Lane → List ℕ → Use
  StoresData : ℕ → List ℕ → Use
  TakesActions : Use

-- What calls show of tickets: those that placings gave, those that polls delivered with the controller's answer, and
-- those that polls delivered as aborted.
pub record Tickets : Type 0 where
  pub given : List ℕ
  pub done : List ℕ
  pub aborted : List ℕ

abbrev pub no_tickets : Tickets
no_tickets = record { given = []; done = []; aborted = [] }

abbrev pub both : Tickets → Tickets → Tickets
both a b = record { given = a.given ++ b.given; done = a.done ++ b.done; aborted = a.aborted ++ b.aborted }

-- the number of deliveries of a ticket
abbrev pub deliveries : ℕ → Tickets → ℕ
deliveries t tickets = times t tickets.done + times t tickets.aborted

-- the tickets of a placing, and of a poll
abbrev pub one_if : Bool → ℕ → List ℕ
one_if true t = t ∷ []
one_if false t = []

abbrev pub given_by : Placed → Tickets
given_by placed = record no_tickets { given = one_if (placed.code == 0) placed.ticket }

abbrev pub delivered_by : Outcome → Tickets
delivered_by outcome = record {
  given = [];
  done = one_if (outcome.code == 1) outcome.ticket;
  aborted = one_if (outcome.code == 2) outcome.ticket;
}

-- the effect of a call that shows no ticket
abbrev pub Quietly : Use → OpenDriver → OpenDriver → Type 0
Quietly (Places nsid command span request) old new = ⊥
Quietly (Identifies cns nsid) old new = ⊥
Quietly (Commands identifies asked) old new = ⊥
Quietly (Asks nsid) old new = ⊥
Quietly Polls old new = ⊥
Quietly Rings old new = (code : ℕ) × Ringing old code new
Quietly Resets old new = (code : ℕ) × Resetting old code new
Quietly ShutsDown old new = (code : ℕ) × ShuttingDown old code new
Quietly (Expires t) old new = (code : ℕ) × Expiring old t code new
Quietly BringsUp old new = (outcome : Outcome) × BringingUp old outcome new
Quietly (Judges cap) old new = (limits : Limits) × Judging old cap limits new
Quietly (ChecksStatus csts elapsed_ms) old new = (code : ℕ) × CheckingStatus old csts elapsed_ms code new
Quietly (ReportsCompletion bytes) old new = (code : ℕ) × ReportingCompletion old bytes code new
Quietly (StoresCompletion lane entry) old new =
    (outcome : CompletionData) × StoringCompletion lane old entry outcome new
Quietly (StoresData at part) old new = (code : ℕ) × StoringData old at part code new
Quietly TakesActions old new =
    (before : List Action) × (count : ℕ) × (after : List Action) × TakingActions old before count after new

-- the effect of a call, and the tickets that it shows
abbrev pub Used : Use → OpenDriver → Tickets → OpenDriver → Type 0
Used (Places nsid command span request) old tickets new =
    (placed : Placed) × Placing (request_refusal old nsid command span) old request placed new
    × (tickets ≡ given_by placed)
Used (Identifies cns nsid) old tickets new =
    (placed : Placed) × Placing (stopped_by old) old (Identify cns nsid) placed new × (tickets ≡ given_by placed)
Used (Commands identifies asked) old tickets new =
    (placed : Placed) × Commanding (stopped_by old) old identifies asked placed new × (tickets ≡ given_by placed)
Used (Asks nsid) old tickets new = (placed : Placed) × Asking old nsid placed new × (tickets ≡ given_by placed)
Used Polls old tickets new =
    (before : List ℕ) × (outcome : Outcome) × (buffer : List ℕ) × Polling old before outcome new buffer
    × (tickets ≡ delivered_by outcome)
Used other old tickets new = Quietly other old new × (tickets ≡ no_tickets)

-- calls, one after the other
abbrev pub Uses : List Use → OpenDriver → Tickets → OpenDriver → Type 0
Uses [] old tickets new = (tickets ≡ no_tickets) × (new ≡ old)
Uses (call ∷ later) old tickets new =
    (mid : OpenDriver) × (first : Tickets) × (rest : Tickets) × Used call old first mid
    × (tickets ≡ both first rest) × Uses later mid rest new

-- no request waits
abbrev pub IsIdle : OpenDriver → Type 0
IsIdle h = h.driver.slots ≡ replicate slot_count None

-- No ticket is delivered twice, and none that no placing gave, whatever the program calls, and whatever bytes the
-- device wrote. A placing gives no ticket twice.
abbrev pub DeliversGivenTicketsOnce : Type 0
DeliversGivenTicketsOnce =
    (uses : List Use) (tickets : Tickets) (old new : OpenDriver) (t : ℕ)
    → IsIdle old → Uses uses old tickets new
    → (deliveries t tickets ≤ times t tickets.given) × (times t tickets.given ≤ 1)

-- so a ticket that is delivered with the controller's answer is not delivered again
abbrev pub DeliversNoneAgain : Type 0
DeliversNoneAgain =
    (uses : List Use) (tickets : Tickets) (old new : OpenDriver) (t : ℕ) (later : List ℕ)
    → IsIdle old → Uses uses old tickets new → tickets.done ≡ t ∷ later
    → (times t later ≡ 0) × (times t tickets.aborted ≡ 0)

-- the number of slots that hold a request with this ticket that was not aborted
abbrev pub live_bears : ℕ → Option Waiting → ℕ
live_bears t None = 0
live_bears t (Some w) = if w.live then (if w.ticket.0 == t then 1 else 0) else 0

abbrev pub live_borne : ℕ → List (Option Waiting) → ℕ
live_borne t [] = 0
live_borne t (x ∷ xs) = live_bears t x + live_borne t xs

-- What a reset leaves of a ticket that a placing gave before it: the ticket was delivered before the reset, or it is
-- delivered as aborted after it, or its request still waits, aborted. So no answer of the controller from after the
-- reset has it.
pub record IsAborted (t : ℕ) (before after : Tickets) (new : OpenDriver) : Type 0 where
  pub done : times t after.done ≡ 0
  pub fate : deliveries t before + times t after.aborted + borne t new.driver.slots ≡ 1
  pub waits : live_borne t new.driver.slots ≡ 0

abbrev pub ResetsAbort : Type 0
ResetsAbort =
    (before_reset after_reset : List Use) (before after : Tickets) (old mid reset new : OpenDriver) (t : ℕ)
    → IsIdle old → Uses before_reset old before mid → Resetting mid 0 reset → Uses after_reset reset after new
    → 1 ≤ times t before.given → IsAborted t before after new

-- After a request expired no placing gives a ticket, until the program resets the controller. So what a late completion
-- answers was sent before, if it answers anything.
abbrev pub IsNoReset : Use → Type 0
IsNoReset Resets = ⊥
IsNoReset other = Unit {0}

abbrev pub HasNoReset : List Use → Type 0
HasNoReset [] = Unit {0}
HasNoReset (call ∷ later) = IsNoReset call × HasNoReset later

abbrev pub ExpiryStopsRequests : Type 0
ExpiryStopsRequests =
    (t : ℕ) (calls : List Use) (tickets : Tickets) (old expired new : OpenDriver)
    → Expiring old t 0 expired → HasNoReset calls → Uses calls expired tickets new
    → (new.stage ≡ at.Expired) × (tickets.given ≡ [])

-- A completion is the answer to the live request in the slot that it names, and to no other: the next completion of a
-- lane, in the window.
pub record NamesItsRequest (d : Driver) (window : List ℕ) (t : ℕ) : Type 0 where
  pub lane : Lane
  pub request : Waiting
  pub waits : waiting_at d.slots (cid (next_entry lane (ends lane d) window)) ≡ Some request
  pub live : request.live ≡ true
  pub own : request.ticket.0 ≡ t

abbrev pub AnswersNameTheirRequests : Type 0
AnswersNameTheirRequests =
    (old : OpenDriver) (before : List ℕ) (outcome : Outcome) (new : OpenDriver) (buffer : List ℕ)
    → Polling old before outcome new buffer → outcome.code ≡ 1
    → NamesItsRequest old.driver old.port.window outcome.ticket

-- The place where a program looks for the next completion of a lane is the place where the driver's next poll looks.
abbrev pub LooksWhereTheDriverLooks : Type 0
LooksWhereTheDriverLooks =
    (bytes : List ℕ) (first : ℕ) (uses : List Use) (tickets : Tickets) (old new : OpenDriver)
    → IsNew bytes first old → Uses uses old tickets new
    → (lane : Lane) → head_of_lane lane new.port.doorbells ≡ (ends lane new.driver).head
