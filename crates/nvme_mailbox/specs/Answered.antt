-- Statements of the law `done_is_its_execution`: an answer that is delivered as done is that of an execution of its own
-- request, which was placed; both in the run since the mailbox was clear, as each reset leaves it.
use Rattle.std.specs.Prelude.{◌≡◌, ◌⊎◌, ℕ, Bool, List, [], ◌∷◌, length, Some, Ok, slice_get}
use Rattle.nvme_wire.specs.declared.status.Status.{Status}
use Rattle.nvme_machine.specs.declared.seen.Executed.TheVariants.{Posted}
use Rattle.nvme_driver.specs.declared.answer.Answer.TheVariants.{Done}
use Rattle.nvme_driver.specs.declared.request.Request.{Request}
use Rattle.nvme_driver.specs.Requests.{asked_of}
use Rattle.nvme_event.specs.declared.event.FleetEvent.{FleetEvent}
use Rattle.nvme_event.specs.declared.event.FleetEvent.TheVariants.{Place, Execute, Poll}
use Rattle.nvme_event.specs.declared.seen.FleetSeen.TheVariants.{Placed, Executed, Polled}
use Rattle.nvme_event.specs.Replies.{Reply}
use Rattle.nvme_mailbox.specs.Mailboxes.{Item, FetchedItem, Mailbox, new_mailbox}
use Rattle.nvme_mailbox.specs.Deliveries.{plain, reset}
use Rattle.nvme_mailbox.specs.Executions.{RequestExecution, RequestComesTo}
use Rattle.nvme_mailbox.specs.Fleets.{Fleet, Step, Run}
use Rattle.nvme_mailbox.specs.Apart.{HasMailbox}
use Rattle.nvme_mailbox.specs.Tickets.{waiting, posted_answers}

-- host k places a request, which gets this ticket and has these fields
pub record Places (k : ℕ) (item : Item) (old : Fleet) (event : FleetEvent) (reply : Reply) (new : Fleet) : Type 0 where
  pub request : Request
  pub event_is : event ≡ Place k request
  pub asked : item.asked ≡ asked_of request
  pub gives : reply ≡ plain (Placed (Ok (record { 0 = item.ticket })))

-- The answer to a request: the status, double word 0, and the data.
pub record Conclusion : Type 0 where
  pub status : Status
  pub dw0 : ℕ
  pub bytes : List ℕ

abbrev pub conclusion_of : RequestExecution → Conclusion
conclusion_of r = record { status = r.outcome.status; dw0 = r.outcome.dw0; bytes = r.bytes }

-- controller k executes the request, in the site of that moment, with this answer
pub record Executes (tells : Bool) (k : ℕ) (item : Item) (conclusion : Conclusion) (old : Fleet) (event : FleetEvent)
    (reply : Reply) (new : Fleet) : Type 0 where
  pub place : ℕ
  pub event_is : event ≡ Execute k place
  pub mailbox : Mailbox
  pub host : HasMailbox old k mailbox
  pub fetched : FetchedItem
  pub found : slice_get mailbox.fetched place ≡ Some fetched
  pub item_is : fetched.item ≡ item
  pub execution : RequestExecution
  pub comes_to : RequestComesTo tells k fetched old.site execution
  pub gives : reply ≡ plain (Executed (Posted execution.outcome))
  pub leaves : new.site ≡ execution.left
  pub conclusion_is : conclusion ≡ conclusion_of execution

-- A property of one event.
abbrev pub EventProperty : Type 1
EventProperty = Fleet → FleetEvent → Reply → Fleet → Type 0

-- some event of the run has it
abbrev pub Happens : EventProperty → (tells : Bool) → (old : Fleet) → (events : List FleetEvent)
    → (replies : List Reply)
    → (new : Fleet) → Run tells old events replies new → Type 0
Happens what tells old [] [] new run = ⊥
Happens what tells old (event ∷ events) (reply ∷ later) new run =
    what old event reply run.0 ⊎ Happens what tells run.0 events later new run.2
Happens what tells old [] (reply ∷ later) new run = ⊥
Happens what tells old (event ∷ events) [] new run = ⊥

-- some event of the run has the first property, and a later one the second
abbrev pub HappensThen : EventProperty → EventProperty → (tells : Bool) → (old : Fleet) → (events : List FleetEvent)
    → (replies : List Reply) → (new : Fleet) → Run tells old events replies new → Type 0
HappensThen first then tells old [] [] new run = ⊥
HappensThen first then tells old (event ∷ events) (reply ∷ later) new run =
    (first old event reply run.0 × Happens then tells run.0 events later new run.2)
    ⊎ HappensThen first then tells run.0 events later new run.2
HappensThen first then tells old [] (reply ∷ later) new run = ⊥
HappensThen first then tells old (event ∷ events) [] new run = ⊥

-- no request waits, and no answer
pub record IsClear (m : Mailbox) : Type 0 where
  pub requests : waiting m ≡ []
  pub posted : posted_answers m ≡ []

abbrev pub ResetClears : Type 0
ResetClears = (m : Mailbox) → IsClear (reset m).mailbox

abbrev pub NewIsClear : Type 0
NewIsClear = (first : ℕ) → IsClear (new_mailbox first)

-- The request with this ticket was placed in the run, was executed in a later event of it, and got this answer.
pub record WasPlacedAndExecuted (tells : Bool) (k ticket : ℕ) (conclusion : Conclusion) (old : Fleet)
    (events : List FleetEvent) (replies : List Reply) (new : Fleet)
    (run : Run tells old events replies new) : Type 0 where
  pub item : Item
  pub ticket_is : item.ticket ≡ ticket
  pub happened : HappensThen (Places k item) (Executes tells k item conclusion) tells old events replies new run

-- An answer that a Poll delivers as done after a run from there is that of the execution of its own request.
abbrev pub DoneIsItsExecution : Type 0
DoneIsItsExecution =
    (tells : Bool) → (old mid new : Fleet) → (events : List FleetEvent) → (replies : List Reply)
    → (run : Run tells old events replies mid)
    → (k : ℕ) → (m : Mailbox) → HasMailbox old k m → IsClear m
    → (reply : Reply) → Step tells mid (Poll k) reply new
    → (ticket dw0 len : ℕ) → (status : Status)
    → reply.seen ≡ Polled (Ok (Some (Done (record { 0 = ticket }) status dw0 len)))
    → (len ≡ length reply.bytes)
    × WasPlacedAndExecuted tells k ticket (record { status = status; dw0 = dw0; bytes = reply.bytes }) old events
    replies mid run

-- A ticket is issued for one request: those that are placed in a run with the same ticket are the same.
abbrev pub TicketNamesItsRequest : Type 0
TicketNamesItsRequest =
    (tells : Bool) → (old new : Fleet) → (events : List FleetEvent) → (replies : List Reply)
    → (run : Run tells old events replies new)
    → (k : ℕ) → (m : Mailbox) → HasMailbox old k m → (x y : Item)
    → Happens (Places k x) tells old events replies new run → Happens (Places k y) tells old events replies new run
    → x.ticket ≡ y.ticket → x ≡ y

-- So an answer that is delivered as done with the ticket of a request that was placed in such a run is that of this
-- request's execution, after it was placed.
abbrev pub DoneAnswersItsRequest : Type 0
DoneAnswersItsRequest =
    (tells : Bool) → (old mid new : Fleet) → (events : List FleetEvent) → (replies : List Reply)
    → (run : Run tells old events replies mid)
    → (k : ℕ) → (m : Mailbox) → HasMailbox old k m → IsClear m
    → (item : Item) → Happens (Places k item) tells old events replies mid run
    → (reply : Reply) → Step tells mid (Poll k) reply new
    → (dw0 len : ℕ) → (status : Status)
    → reply.seen ≡ Polled (Ok (Some (Done (record { 0 = item.ticket }) status dw0 len)))
    → HappensThen (Places k item)
    (Executes tells k item (record { status = status; dw0 = dw0; bytes = reply.bytes })) tells old events
    replies mid run
