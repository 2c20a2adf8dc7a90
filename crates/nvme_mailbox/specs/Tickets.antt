-- Statements of laws about the tickets of a host with a driver: the requests that its mailbox holds, and the tickets
-- that a run issues, executes and delivers.
use Rattle.std.specs.Prelude.{
  ◌≡◌,
  ◌≤◌,
  ℕ,
  ◌+◌,
  ◌==◌,
  nat_lt,
  zero,
  suc,
  Bool,
  false,
  if◌then◌else◌,
  List,
  [],
  ◌∷◌,
  ◌++◌,
  length,
  map,
  Option,
  None,
  Some,
  Ok,
  slice_get,
}
use Rattle.nvme_spec.specs.Blocks.{Device}
use Rattle.nvme_spec.specs.Configuration.{Configuration}
use Rattle.nvme_spec.specs.declared.config.ControllerConfig.{ControllerConfig}
use Rattle.nvme_machine.specs.declared.seen.Executed.TheVariants.{Posted}
use Rattle.nvme_driver.specs.declared.answer.Answer.TheVariants.{Done, Aborted}
use Rattle.nvme_event.specs.declared.event.FleetEvent.{FleetEvent}
use Rattle.nvme_event.specs.declared.event.FleetEvent.TheVariants.{Execute}
use Rattle.nvme_event.specs.declared.seen.FleetSeen.{FleetSeen}
use Rattle.nvme_event.specs.declared.seen.FleetSeen.TheVariants.{Placed, Executed, Polled}
use Rattle.nvme_event.specs.Replies.{Reply}
use Rattle.nvme_event.specs.Events.{concerns}
use Rattle.nvme_mailbox.specs.Mailboxes.{Item, FetchedItem, PostedAnswer, LaneBox, Mailbox, new_mailbox, held}
use Rattle.nvme_mailbox.specs.Fleets.{Host, WithDriver, Raw, Fleet, Run, host_at, opening}
use Rattle.nvme_mailbox.specs.Apart.{HasMailbox}

-- a sum over a list
abbrev pub total : {A : Type 0} → (A → ℕ) → List A → ℕ
total f [] = 0
total f (x ∷ xs) = f x + total f xs

-- The requests of a mailbox.

-- the requests that were not executed, and the answers that were not delivered
abbrev pub requests_in : LaneBox → List Item
requests_in b = b.placed ++ b.rung

unfoldable pub waiting : Mailbox → List Item
waiting m = requests_in m.admin ++ requests_in m.io ++ map (λ (f : FetchedItem). f.item) m.fetched

unfoldable pub posted_answers : Mailbox → List PostedAnswer
posted_answers m = m.admin.posted ++ m.io.posted

-- their tickets; with those of the aborted requests, the tickets of all that was not delivered
abbrev pub waiting_tickets : Mailbox → List ℕ
waiting_tickets m = map (λ (i : Item). i.ticket) (waiting m)

abbrev pub answered_tickets : Mailbox → List ℕ
answered_tickets m = map (λ (a : PostedAnswer). a.ticket) (posted_answers m)

abbrev pub held_tickets : Mailbox → List ℕ
held_tickets m = waiting_tickets m ++ answered_tickets m ++ m.aborted

-- Their number is the one that the mailbox counts when it refuses the 25th.
abbrev pub HeldAreCounted : Type 0
HeldAreCounted = (m : Mailbox) → length (held_tickets m) ≡ held m

-- The ticket of an event's result: of a request that was placed, executed, answered or aborted.

abbrev pub given_in : FleetSeen → List ℕ
given_in (Placed (Ok ticket)) = ticket.0 ∷ []
given_in other = []

abbrev pub done_in : FleetSeen → List ℕ
done_in (Polled (Ok (Some (Done ticket status dw0 len)))) = ticket.0 ∷ []
done_in other = []

abbrev pub aborted_in : FleetSeen → List ℕ
aborted_in (Polled (Ok (Some (Aborted ticket)))) = ticket.0 ∷ []
aborted_in other = []

-- for an execution, the ticket of the request at its place
abbrev pub fetched_by : Option Host → ℕ → Option FetchedItem
fetched_by None i = None
fetched_by (Some (WithDriver m)) i = slice_get m.fetched i
fetched_by (Some (Raw c)) i = None

abbrev pub named_by : Fleet → FleetEvent → Option FetchedItem
named_by f (Execute k i) = fetched_by (host_at f k) i
named_by f other = None

abbrev pub ticket_of : Option FetchedItem → List ℕ
ticket_of None = []
ticket_of (Some x) = x.item.ticket ∷ []

abbrev pub where_posted : FleetSeen → List ℕ → List ℕ
where_posted (Executed (Posted outcome)) tickets = tickets
where_posted other tickets = []

-- these tickets if the event is one of host k, else none
abbrev pub own : ℕ → FleetEvent → List ℕ → List ℕ
own k event tickets = if concerns event k then tickets else []

abbrev pub given : ℕ → Fleet → FleetEvent → Reply → List ℕ
given k f event reply = own k event (given_in reply.seen)

abbrev pub executed : ℕ → Fleet → FleetEvent → Reply → List ℕ
executed k f event reply = own k event (where_posted reply.seen (ticket_of (named_by f event)))

abbrev pub done : ℕ → Fleet → FleetEvent → Reply → List ℕ
done k f event reply = own k event (done_in reply.seen)

abbrev pub aborted : ℕ → Fleet → FleetEvent → Reply → List ℕ
aborted k f event reply = own k event (aborted_in reply.seen)

-- the tickets of a run, event by event
abbrev pub along : (Fleet → FleetEvent → Reply → List ℕ) → (tells : Bool) → (old : Fleet) → (events : List FleetEvent)
    → (replies : List Reply) → (new : Fleet) → Run tells old events replies new → List ℕ
along each tells old [] [] new run = []
along each tells old (event ∷ events) (reply ∷ later) new run =
    each old event reply ++ along each tells run.0 events later new run.2
along each tells old [] (reply ∷ later) new run = []
along each tells old (event ∷ events) [] new run = []

-- Balances.

-- Tickets are issued, executed, done and aborted while a mailbox changes. For any weight of each ticket (equal weights
-- count them all, another weight only one): what was held and what was issued is still held, or was delivered as done
-- or aborted; what is executed was waiting or issued; what is done was answered or executed.
pub record Balance (weight : ℕ → ℕ) (old new : Mailbox) (given executed done aborted : List ℕ) : Type 0 where
  pub held : total weight (held_tickets new) + total weight done + total weight aborted
      ≡ total weight (held_tickets old) + total weight given
  pub waits : total weight (waiting_tickets new) + total weight executed
      ≤ total weight (waiting_tickets old) + total weight given
  pub answered : total weight (answered_tickets new) + total weight done
      ≤ total weight (answered_tickets old) + total weight executed

abbrev pub TicketsBalance : Type 0
TicketsBalance =
    (tells : Bool) → (old new : Fleet) → (events : List FleetEvent) → (replies : List Reply)
    → (run : Run tells old events replies new)
    → (k : ℕ) → (m n : Mailbox) → HasMailbox old k m → HasMailbox new k n → (weight : ℕ → ℕ)
    → Balance weight m n
    (along (given k) tells old events replies new run) (along (executed k) tells old events replies new run)
    (along (done k) tells old events replies new run) (along (aborted k) tells old events replies new run)

-- A host that has a driver has one after every run.
abbrev pub DriversStay : Type 0
DriversStay =
    (tells : Bool) → (old new : Fleet) → (events : List FleetEvent) → (replies : List Reply)
    → Run tells old events replies new → (k : ℕ) → (m : Mailbox) → HasMailbox old k m
    → (n : Mailbox) × HasMailbox new k n

-- The tickets that a run issues are the next ones, in order.
abbrev pub counting : ℕ → ℕ → List ℕ
counting first zero = []
counting first (suc count) = first ∷ counting (first + 1) count

abbrev pub TicketsAreConsecutive : Type 0
TicketsAreConsecutive =
    (tells : Bool) → (old new : Fleet) → (events : List FleetEvent) → (replies : List Reply)
    → (run : Run tells old events replies new)
    → (k : ℕ) → (m n : Mailbox) → HasMailbox old k m → HasMailbox new k n
    → (count : ℕ) × (along (given k) tells old events replies new run ≡ counting m.next count)
    × (n.next ≡ m.next + count)

-- Each once.

-- the number of times a ticket is in a list
abbrev pub is_ticket : ℕ → ℕ → ℕ
is_ticket t u = if u == t then 1 else 0

abbrev pub times : ℕ → List ℕ → ℕ
times t tickets = total (is_ticket t) tickets

-- each ticket that is held was issued before, and is held once; a new mailbox holds none
abbrev pub below : ℕ → ℕ → ℕ
below t next = if nat_lt t next then 1 else 0

abbrev pub HoldsEachOnce : Mailbox → Type 0
HoldsEachOnce m = (t : ℕ) → times t (held_tickets m) ≤ below t m.next

abbrev pub NewHoldsEachOnce : Type 0
NewHoldsEachOnce = (first : ℕ) → HoldsEachOnce (new_mailbox first)

-- a driver's mailbox is new at each opening
abbrev pub OpeningIsNew : Type 0
OpeningIsNew =
    (c : Configuration) → (d : Device) → (k : ℕ) → (m : Mailbox) → HasMailbox (opening c d) k m → m ≡ new_mailbox 1

-- each host that the configuration does not make raw has a driver
abbrev pub OpeningHasDrivers : Type 0
OpeningHasDrivers =
    (c : Configuration) → (d : Device) → (i : ℕ) → (k : ControllerConfig) → slice_get c.controllers i ≡ Some k
    → k.raw ≡ false
    → HasMailbox (opening c d) (i + 1) (new_mailbox 1)

-- and this holds in every run
abbrev pub EachIsHeldOnce : Type 0
EachIsHeldOnce =
    (tells : Bool) → (old new : Fleet) → (events : List FleetEvent) → (replies : List Reply)
    → Run tells old events replies new
    → (k : ℕ) → (m n : Mailbox) → HasMailbox old k m → HasMailbox new k n → HoldsEachOnce m → HoldsEachOnce n

-- A ticket is issued at most once, executed at most once, and delivered at most once, as done or as aborted; then it is
-- no longer held. One that is issued is held or was delivered.
pub record GoesOnce (t : ℕ) (new : Mailbox) (given executed done aborted : List ℕ) : Type 0 where
  pub given_once : times t given ≤ 1
  pub executed_once : times t executed ≤ 1
  pub handed_up_once : times t (held_tickets new) + times t done + times t aborted ≤ 1
  pub kept : times t given ≤ times t (held_tickets new) + times t done + times t aborted

abbrev pub EachTicketGoesOnce : Type 0
EachTicketGoesOnce =
    (tells : Bool) → (old new : Fleet) → (events : List FleetEvent) → (replies : List Reply)
    → (run : Run tells old events replies new)
    → (k : ℕ) → (m n : Mailbox) → HasMailbox old k m → HasMailbox new k n → HoldsEachOnce m → (t : ℕ)
    → GoesOnce t n
    (along (given k) tells old events replies new run) (along (executed k) tells old events replies new run)
    (along (done k) tells old events replies new run) (along (aborted k) tells old events replies new run)

-- So is each ticket of each host with a driver, in every run from an opening.
abbrev pub TicketsOfAnOpeningGoOnce : Type 0
TicketsOfAnOpeningGoOnce =
    (c : Configuration) → (d : Device) → (i : ℕ) → (k : ControllerConfig) → slice_get c.controllers i ≡ Some k
    → k.raw ≡ false
    → (tells : Bool) → (new : Fleet) → (events : List FleetEvent) → (replies : List Reply)
    → (run : Run tells (opening c d) events replies new)
    → (n : Mailbox) × HasMailbox new (i + 1) n × ((t : ℕ) → GoesOnce t n
    (along (given (i + 1)) tells (opening c d) events replies new run)
    (along (executed (i + 1)) tells (opening c d) events replies new run)
    (along (done (i + 1)) tells (opening c d) events replies new run)
    (along (aborted (i + 1)) tells (opening c d) events replies new run))
