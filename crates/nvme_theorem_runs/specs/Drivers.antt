-- Statements of `drivers.rt`: example runs on hosts' independence, tickets, answers, faults that never occur, and power
-- cycles. Also theorems that lack one premise, and so are false.
use Rattle.std.specs.Prelude.{
  Bool,
  List,
  None,
  Ok,
  Option,
  Some,
  [],
  false,
  map,
  replicate,
  true,
  ℕ,
  ◌++◌,
  ◌+◌,
  ◌∷◌,
  ◌≡◌,
}
use Rattle.nvme_wire.specs.declared.status.Status.{Status}
use Rattle.nvme_spec.specs.Blocks.{Device}
use Rattle.nvme_spec.specs.Configuration.{Configuration}
use Rattle.nvme_spec.specs.Statuses.{successful_completion}
use Rattle.nvme_machine.specs.declared.seen.Executed.TheVariants.{CqFull}
use Rattle.nvme_driver.specs.declared.answer.Answer.TheVariants.{Done}
use Rattle.nvme_driver.specs.declared.request.Request.{Request}
use Rattle.nvme_driver.specs.Requests.{asked_of}
use Rattle.nvme_event.specs.declared.event.FleetEvent.{FleetEvent}
use Rattle.nvme_event.specs.declared.event.FleetEvent.TheVariants.{BringUp, Execute, Place, Poll, PowerCycle, Reset}
use Rattle.nvme_event.specs.Replies.{Reply}
use Rattle.nvme_mailbox.specs.Answered.{Executes, Happens, HappensThen, IsClear, Places, WasPlacedAndExecuted}
use Rattle.nvme_mailbox.specs.Apart.{HasMailbox, MovesOn}
use Rattle.nvme_mailbox.specs.Deliveries.{plain}
use Rattle.nvme_mailbox.specs.FaultFree.{fault_free_left, fault_free_replies, fault_free_step}
use Rattle.nvme_mailbox.specs.Fleets.{Fleet, Host, Raw, Run, Step, WithDriver, host_at, opening}
use Rattle.nvme_mailbox.specs.Mailboxes.{FetchedItem, Item, Mailbox, new_mailbox}
use Rattle.nvme_mailbox.specs.PowerCycles.{IsAborted}
use Rattle.nvme_mailbox.specs.SinceUp.{HasDriver}
use Rattle.nvme_mailbox.specs.Tickets.{GoesOnce, HoldsEachOnce, aborted, along, done, executed, given}
use Rattle.nvme_mailbox.specs.Unseen.{GivesUnseen}
use Rattle.nvme_theorem_runs.specs.Cluster.{blocks, held_by_a1, pair, reserved, with_b2}
use Rattle.nvme_theorem_runs.specs.Fleets.{asks, carried, duo, read_asked, up, zeroes_asked}
use Rattle.nvme_theorem_runs.specs.Queues.{full}
use Rattle.nvme_driver.specs.declared.request.Request.TheVariants as request
use Rattle.nvme_event.specs.declared.seen.FleetSeen.TheVariants as seen
use Rattle.nvme_spec.specs.Statuses as status

-- The state of a host: whether its driver is up, and the marks of its fetched requests.
abbrev pub is_up : Option Host → Option Bool
is_up None = None
is_up (Some (WithDriver m)) = Some m.up
is_up (Some (Raw c)) = None

abbrev pub marks_at : Option Host → List Bool
marks_at None = []
marks_at (Some (WithDriver m)) = map (λ (x : FetchedItem). x.marked) m.fetched
marks_at (Some (Raw c)) = []

abbrev pub start : Fleet
start = duo (with_b2 1)

-- HostsAreApart: host a1h places a request, and then preempts host b2h, whose fetched write is marked.
abbrev pub abort_asked : Request
abort_asked = request.Acquire 1 2 1 0x11 0x22

abbrev pub aborting : Fleet
aborting = fault_free_left start (asks 2 (zeroes_asked 1) ++ asks 1 abort_asked)

pub record ApartAtWork : Type 0 where
  pub mailbox : HasMailbox start 2 up
  pub placed : host_at (fault_free_step start (Place 1 abort_asked)).fleet 2 ≡ Some (WithDriver up)
  pub holds : MovesOn true start (Place 1 abort_asked) (fault_free_step start (Place 1 abort_asked)).reply
      (fault_free_step start (Place 1 abort_asked)).fleet 2 up
  pub before : marks_at (host_at aborting 2) ≡ false ∷ []
  pub after : marks_at (host_at (fault_free_step aborting (Execute 1 0)).fleet 2) ≡ true ∷ []

-- A fleet with a raw host, whose completion queue is full.
unfoldable pub half_raw : Fleet
half_raw = record {
  site = record { world = reserved (held_by_a1 1); device = blocks };
  hosts = WithDriver up ∷ Raw full ∷ [];
}

-- HostsAreApart for any host.
abbrev pub ApartOfAnyHost : Type 0
ApartOfAnyHost =
    (tells : Bool) → (old new : Fleet) → (event : FleetEvent) → (reply : Reply) → Step tells old event reply new
    → (k : ℕ) → (m : Mailbox) → MovesOn tells old event reply new k m

-- EachTicketGoesOnce: a request is delivered as done, and another one is fetched and aborted by a reset.
unfoldable pub two_tickets : List FleetEvent
two_tickets = carried 2 (zeroes_asked 2) ++ asks 2 (zeroes_asked 1) ++ Reset 2 ∷ Poll 2 ∷ []

abbrev pub after_tickets : Fleet
after_tickets = fault_free_left start two_tickets

pub record TicketsAtWork : Type 0 where
  pub once : HoldsEachOnce up
  pub mailbox : HasMailbox start 2 up
  pub run : Run true start two_tickets (fault_free_replies start two_tickets) after_tickets
  pub last : Mailbox
  pub its : HasMailbox after_tickets 2 last
  pub gives : along (given 2) true start two_tickets (fault_free_replies start two_tickets) after_tickets run
      ≡ 9 ∷ 10 ∷ []
  pub executes : along (executed 2) true start two_tickets (fault_free_replies start two_tickets) after_tickets run
      ≡ 9 ∷ []
  pub does : along (done 2) true start two_tickets (fault_free_replies start two_tickets) after_tickets run
      ≡ 9 ∷ []
  pub aborts : along (aborted 2) true start two_tickets (fault_free_replies start two_tickets) after_tickets run
      ≡ 10 ∷ []
  pub holds : (t : ℕ) → GoesOnce t last
      (along (given 2) true start two_tickets (fault_free_replies start two_tickets) after_tickets run)
      (along (executed 2) true start two_tickets (fault_free_replies start two_tickets) after_tickets run)
      (along (done 2) true start two_tickets (fault_free_replies start two_tickets) after_tickets run)
      (along (aborted 2) true start two_tickets (fault_free_replies start two_tickets) after_tickets run)

-- EachTicketGoesOnce for any mailbox.
abbrev pub TicketsOfAnyMailbox : Type 0
TicketsOfAnyMailbox =
    (tells : Bool) → (old new : Fleet) → (events : List FleetEvent) → (replies : List Reply)
    → (run : Run tells old events replies new)
    → (k : ℕ) → (m n : Mailbox) → HasMailbox old k m → HasMailbox new k n → (t : ℕ)
    → GoesOnce t n
    (along (given k) tells old events replies new run) (along (executed k) tells old events replies new run)
    (along (done k) tells old events replies new run) (along (aborted k) tells old events replies new run)

-- DoneAnswersItsRequest: a Read of namespace 2 is executed, and a poll delivers its bytes.
abbrev pub its_item : Item
its_item = record { ticket = 9; asked = asked_of (read_asked 2) }

unfoldable pub until_answer : List FleetEvent
until_answer = asks 2 (read_asked 2) ++ asks 1 (zeroes_asked 1) ++ Execute 2 0 ∷ Execute 1 0 ∷ []

abbrev pub answered : Fleet
answered = fault_free_left start until_answer

abbrev pub its_reply : Reply
its_reply = record {
  seen = seen.Polled (Ok (Some (Done (record { 0 = 9 }) status.successful_completion 0 512)));
  bytes = replicate 512 2;
}

pub record AnswersAtWork : Type 0 where
  pub clear : IsClear up
  pub mailbox : HasMailbox start 2 up
  pub run : Run true start until_answer (fault_free_replies start until_answer) answered
  pub placed : Happens (Places 2 its_item) true start until_answer (fault_free_replies start until_answer) answered run
  pub polls : Step true answered (Poll 2) its_reply (fault_free_step answered (Poll 2)).fleet
  pub holds : HappensThen (Places 2 its_item)
      (Executes true 2 its_item
      (record { status = status.successful_completion; dw0 = 0; bytes = replicate 512 2 })) true start until_answer
      (fault_free_replies start until_answer) answered run

-- DoneIsItsExecution for any mailbox.
abbrev pub AnswersOfAnyMailbox : Type 0
AnswersOfAnyMailbox =
    (tells : Bool) → (old mid new : Fleet) → (events : List FleetEvent) → (replies : List Reply)
    → (run : Run tells old events replies mid)
    → (k : ℕ) → (m : Mailbox) → HasMailbox old k m
    → (reply : Reply) → Step tells mid (Poll k) reply new
    → (ticket dw0 len : ℕ) → (status : Status)
    → reply.seen ≡ seen.Polled (Ok (Some (Done (record { 0 = ticket }) status dw0 len)))
    → WasPlacedAndExecuted tells k ticket (record { status = status; dw0 = dw0; bytes = reply.bytes }) old events
    replies mid run

-- UnseenNeverComes for any host.
abbrev pub UnseenOfAnyHost : Type 0
UnseenOfAnyHost =
    (tells : Bool) → (old new : Fleet) → (events : List FleetEvent) → (replies : List Reply)
    → (run : Run tells old events replies new)
    → (k : ℕ) → Happens (GivesUnseen k) tells old events replies new run → ⊥

-- It holds of a run, and host b2h would see a full completion queue if it were raw.
pub record UnseenAtWork : Type 0 where
  pub mailbox : HasMailbox start 2 up
  pub run : Run true start two_tickets (fault_free_replies start two_tickets) after_tickets
  pub holds : Happens (GivesUnseen 2) true start two_tickets (fault_free_replies start two_tickets) after_tickets run
      → ⊥
  pub raw : (fault_free_step half_raw (Execute 2 0)).reply ≡ plain (seen.Executed CqFull)

-- PowerAborts: a request is placed, one is fetched, and one is answered.
unfoldable pub three_requests : List FleetEvent
three_requests = asks 2 (zeroes_asked 2) ++ Execute 2 0 ∷ asks 2 (zeroes_asked 1) ++ Place 2 (zeroes_asked 1) ∷ []

abbrev pub three_held : Fleet
three_held = fault_free_left start three_requests

pub record AbortingAtWork : Type 0 where
  pub old : Mailbox
  pub before : HasMailbox three_held 2 old
  pub up : old.up ≡ true
  pub new : Mailbox
  pub after : HasMailbox (fault_free_step three_held PowerCycle).fleet 2 new
  pub aborted : new.aborted ≡ 9 ∷ 10 ∷ 11 ∷ []
  pub holds : (n : Mailbox) × HasMailbox (fault_free_step three_held PowerCycle).fleet 2 n × IsAborted old n

-- PowerAborts for any event.
abbrev pub AbortingByAnyEvent : Type 0
AbortingByAnyEvent =
    (tells : Bool) → (old new : Fleet) → (event : FleetEvent) → (reply : Reply) → Step tells old event reply new
    → (k : ℕ) → (m : Mailbox) → HasMailbox old k m → (n : Mailbox) × HasMailbox new k n × IsAborted m n

-- DoneSinceItCameUp and DoneSincePower: from an opening, a driver comes up, and its write is executed.
abbrev pub opened : Fleet
opened = opening pair blocks

unfoldable pub coming_up : List FleetEvent
coming_up = BringUp 1 ∷ asks 1 (zeroes_asked 2) ++ Execute 1 0 ∷ []

abbrev pub came_up : Fleet
came_up = fault_free_left opened coming_up

abbrev pub done_reply : ℕ → Reply
done_reply t = plain (seen.Polled (Ok (Some (Done (record { 0 = t }) status.successful_completion 0 0))))

pub record SinceUpAtWork : Type 0 where
  pub driver : HasDriver pair 0
  pub down : HasMailbox opened 1 (new_mailbox 1)
  pub run : Run true opened coming_up (fault_free_replies opened coming_up) came_up
  pub polls : Step true came_up (Poll 1) (done_reply 1) (fault_free_step came_up (Poll 1)).fleet
  pub holds : WasPlacedAndExecuted true 1 1
      (record { status = status.successful_completion; dw0 = 0; bytes = [] }) opened coming_up
      (fault_free_replies opened coming_up) came_up run

-- DoneSinceItCameUp for a driver that may be up, and DoneSincePower after any event.
abbrev pub SinceAnyMoment : Type 0
SinceAnyMoment =
    (tells : Bool) → (c : Configuration) → (d : Device) → (old mid new : Fleet) → (before : List FleetEvent)
    → (gave : List Reply) → Run tells (opening c d) before gave old
    → (events : List FleetEvent) → (replies : List Reply) → (run : Run tells old events replies mid)
    → (i : ℕ) → HasDriver c i → (m : Mailbox) → HasMailbox old (i + 1) m
    → (reply : Reply) → Step tells mid (Poll (i + 1)) reply new
    → (ticket dw0 len : ℕ) → (status : Status)
    → reply.seen ≡ seen.Polled (Ok (Some (Done (record { 0 = ticket }) status dw0 len)))
    → WasPlacedAndExecuted tells (i + 1) ticket (record { status = status; dw0 = dw0; bytes = reply.bytes }) old events
    replies mid run

abbrev pub SinceAnyEvent : Type 0
SinceAnyEvent =
    (tells : Bool) → (before old mid new : Fleet) → (first : Reply) → (event : FleetEvent)
    → Step tells before event first old
    → (events : List FleetEvent) → (replies : List Reply) → (run : Run tells old events replies mid)
    → (k : ℕ) → (m : Mailbox) → HasMailbox before k m
    → (reply : Reply) → Step tells mid (Poll k) reply new
    → (ticket dw0 len : ℕ) → (status : Status)
    → reply.seen ≡ seen.Polled (Ok (Some (Done (record { 0 = ticket }) status dw0 len)))
    → WasPlacedAndExecuted tells k ticket (record { status = status; dw0 = dw0; bytes = reply.bytes }) old events
    replies mid run
