-- The effect of a driver's calls and of its controller's fetches on its mailbox. The effect of an execution is in
-- `Executions`.
use Rattle.std.specs.Prelude.{
  ℕ,
  ◌+◌,
  ◌-◌,
  ◌==◌,
  nat_lt,
  true,
  false,
  not,
  if◌then◌else◌,
  List,
  [],
  ◌∷◌,
  ◌++◌,
  length,
  Option,
  None,
  Some,
  Ok,
  Err,
}
use Rattle.nvme_driver.specs.declared.lane.Lane.{Lane}
use Rattle.nvme_driver.specs.declared.lane.Lane.TheVariants.{Admin, Io}
use Rattle.nvme_driver.specs.declared.request.Request.{Request}
use Rattle.nvme_driver.specs.declared.answer.Answer.TheVariants.{Done, Aborted}
use Rattle.nvme_driver.specs.declared.faults.UpFault.TheVariants.{AlreadyUp}
use Rattle.nvme_driver.specs.declared.faults.PlaceRefusal.{PlaceRefusal}
use Rattle.nvme_driver.specs.declared.faults.PlaceRefusal.TheVariants.{
  NotReady,
  BadRequest,
  NoSlot,
  RingFull,
  TicketsExhausted,
}
use Rattle.nvme_driver.specs.declared.faults.PollFault.TheVariants as poll_fault
use Rattle.nvme_driver.specs.Requests.{asked_of, is_bad}
use Rattle.nvme_driver.specs.Drivers.{ticket_count}
use Rattle.nvme_machine.specs.declared.seen.Fetched.TheVariants.{Took, Idle}
use Rattle.nvme_event.specs.declared.seen.FleetSeen.{FleetSeen}
use Rattle.nvme_event.specs.declared.seen.FleetSeen.TheVariants.{Up, Placed, Rung, Fetched, Polled, Reset}
use Rattle.nvme_event.specs.Replies.{Reply}
use Rattle.nvme_mailbox.specs.Mailboxes.{
  Item,
  PostedAnswer,
  LaneBox,
  Mailbox,
  empty_box,
  box_at,
  with_box,
  held,
  open_tickets,
}

abbrev pub plain : FleetSeen → Reply
plain what = record { seen = what; bytes = [] }

-- A mailbox after an event, and the result of the event.
pub record MailboxReaction : Type 0 where
  pub mailbox : Mailbox
  pub reply : Reply

abbrev pub mailbox_reaction : Mailbox → FleetSeen → MailboxReaction
mailbox_reaction m what = record { mailbox = m; reply = plain what }

-- The driver brings its controller up: that fails only if it is up already.
abbrev pub recounted : LaneBox → LaneBox
recounted b = record b { unheard = 0; since = 0 }

abbrev pub brought_up : Mailbox → MailboxReaction
brought_up m =
    if m.up then mailbox_reaction m (Up (Err AlreadyUp))
    else mailbox_reaction (record m { up = true; admin = recounted m.admin; io = recounted m.io }) (Up (Ok tt))

-- A request is placed: the last of its lane (queue pair), with the next ticket.

-- the number of requests that a driver keeps until they are delivered, and the number that it places in a lane before
-- the head of a completion shows that one was fetched
abbrev pub most_held : ℕ
most_held = 24

abbrev pub most_unheard : ℕ
most_unheard = 7

-- the first test that refuses a request, if one does
abbrev pub refusal : Mailbox → Request → Option PlaceRefusal
refusal m request =
    if not m.up then Some NotReady
    else (if is_bad request then Some BadRequest
    else (if held m == most_held then Some NoSlot
    else (if (box_at (asked_of request).command.lane m).unheard == most_unheard then Some RingFull
    else (if nat_lt m.next ticket_count then None else Some TicketsExhausted))))

abbrev pub with_placed : LaneBox → Item → LaneBox
with_placed b i = record b { placed = b.placed ++ i ∷ []; unheard = b.unheard + 1 }

abbrev pub new_item : Mailbox → Request → Item
new_item m request = record { ticket = m.next; asked = asked_of request }

abbrev pub with_request : Mailbox → Request → Mailbox
with_request m request =
    let lane = (asked_of request).command.lane in
    with_box lane (with_placed (box_at lane m) (new_item m request)) (record m { next = m.next + 1 })

abbrev pub placed_by : Option PlaceRefusal → Mailbox → Request → MailboxReaction
placed_by (Some why) m request = mailbox_reaction m (Placed (Err why))
placed_by None m request = mailbox_reaction (with_request m request) (Placed (Ok (record { 0 = m.next })))

abbrev pub placed : Mailbox → Request → MailboxReaction
placed m request = placed_by (refusal m request) m request

-- The driver writes the doorbells: in both lanes, the placed requests follow those that were rung.
abbrev pub ring_lane : LaneBox → LaneBox
ring_lane b = record b { rung = b.rung ++ b.placed; placed = [] }

abbrev pub rung : Mailbox → MailboxReaction
rung m =
    if m.up then mailbox_reaction (record m { admin = ring_lane m.admin; io = ring_lane m.io }) (Rung (Ok tt))
    else mailbox_reaction m (Rung (Err (record {})))

-- The controller fetches the first request that was rung in a lane, if there is one.
abbrev pub with_rest : LaneBox → List Item → LaneBox
with_rest b rest = record b { rung = rest; since = b.since + 1 }

abbrev pub fetched_first : Lane → List Item → Mailbox → MailboxReaction
fetched_first lane [] m = mailbox_reaction m (Fetched Idle)
fetched_first lane (first ∷ rest) m =
    mailbox_reaction
    (with_box lane (with_rest (box_at lane m) rest)
    (record m { fetched = m.fetched ++ record { item = first; marked = false } ∷ [] }))
    (Fetched Took)

-- the lane of a submission queue's identifier
abbrev pub lane_at : ℕ → Option Lane
lane_at q = if q == 0 then Some Admin else (if q == 1 then Some Io else None)

abbrev pub fetched_of : Option Lane → Mailbox → MailboxReaction
fetched_of None m = mailbox_reaction m (Fetched Idle)
fetched_of (Some lane) m = fetched_first lane (box_at lane m).rung m

abbrev pub fetched : ℕ → Mailbox → MailboxReaction
fetched q m = fetched_of (lane_at q) m

-- The driver delivers the first aborted request; otherwise, if it is up, the first answer of the admin lane, and then
-- of the I/O lane.
abbrev pub without_first : LaneBox → PostedAnswer → List PostedAnswer → LaneBox
without_first b first rest = record b { posted = rest; unheard = b.unheard - first.step }

abbrev pub answer_reply : PostedAnswer → Reply
answer_reply a = record {
  seen = Polled (Ok (Some (Done (record { 0 = a.ticket }) a.status a.dw0 (length a.bytes))));
  bytes = a.bytes;
}

abbrev pub handed_up : Lane → PostedAnswer → List PostedAnswer → Mailbox → MailboxReaction
handed_up lane first rest m =
    record { mailbox = with_box lane (without_first (box_at lane m) first rest) m; reply = answer_reply first }

abbrev pub polled_io : List PostedAnswer → Mailbox → MailboxReaction
polled_io [] m = mailbox_reaction m (Polled (Ok None))
polled_io (first ∷ rest) m = handed_up Io first rest m

abbrev pub polled_admin : List PostedAnswer → Mailbox → MailboxReaction
polled_admin [] m = polled_io m.io.posted m
polled_admin (first ∷ rest) m = handed_up Admin first rest m

abbrev pub polled_aborted : List ℕ → Mailbox → MailboxReaction
polled_aborted [] m =
    if m.up then polled_admin m.admin.posted m else mailbox_reaction m (Polled (Err poll_fault.NotUp))
polled_aborted (first ∷ rest) m =
    mailbox_reaction (record m { aborted = rest }) (Polled (Ok (Some (Aborted (record { 0 = first })))))

abbrev pub polled : Mailbox → MailboxReaction
polled m = polled_aborted m.aborted m

-- The driver resets its controller: all that was not delivered is aborted, in the order of tickets, after what was
-- aborted before.
abbrev pub reset : Mailbox → MailboxReaction
reset m =
    mailbox_reaction
    (record {
      up = false;
      next = m.next;
      admin = empty_box;
      io = empty_box;
      fetched = [];
      aborted = m.aborted ++ open_tickets m;
    })
    Reset
