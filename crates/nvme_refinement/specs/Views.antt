-- One lane (queue pair) of a driver and its controller, as far as the requests of that lane matter: the slots of the
-- driver with their bytes, the lane's two queue pages, and the counts of its queues. Places count from the start of the
-- pages: the submission queue is in the first, the completion queue in the second.
use Rattle.std.specs.Prelude.{
  ◌≡◌,
  ℕ,
  zero,
  suc,
  ◌+◌,
  ◌-◌,
  ◌*◌,
  ◌%◌,
  ◌<◌,
  ◌≤◌,
  nat_lt,
  nat_le,
  ◌==◌,
  Bool,
  true,
  false,
  not,
  ◌&&◌,
  ◌||◌,
  is_some,
  if◌then◌else◌,
  cond,
  List,
  [],
  ◌∷◌,
  ◌++◌,
  length,
  map,
  take,
  drop,
  remove,
  replicate,
  Option,
  None,
  Some,
  slice_get,
  slice_set,
}
use Rattle.std.specs.List.{AllByRecursion}
use Rattle.std.specs.Str.{bytes_eq}
use Rattle.nvme_wire.specs.Submission.{submission_entry, opcode, cid, nsid, cdw10, cdw11, cdw12}
use Rattle.nvme_wire.specs.Completion.{Completion, completion_of, completion_entry}
use Rattle.nvme_wire.specs.Entry.{bits}
use Rattle.nvme_wire.specs.declared.status.Status.{Status}
use Rattle.nvme_spec.specs.declared.command.Command.TheVariants.{Read, ReservationReport}
use Rattle.nvme_spec.specs.declared.command.AdminCommand.TheVariants.{
  Identify,
  SetFeatures,
  GetFeatures,
  NamespaceAttachment,
}
use Rattle.nvme_spec.specs.Commands as io_commands
use Rattle.nvme_spec.specs.AdminCommands as admin_commands
use Rattle.nvme_spec.specs.Bytes.{with_bytes}
use Rattle.nvme_spec.specs.Limits.{most_bytes}
use Rattle.nvme_driver.specs.declared.lane.Lane.{Lane}
use Rattle.nvme_driver.specs.declared.lane.Lane.TheVariants.{Admin, Io}
use Rattle.nvme_driver.specs.declared.slots.Waiting.{Waiting}
use Rattle.nvme_driver.specs.Requests.{Asked}
use Rattle.nvme_driver.specs.Layout.{queue_id}
use Rattle.nvme_driver.specs.Pointers.{stored_list}
use Rattle.nvme_driver.specs.Drivers.{entry_fields, entry_length, abort}
use Rattle.nvme_driver.specs.Polls.{answer_len}
use Rattle.nvme_mailbox.specs.Mailboxes.{Item, PostedAnswer, LaneBox}
use Rattle.nvme_mailbox.specs.Tickets.{total}

-- A slot: the request that waits there, the data at the slot's place, and its list page.
pub record Slot : Type 0 where
  pub waiting : Option Waiting
  pub bytes : List ℕ
  pub list : List ℕ

abbrev pub empty : Slot
empty = record { waiting = None; bytes = []; list = [] }

-- The driver's side of a lane: the slots of its requests, the number of commands that it has put (modulo 8), of those
-- that no completion's head has acknowledged, and of completions that it has consumed (modulo 64).
pub record Host : Type 0 where
  pub up : Bool
  pub failed : Bool
  pub next : ℕ
  pub slots : List Slot
  pub put : ℕ
  pub unheard : ℕ
  pub consumed : ℕ

-- The controller's side: its two queue pages, its counts, and the commands of this lane that it has fetched.
pub record State : Type 0 where
  pub lane : Lane
  pub window : List ℕ
  pub ready : Bool
  pub fetched : ℕ
  pub waiting : ℕ
  pub posted : ℕ
  pub unread : ℕ
  pub taken : List (List ℕ)

-- the n-th command and the n-th completion of the pages
abbrev pub command_at : List ℕ → ℕ → List ℕ
command_at window n = take 64 (drop (64 * n) window)

abbrev pub completion_bytes : List ℕ → ℕ → List ℕ
completion_bytes window n = take 16 (drop (4096 + 16 * (n % 32)) window)

-- the phase tag of the n-th completion
abbrev pub phase_of : ℕ → Bool
phase_of n = nat_lt (n % 64) 32

-- the k-th slot
abbrev pub the_slot : Option Slot → Slot
the_slot None = empty
the_slot (Some s) = s

abbrev pub slot_at : List Slot → ℕ → Slot
slot_at slots k = the_slot (slice_get slots k)

-- the number of commands that the driver put and the controller did not fetch
abbrev pub in_flight : Host → State → ℕ
in_flight d c = (d.put + 8 - c.fetched) % 8

-- n commands of the submission queue, from a place
abbrev pub commands : List ℕ → ℕ → ℕ → List (List ℕ)
commands window from zero = []
commands window from (suc n) = command_at window from ∷ commands window ((from + 1) % 8) n

-- n completions, from the n-th
abbrev pub completions : List ℕ → ℕ → ℕ → List Completion
completions window n zero = []
completions window n (suc k) = completion_of (completion_bytes window n) ∷ completions window ((n + 1) % 64) k

-- the ticket of a slot's request
abbrev pub ticket_in : Option Waiting → ℕ
ticket_in None = 0
ticket_in (Some w) = w.ticket.0

abbrev pub lane_in : Option Waiting → Lane
lane_in None = Admin
lane_in (Some w) = w.lane

abbrev pub received_in : Option Waiting → ℕ
received_in None = 0
received_in (Some w) = w.received

-- The request of a command in a slot: its fields, the number of bytes that it transfers, and the slot's data if they go
-- to the controller.
abbrev pub asked_in : Slot → List ℕ → Asked
asked_in s x = record {
  command = record {
    lane = lane_in s.waiting;
    opcode = opcode x;
    nsid = nsid x;
    cdw10 = cdw10 x;
    cdw11 = cdw11 x;
    cdw12 = cdw12 x;
  };
  moved = entry_length (lane_in s.waiting) x;
  sent = take (entry_length (lane_in s.waiting) x - received_in s.waiting) s.bytes;
  received = received_in s.waiting;
}

unfoldable pub item_in : Slot → List ℕ → Item
item_in s x = record { ticket = ticket_in s.waiting; asked = asked_in s x }

abbrev pub item : (ℕ → Slot) → List ℕ → Item
item slots x = item_in (slots (cid x)) x

-- The possible requests: in the I/O lane a command that receives all that it transfers, or nothing, by its kind; in the
-- admin lane Identify, the write protection state set or read, or a Namespace Attachment.
abbrev pub received_by : ℕ → ℕ → ℕ
received_by code moved =
    if io_commands.is_one_of (io_commands.command_of code) (Read ∷ ReservationReport ∷ []) then moved else 0

abbrev pub is_feature : Asked → Bool
is_feature a = bits a.command.cdw10 7 0 == admin_commands.write_protection

abbrev pub is_plain_in : Lane → Asked → Bool
is_plain_in Io a =
    is_some (io_commands.command_of a.command.opcode) && a.received == received_by a.command.opcode a.moved
is_plain_in Admin a =
    (a.command.opcode == admin_commands.opcode_of Identify && a.received == a.moved)
    || ((a.command.opcode == admin_commands.opcode_of SetFeatures && (is_feature a && a.received == 0))
    || ((a.command.opcode == admin_commands.opcode_of GetFeatures && (is_feature a && a.received == 0))
    || (a.command.opcode == admin_commands.opcode_of NamespaceAttachment && a.received == 0)))

unfoldable pub is_plain : Asked → Bool
is_plain a = is_plain_in a.command.lane a

-- A command is as the driver put it there: its fields and zeros elsewhere, its data pointer is that of the slot's data,
-- and the list is stored if the pointer needs it.
unfoldable pub suits : Slot → List ℕ → Bool
suits s x =
    let a : Asked = asked_in s x in
    bytes_eq x (submission_entry (entry_fields a (cid x)))
    && (nat_le a.moved most_bytes && (nat_le a.received a.moved
    && (bytes_eq (take (length (stored_list (cid x) a.moved)) s.list) (stored_list (cid x) a.moved) && is_plain a)))

abbrev pub odd : (ℕ → Slot) → List ℕ → ℕ
odd slots x = cond (suits (slots (cid x)) x) 0 1

-- the answer of a completion, with these slots, and this head accepted before it
abbrev pub answer : (ℕ → Slot) → ℕ → Completion → PostedAnswer
answer slots heard e = record {
  ticket = ticket_in (slots e.cid).waiting;
  status = e.status;
  dw0 = e.dw0;
  bytes = take (answer_len (received_in (slots e.cid).waiting) e.status) (slots e.cid).bytes;
  step = (e.sq_head + 8 - heard) % 8;
}

abbrev pub answers : (ℕ → Slot) → ℕ → List Completion → List PostedAnswer
answers slots heard [] = []
answers slots heard (e ∷ es) = answer slots heard e ∷ answers slots e.sq_head es

-- the head of the last of these completions
abbrev pub last_head : ℕ → List Completion → ℕ
last_head heard [] = heard
last_head heard (e ∷ es) = last_head e.sq_head es

-- the head that the driver accepted last
abbrev pub heard : Host → ℕ
heard d = (d.put + 8 - d.unheard) % 8

abbrev pub unread : Host → State → List Completion
unread d c = completions c.window d.consumed c.unread

-- the number of fetches since the last completion was posted
abbrev pub since : Host → State → ℕ
since d c = (c.fetched + 8 - last_head (heard d) (unread d c)) % 8

-- the contents of a lane's slots
abbrev pub holds : Host → ℕ → Slot
holds d = slot_at d.slots

-- the part of a mailbox that represents a lane of a driver and its controller
unfoldable pub box : Host → State → LaneBox
box d c = record {
  placed = map (item (holds d)) (commands c.window ((c.fetched + c.waiting) % 8) (in_flight d c - c.waiting));
  rung = map (item (holds d)) (commands c.window c.fetched c.waiting);
  posted = answers (holds d) (heard d) (unread d c);
  unheard = d.unheard;
  since = since d c;
}

-- the fetches counted by the answers that were not delivered
abbrev pub steps : ℕ → List Completion → ℕ
steps heard [] = 0
steps heard (e ∷ es) = (e.sq_head + 8 - heard) % 8 + steps e.sq_head es

-- a completion is of this submission queue, and its head is below that queue's size
abbrev pub IsOf : ℕ → Completion → Type 0
IsOf q e = (e.sq_id ≡ q) × (e.sq_head < 8)

-- whether a command, or a completion, uses this slot, 1 or 0
abbrev pub bears : ℕ → List ℕ → ℕ
bears slot x = cond (cid x == slot) 1 0

abbrev pub replies : ℕ → Completion → ℕ
replies slot e = cond (e.cid == slot) 1 0

-- the number of these commands, or completions, that use this slot
abbrev pub commands_of : ℕ → List (List ℕ) → ℕ
commands_of slot xs = total (bears slot) xs

abbrev pub answers_of : ℕ → List Completion → ℕ
answers_of slot es = total (replies slot) es

-- whether a slot waits for its answer, 1 or 0
abbrev pub live_waiting : Option Waiting → ℕ
live_waiting None = 0
live_waiting (Some w) = cond w.live 1 0

abbrev pub live_in : Slot → ℕ
live_in s = live_waiting s.waiting

abbrev pub live_at : List Slot → ℕ → ℕ
live_at slots k = live_in (slot_at slots k)

-- of the 32 completions from the n-th, the unread ones have the new phase, and those after them the old one
abbrev pub Phases : List ℕ → ℕ → ℕ → Type 0
Phases window n unread =
    (k : ℕ) → k < 32 →
    (completion_of (completion_bytes window (n + k))).phase ≡
    cond (nat_lt k unread) (phase_of (n + k)) (not (phase_of (n + k)))

-- each waiting request is in one place: in flight, fetched, or answered
abbrev pub Carried : Host → State → Type 0
Carried d c =
    (slot : ℕ) →
    commands_of slot c.taken + commands_of slot (commands c.window c.fetched (in_flight d c)) + answers_of slot
    (unread d c) ≡
    live_at d.slots slot

-- each command suits its slot
abbrev pub Suited : Host → State → Type 0
Suited d c = total (odd (holds d)) c.taken + total (odd (holds d)) (commands c.window c.fetched (in_flight d c)) ≡ 0

-- The invariant of a lane whose driver is up.
pub record Running (d : Host) (c : State) : Type 0 where
  pub ready : c.ready ≡ true
  pub window : length c.window ≡ 8192
  pub slots : length d.slots ≡ 24
  pub put : d.put < 8
  pub fetched : c.fetched < 8
  pub consumed : d.consumed < 64
  pub posted : c.posted ≡ (d.consumed + c.unread) % 64
  pub waiting : c.waiting ≤ in_flight d c
  pub unheard : steps (heard d) (unread d c) + since d c + in_flight d c ≡ d.unheard
  pub room : d.unheard < 8
  pub of_lane : AllByRecursion (IsOf (queue_id c.lane)) (unread d c)
  pub phases : Phases c.window d.consumed c.unread
  pub carried : Carried d c
  pub held : length c.taken + in_flight d c + c.unread ≡ total live_in d.slots
  pub suited : Suited d c

-- a controller that is off has no queues and no commands; it keeps its window
abbrev pub off : State → State
off c = record {
  lane = c.lane;
  window = c.window;
  ready = false;
  fetched = 0;
  waiting = 0;
  posted = 0;
  unread = 0;
  taken = [];
}

-- The invariant of a lane whose driver is down.
pub record Resting (d : Host) (c : State) : Type 0 where
  pub window : length c.window ≡ 8192
  pub slots : length d.slots ≡ 24
  pub put : d.put ≡ 0
  pub unheard : d.unheard ≡ 0
  pub consumed : d.consumed ≡ 0
  pub off : c ≡ off c
  pub idle : (slot : ℕ) → live_at d.slots slot ≡ 0

-- an aborted request is older than this ticket, and a live one is not
abbrev pub AgeIn : ℕ → ℕ → Option Waiting → Type 0
AgeIn first next None = Unit {0}
AgeIn first next (Some w) = (cond w.live (first ≤ w.ticket.0) (w.ticket.0 < first)) × (w.ticket.0 < next)

abbrev pub Ages : ℕ → ℕ → List Slot → Type 0
Ages first next slots = (k : ℕ) → AgeIn first next (slot_at slots k).waiting

-- The invariant of a lane of a driver that came up with this ticket.
pub record Holds (first : ℕ) (d : Host) (c : State) : Type 0 where
  pub failed : d.failed ≡ false
  pub begun : first ≤ d.next
  pub ages : Ages first d.next d.slots
  pub up : d.up ≡ true → Running d c
  pub down : d.up ≡ false → Resting d c

-- Placing.

-- a slot in which a request was placed, with its bytes
abbrev pub filled : Waiting → List ℕ → List ℕ → Slot
filled w bytes list = record { waiting = Some w; bytes = bytes; list = list }

abbrev pub placed : Host → Waiting → ℕ → List ℕ → List ℕ → Host
placed d w slot bytes list =
    record d {
      next = d.next + 1;
      slots = slice_set d.slots slot (filled w bytes list);
      put = (d.put + 1) % 8;
      unheard = d.unheard + 1;
    }

abbrev pub placed_state : Host → State → List ℕ → State
placed_state d c x = record c { window = with_bytes c.window (64 * d.put) x }

-- Executing.

-- the answer to a command, and its data
pub record Effect : Type 0 where
  pub status : Status
  pub dw0 : ℕ
  pub bytes : List ℕ

-- the completion of a command, and its bytes
abbrev pub finished : State → Effect → List ℕ → Completion
finished c ans x = record {
  dw0 = ans.dw0;
  sq_head = c.fetched;
  sq_id = queue_id c.lane;
  cid = cid x;
  phase = phase_of c.posted;
  status = ans.status;
}

unfoldable pub finished_bytes : State → Effect → List ℕ → List ℕ
finished_bytes c ans x = completion_entry (finished c ans x)

abbrev pub executed : Host → List ℕ → List ℕ → Host
executed d x bytes = record d { slots = slice_set d.slots (cid x) (record (slot_at d.slots (cid x)) { bytes = bytes }) }

abbrev pub executed_state : State → ℕ → List ℕ → Effect → State
executed_state c i x ans =
    record c {
      window = with_bytes c.window (4096 + 16 * (c.posted % 32)) (finished_bytes c ans x);
      posted = (c.posted + 1) % 64;
      unread = c.unread + 1;
      taken = remove c.taken i;
    }

-- Fetching and ringing.
abbrev pub after_fetch : State → State
after_fetch c =
    record c {
      fetched = (c.fetched + 1) % 8;
      waiting = c.waiting - 1;
      taken = c.taken ++ command_at c.window c.fetched ∷ [];
    }

abbrev pub rung : Host → State → State
rung d c = record c { waiting = in_flight d c }

-- Polling: the completion at the head of the queue.
abbrev pub front : Host → State → Completion
front d c = completion_of (completion_bytes c.window d.consumed)

-- the number of placed entries that stay unacknowledged after this head, and whether the head is accepted
abbrev pub left_after : Host → ℕ → ℕ
left_after d head = (d.put + 8 - head) % 8

abbrev pub can_hear : Host → ℕ → Bool
can_hear d head = nat_lt head 8 && nat_le (left_after d head) d.unheard

-- the next completion, if it is new
abbrev pub next_completion : Host → List ℕ → Option Completion
next_completion d window =
    let e = completion_of (completion_bytes window d.consumed) in
    cond (cond e.phase (phase_of d.consumed) (not (phase_of d.consumed))) (Some e) None

-- the lane after the driver has consumed a completion and written the doorbell
abbrev pub consumed : Host → Completion → Host
consumed d e =
    record d {
      slots = slice_set d.slots e.cid empty;
      unheard = left_after d e.sq_head;
      consumed = (d.consumed + 1) % 64;
    }

abbrev pub less : State → State
less c = record c { unread = c.unread - 1 }

-- Resetting.

-- a slot after its request's controller was reset, and the lane
abbrev pub abort_slot : Slot → Slot
abort_slot s = record s { waiting = abort s.waiting }

abbrev pub reset : Host → Host
reset d = record d { up = false; failed = false; slots = map abort_slot d.slots; put = 0; unheard = 0; consumed = 0 }

-- Coming up.

-- a page of zeros, and a lane's two pages zeroed
unfoldable pub zeros : List ℕ
zeros = replicate 4096 0

abbrev pub zeroed : List ℕ → List ℕ
zeroed window = with_bytes (with_bytes window 0 zeros) 4096 zeros

-- the lane that was just enabled
abbrev pub fresh_host : Host → Host
fresh_host d = record d { up = true; put = 0; unheard = 0; consumed = 0 }

abbrev pub fresh_state : State → State
fresh_state c = record {
  lane = c.lane;
  window = zeroed c.window;
  ready = true;
  fetched = 0;
  waiting = 0;
  posted = 0;
  unread = 0;
  taken = [];
}

-- the lane after one more of the driver's own commands was placed, fetched, answered and consumed
abbrev pub own_host : Host → Host
own_host d = record d { put = (d.put + 1) % 8; consumed = (d.consumed + 1) % 64 }

abbrev pub own_state : State → List ℕ → List ℕ → State
own_state c entry completion =
    record c {
      window = with_bytes (with_bytes c.window (64 * c.fetched) entry) (4096 + 16 * (c.posted % 32)) completion;
      fetched = (c.fetched + 1) % 8;
      posted = (c.posted + 1) % 64;
    }
