-- The result and the effect of a poll (Base Specification: Completion Queue Entry, Phase Tag, Command Identifier, SQ
-- Head Pointer).
use Rattle.std.specs.Prelude.{
  ◌≡◌,
  ◌≤◌,
  slice_range,
  slice_get,
  slice_set,
  ℕ,
  ◌+◌,
  ◌*◌,
  ◌==◌,
  Bool,
  not,
  ◌&&◌,
  if◌then◌else◌,
  List,
  [],
  ◌∷◌,
  ◌++◌,
  length,
  take,
  Option,
  None,
  Some,
  Result,
  Ok,
  Err,
}
use Rattle.std.specs.Option.{option_flatten}
use Rattle.nvme_wire.specs.Completion.{dw0, sq_head, sq_id, cid, phase, status}
use Rattle.nvme_wire.specs.declared.status.Status.{Status}
use Rattle.nvme_spec.specs.Queues.{slot_of, phase_tag, can_be_heard, after_head, after_consumption}
use Rattle.nvme_driver.specs.declared.lane.Lane.{Lane}
use Rattle.nvme_driver.specs.declared.lane.Lane.TheVariants.{Admin, Io}
use Rattle.nvme_driver.specs.declared.state.State.TheVariants.{Failed}
use Rattle.nvme_driver.specs.declared.ticket.Ticket.{Ticket}
use Rattle.nvme_driver.specs.declared.slots.Waiting.{Waiting}
use Rattle.nvme_driver.specs.declared.found.Found.{Found}
use Rattle.nvme_driver.specs.declared.answer.Answer.{Answer}
use Rattle.nvme_driver.specs.declared.answer.Answer.TheVariants.{Done, Aborted}
use Rattle.nvme_driver.specs.declared.faults.PollFault.{PollFault}
use Rattle.nvme_driver.specs.declared.faults.PollFault.TheVariants.{NotUp, UnknownCommand}
use Rattle.nvme_driver.specs.Calls.{Call, Writes, Sees, Loads, Calls}
use Rattle.nvme_driver.specs.Layout.{completion_entries, queue_id, completion_queue, head_doorbell, data_area}
use Rattle.nvme_driver.specs.Drivers.{Ends, Driver, is_up, ends, with_ends}

-- the request in a slot
abbrev pub waiting_at : List (Option Waiting) → ℕ → Option Waiting
waiting_at slots slot = option_flatten (slice_get slots slot)

-- Aborted requests.

-- the ticket of a request that was aborted
abbrev pub aborted_ticket : Option Waiting → Option Ticket
aborted_ticket None = None
aborted_ticket (Some w) = if w.live then None else Some w.ticket

abbrev pub aborted_at : List (Option Waiting) → ℕ → Option Ticket
aborted_at slots slot = aborted_ticket (waiting_at slots slot)

-- a ticket that is not below this one
abbrev pub IsNotBelow : Ticket → Option Ticket → Type 0
IsNotBelow t None = Unit {0}
IsNotBelow t (Some u) = t.0 ≤ u.0

-- the slot of the aborted request with the lowest ticket, if there is one
abbrev pub IsOldest : List (Option Waiting) → Option ℕ → Type 0
IsOldest slots None = (k : ℕ) → aborted_at slots k ≡ None
IsOldest slots (Some slot) =
    (ticket : Ticket) × (aborted_at slots slot ≡ Some ticket) × ((k : ℕ) → IsNotBelow ticket (aborted_at slots k))

-- Completions.

-- the entry in a slot of a lane's completion queue
abbrev pub entry_at : Lane → ℕ → List ℕ → List ℕ
entry_at lane head window =
    slice_range window (completion_queue lane + 16 * head) (completion_queue lane + 16 * head + 16)

-- it has this phase tag
abbrev pub has_phase : Bool → List ℕ → Bool
has_phase expected entry = if phase entry then expected else not expected

-- what a look at a slot finds in a window: the entry, if it has the expected phase tag
abbrev pub seen_in : Lane → ℕ → Bool → List ℕ → Option (List ℕ)
seen_in lane head expected window =
    if has_phase expected (entry_at lane head window) then Some (entry_at lane head window) else None

-- the slot of the next completion, and its phase tag
abbrev pub head_of : Ends → ℕ
head_of e = slot_of completion_entries e.head.consumed

abbrev pub phase_of : Ends → Bool
phase_of e = phase_tag completion_entries e.head.consumed

-- the entry of the next completion of a lane; it is new if its phase tag is the expected one
abbrev pub next_entry : Lane → Ends → List ℕ → List ℕ
next_entry lane e window = entry_at lane (head_of e) window

abbrev pub is_new : Ends → List ℕ → Bool
is_new e entry = has_phase (phase_of e) entry

abbrev pub new_in : Lane → Ends → List ℕ → Option (List ℕ)
new_in lane e window = seen_in lane (head_of e) (phase_of e) window

-- the first new completion: of the admin lane, then of the I/O lane
abbrev pub found_in : Lane → Option (List ℕ) → Option Found
found_in which None = None
found_in which (Some bytes) = Some (record { lane = which; entry = bytes })

abbrev pub found_or : Option Found → Option Found → Option Found
found_or None later = later
found_or (Some f) later = Some f

abbrev pub found : Driver → List ℕ → Option Found
found d window = found_or (found_in Admin (new_in Admin d.admin window)) (found_in Io (new_in Io d.io window))

-- a request of this lane that was not aborted
abbrev pub live_in : Lane → Option Waiting → Option Waiting
live_in lane None = None
live_in lane (Some w) = if (queue_id w.lane == queue_id lane) && w.live then Some w else None

-- the request that a completion answers: its queue is the lane's, its identifier is the slot of a live request of that
-- lane, and its head is between the last accepted one and the tail
abbrev pub answered : Driver → Lane → List ℕ → Option Waiting
answered d lane entry =
    if (sq_id entry == queue_id lane) && can_be_heard (ends lane d).tail (sq_head entry)
    then live_in lane (waiting_at d.slots (cid entry))
    else None

-- the ends of a lane after a completion with this head was consumed
abbrev pub consumed_ends : Ends → ℕ → Ends
consumed_ends e head = record { tail = after_head e.tail head; head = after_consumption e.head }

-- the number of bytes of an answer: those of its request if the command succeeded
abbrev pub is_success : Status → Bool
is_success s = (s.sct == 0) && (s.sc == 0)

abbrev pub answer_len : ℕ → Status → ℕ
answer_len received s = if is_success s then received else 0

-- The outcome of a poll: its answer, the driver after it, its calls of the port, and the bytes at the front of the
-- buffer.
pub record Poll : Type 0 where
  pub answer : Result (Option Answer) PollFault
  pub driver : Driver
  pub calls : List Call
  pub bytes : List ℕ

abbrev pub without_calls : Result (Option Answer) PollFault → Driver → Poll
without_calls result d = record { answer = result; driver = d; calls = []; bytes = [] }

-- an aborted request is delivered, and its slot is free
abbrev pub ticket_of : Option Ticket → Ticket
ticket_of None = record { 0 = 0 }
ticket_of (Some t) = t

abbrev pub freed : Driver → ℕ → Driver
freed d slot = record d { slots = slice_set d.slots slot None }

abbrev pub aborted_poll : Driver → ℕ → Poll
aborted_poll d slot = without_calls (Ok (Some (Aborted (ticket_of (aborted_at d.slots slot))))) (freed d slot)

-- a completion is consumed and answers its request, or it answers none, and the driver has failed
abbrev pub consumed : Driver → Lane → List ℕ → Driver
consumed d lane entry = with_ends lane (consumed_ends (ends lane d) (sq_head entry)) (freed d (cid entry))

-- with these data of the request, which are at the front of the buffer
abbrev pub delivered : Driver → Lane → List ℕ → List ℕ → Option Waiting → Poll
delivered d lane entry part None = without_calls (Err UnknownCommand) (record d { state = Failed })
delivered d lane entry part (Some w) = record {
  answer = Ok (Some (Done w.ticket (status entry) (dw0 entry) (answer_len w.received (status entry))));
  driver = consumed d lane entry;
  calls = Writes (head_doorbell lane) (head_of (consumed_ends (ends lane d) (sq_head entry))) ∷ [];
  bytes = part;
}

abbrev pub handed_up : Driver → Found → List ℕ → Poll
handed_up d f part = delivered d f.lane f.entry part (answered d f.lane f.entry)

-- those in a window
abbrev pub data_in : List ℕ → List ℕ → Option Waiting → List ℕ
data_in window entry None = []
data_in window entry (Some w) =
    slice_range window (data_area (cid entry)) (data_area (cid entry) + answer_len w.received (status entry))

abbrev pub answered_poll : Driver → List ℕ → Lane → List ℕ → Option Waiting → Poll
answered_poll d window lane entry request = delivered d lane entry (data_in window entry request) request

abbrev pub entry_poll : Driver → List ℕ → Lane → List ℕ → Poll
entry_poll d window lane entry = answered_poll d window lane entry (answered d lane entry)

abbrev pub found_poll : Driver → List ℕ → Option Found → Poll
found_poll d window None = without_calls (Ok None) d
found_poll d window (Some f) = entry_poll d window f.lane f.entry

-- an aborted request comes first, in every state; otherwise the driver must be up, and the first new completion decides
abbrev pub polled : Driver → Option ℕ → List ℕ → Poll
polled d (Some slot) window = aborted_poll d slot
polled d None window =
    if is_up d.state then found_poll d window (found d window) else without_calls (Err NotUp) d

-- the number of bytes that a poll delivers: those of the answer of a request
abbrev pub handed_len : Result (Option Answer) PollFault → ℕ
handed_len (Ok (Some (Done ticket status dw0 len))) = len
handed_len other = 0

-- The looks of a poll: at the next completion of the admin lane, and if that is not new, at the next one of the I/O
-- lane. Then the data of the request that a new one answers are loaded.
abbrev pub look : Lane → Ends → Option (List ℕ) → Call
look lane e seen = Sees lane (head_of e) (phase_of e) seen

abbrev pub looks_at : Driver → Lane → List ℕ → List Call
looks_at d Admin entry = look Admin d.admin (Some entry) ∷ []
looks_at d Io entry = look Admin d.admin None ∷ look Io d.io (Some entry) ∷ []

abbrev pub looks : Driver → Option Found → List Call
looks d None = look Admin d.admin None ∷ look Io d.io None ∷ []
looks d (Some f) = looks_at d f.lane f.entry

abbrev pub loads : List ℕ → List ℕ → Option Waiting → List Call
loads entry part None = []
loads entry part (Some w) = Loads (data_area (cid entry)) part ∷ []

abbrev pub entry_loads : Driver → List ℕ → Lane → List ℕ → List Call
entry_loads d window lane entry =
    loads entry (data_in window entry (answered d lane entry)) (answered d lane entry)

abbrev pub found_loads : Driver → List ℕ → Option Found → List Call
found_loads d window None = []
found_loads d window (Some f) = entry_loads d window f.lane f.entry

abbrev pub poll_looks : Driver → Option ℕ → List ℕ → List Call
poll_looks d (Some slot) window = []
poll_looks d None window =
    if is_up d.state then looks d (found d window) ++ found_loads d window (found d window) else []

-- A poll of a driver. Some bytes of a window have what its looks and loads return; the device may write others before
-- and after each call. The outcome is that for the slot of the oldest aborted request, if there is one: the answer, the
-- driver afterwards, the calls, and the front of the buffer.
pub record IsPolled {S : Type 0} (step : S → Call → S → Type 0) (d : Driver) (old : S)
    (result : Result (Option Answer) PollFault) (d' : Driver) (new : S) (buffer : List ℕ) : Type 0 where
  pub window : List ℕ
  pub oldest : Option ℕ
  pub is_oldest : IsOldest d.slots oldest
  pub gives : result ≡ (polled d oldest window).answer
  pub driver : d' ≡ (polled d oldest window).driver
  pub calls : Calls step old (poll_looks d oldest window ++ (polled d oldest window).calls) new
  pub front : take (length (polled d oldest window).bytes) buffer ≡ (polled d oldest window).bytes
  pub size : length (polled d oldest window).bytes ≡ handed_len result

-- The same over a window that only the driver and its calls change: it is that window, and looks and loads leave it.
abbrev pub IsPolledOver :
    {S : Type 0} → (S → Call → S → Type 0) → Driver → List ℕ → S → Result (Option Answer) PollFault → Driver → S
    → List ℕ
    → Type 0
IsPolledOver step d window old result d' new buffer =
    (oldest : Option ℕ) × IsOldest d.slots oldest
    × (result ≡ (polled d oldest window).answer)
    × (d' ≡ (polled d oldest window).driver)
    × Calls step old (polled d oldest window).calls new
    × (take (length (polled d oldest window).bytes) buffer ≡ (polled d oldest window).bytes)
