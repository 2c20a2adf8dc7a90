-- A driver and its controller as two lanes (queue pairs) over one window: the parts of driver and controller that a
-- mailbox represents, and from the window the queue pages of both lanes and each slot's data and list page.
use Rattle.std.specs.Prelude.{
  ◌≡◌,
  ℕ,
  suc,
  ◌==◌,
  Bool,
  true,
  false,
  is_some,
  if◌then◌else◌,
  cond,
  List,
  [],
  ◌∷◌,
  length,
  take,
  drop,
  Option,
  None,
  Some,
}
use Rattle.nvme_spec.specs.Limits.{most_bytes}
use Rattle.nvme_spec.specs.Memory.{window_size}
use Rattle.nvme_driver.specs.declared.lane.Lane.{Lane}
use Rattle.nvme_driver.specs.declared.lane.Lane.TheVariants.{Admin, Io}
use Rattle.nvme_driver.specs.declared.slots.Waiting.{Waiting}
use Rattle.nvme_driver.specs.declared.state.State.TheVariants.{Down, Up, Failed}
use Rattle.nvme_driver.specs.declared.state.State as driver
use Rattle.nvme_driver.specs.Layout.{list_page, data_area, queue_id, submission_queue}
use Rattle.nvme_driver.specs.Drivers.{Driver, ends, is_up}
use Rattle.nvme_machine.specs.declared.fetched.FetchedCommand.{FetchedCommand}
use Rattle.nvme_machine.specs.Controllers.{Controller, SubmissionQueue, CompletionQueue, submission_at, completion_at}
use Rattle.nvme_mailbox.specs.Mailboxes.{FetchedItem, ranked}
use Rattle.nvme_refinement.specs.Views.{Slot, empty, Host, State, item, holds, Holds}

abbrev pub same : Lane → Lane → Bool
same Admin Admin = true
same Admin Io = false
same Io Admin = false
same Io Io = true

abbrev pub other : Lane → Lane
other Admin = Io
other Io = Admin

-- the lane of a submission queue's identifier
abbrev pub lane_of_queue : ℕ → Lane
lane_of_queue q = if q == 0 then Admin else Io

-- a lane's two queue pages
unfoldable pub pages_of : Lane → List ℕ → List ℕ
pages_of lane window = take 8192 (drop (submission_queue lane) window)

-- the data at a slot's place, and its list page
unfoldable pub area : List ℕ → ℕ → List ℕ
area window k = take most_bytes (drop (data_area k) window)

unfoldable pub listed : List ℕ → ℕ → List ℕ
listed window k = take 4096 (drop (list_page k) window)

-- a slot for one lane: with its bytes; the other lane's request is not there
abbrev pub whole : List ℕ → ℕ → Waiting → Slot
whole window k w = record { waiting = Some w; bytes = area window k; list = listed window k }

abbrev pub slot_in : Lane → List ℕ → ℕ → Option Waiting → Slot
slot_in lane window k None = empty
slot_in lane window k (Some w) = cond (same w.lane lane) (whole window k w) empty

abbrev pub slots_in : Lane → List ℕ → ℕ → List (Option Waiting) → List Slot
slots_in lane window k [] = []
slots_in lane window k (x ∷ xs) = slot_in lane window k x ∷ slots_in lane window (suc k) xs

-- the driver's side of a lane
abbrev pub is_failed : driver.State → Bool
is_failed Down = false
is_failed Up = false
is_failed Failed = true

abbrev pub host : Lane → Driver → List ℕ → Host
host lane d window = record {
  up = is_up d.state;
  failed = is_failed d.state;
  next = d.next;
  slots = slots_in lane window 0 d.slots;
  put = (ends lane d).tail.put;
  unheard = (ends lane d).tail.unheard;
  consumed = (ends lane d).head.consumed;
}

-- the controller's side: its counts, if the queues exist, and the commands of the lane, in order
abbrev pub fetched_count : Option SubmissionQueue → ℕ
fetched_count None = 0
fetched_count (Some q) = q.head.fetched

abbrev pub waiting_count : Option SubmissionQueue → ℕ
waiting_count None = 0
waiting_count (Some q) = q.head.waiting

abbrev pub posted_count : Option CompletionQueue → ℕ
posted_count None = 0
posted_count (Some q) = q.tail.posted

abbrev pub unread_count : Option CompletionQueue → ℕ
unread_count None = 0
unread_count (Some q) = q.tail.unread

abbrev pub commands_in : Lane → List FetchedCommand → List (List ℕ)
commands_in lane [] = []
commands_in lane (t ∷ ts) =
    cond (same (lane_of_queue t.queue) lane) (t.entry ∷ commands_in lane ts) (commands_in lane ts)

abbrev pub state : Lane → Controller → State
state which c = record {
  lane = which;
  window = pages_of which c.window;
  ready = is_some (submission_at c (queue_id which));
  fetched = fetched_count (submission_at c (queue_id which));
  waiting = waiting_count (submission_at c (queue_id which));
  posted = posted_count (completion_at c (queue_id which));
  unread = unread_count (completion_at c (queue_id which));
  taken = commands_in which c.fetched;
}

-- The invariant of a driver and its controller: that of each lane, from one ticket on.
pub record Both (d : Driver) (c : Controller) : Type 0 where
  pub first : ℕ
  pub window : length c.window ≡ window_size
  pub slots : length d.slots ≡ 24
  pub each : (lane : Lane) → Holds first (host lane d c.window) (state lane c)

-- the ticket of a request that was aborted, and such tickets of slots in rising order
abbrev pub aborted_number : Option Waiting → Option ℕ
aborted_number None = None
aborted_number (Some w) = cond w.live None (Some w.ticket.0)

abbrev pub ranked_too : Option ℕ → List ℕ → List ℕ
ranked_too None us = us
ranked_too (Some t) us = ranked t us

abbrev pub in_order : (Option Waiting → Option ℕ) → List (Option Waiting) → List ℕ
in_order f [] = []
in_order f (x ∷ xs) = ranked_too (f x) (in_order f xs)

-- the fetched requests, with these slots of the lanes
abbrev pub fetched_by : (Lane → ℕ → Slot) → FetchedCommand → FetchedItem
fetched_by slots t = record { item = item (slots (lane_of_queue t.queue)) t.entry; marked = t.marked }

abbrev pub held_by : Driver → List ℕ → Lane → ℕ → Slot
held_by d window lane = holds (host lane d window)
