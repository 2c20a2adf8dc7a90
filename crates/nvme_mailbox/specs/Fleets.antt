-- A fleet: the access state, the medium, and each controller's host; and the effect of each event. A host with a driver
-- is represented by its mailbox; a raw host has no driver, and is represented by its controller.
use Rattle.std.specs.Prelude.{
  ◌≡◌,
  ℕ,
  ◌+◌,
  zero,
  suc,
  nat_le,
  Bool,
  if◌then◌else◌,
  List,
  [],
  ◌∷◌,
  ◌++◌,
  length,
  map,
  remove,
  is_some,
  Option,
  None,
  Some,
  slice_get,
  slice_set,
}
use Rattle.nvme_spec.specs.declared.config.ControllerConfig.{ControllerConfig}
use Rattle.nvme_spec.specs.declared.outcome.Marks.{Marks}
use Rattle.nvme_spec.specs.Blocks.{Device}
use Rattle.nvme_spec.specs.Memory.{window_size}
use Rattle.nvme_spec.specs.Configuration.{Configuration}
use Rattle.nvme_spec.specs.World.{World, host_of, opening_world}
use Rattle.nvme_spec.specs.Power.{cycled_world}
use Rattle.nvme_spec.specs.Execution.{no_marks}
use Rattle.nvme_machine.specs.declared.seen.Fetched.{Fetched}
use Rattle.nvme_machine.specs.declared.seen.Fetched.TheVariants.{Took, Idle}
use Rattle.nvme_machine.specs.declared.seen.Executed.{Executed}
use Rattle.nvme_machine.specs.declared.seen.Executed.TheVariants.{Posted, NoSuch, CqFull}
use Rattle.nvme_machine.specs.Controllers as machine
use Rattle.nvme_machine.specs.Subsystems.{is_host_among}
use Rattle.nvme_machine.specs.Executing.{Setting, setting, ExecutesNth}
use Rattle.nvme_event.specs.declared.event.FleetEvent.{FleetEvent}
use Rattle.nvme_event.specs.declared.event.FleetEvent.TheVariants.{
  BringUp,
  Place,
  Ring,
  Fetch,
  Execute,
  Poll,
  Reset,
  RawStore,
  RawWrite32,
  PowerCycle,
}
use Rattle.nvme_event.specs.declared.seen.FleetSeen.{FleetSeen}
use Rattle.nvme_event.specs.declared.seen.FleetSeen.TheVariants.{
  Fetched as FetchedSeen,
  Executed as ExecutedSeen,
  Stored,
  Outside,
  Wrote,
  Cycled,
  NoController,
  NoDriver,
  NotRaw,
}
use Rattle.nvme_event.specs.Replies.{Reply}
use Rattle.nvme_mailbox.specs.Mailboxes.{
  FetchedItem,
  PostedAnswer,
  LaneBox,
  Mailbox,
  new_mailbox,
  box_at,
  with_box,
  lane_of,
  with_marks,
}
use Rattle.nvme_mailbox.specs.Deliveries.{plain, MailboxReaction, brought_up, placed, rung, fetched, polled, reset}
use Rattle.nvme_mailbox.specs.Executions.{Site, RequestExecution, RequestComesTo}

-- A host with a driver, or a raw one.
pub data Host : Type 0 where
  WithDriver : Mailbox → Host
  Raw : machine.Controller → Host

-- The host of controller k is at place k - 1.
pub record Fleet : Type 0 where
  pub site : Site
  pub hosts : List Host

-- the opening of a configuration over a medium: every driver is down, and its first ticket is 1
abbrev pub new_host : ControllerConfig → Host
new_host k = if k.raw then Raw (machine.new_controller k.cntlid) else WithDriver (new_mailbox 1)

unfoldable pub opening : Configuration → Device → Fleet
opening c d = record {
  site = record { world = opening_world c; device = d };
  hosts = map new_host c.controllers;
}

-- the k-th of a list, from 1
abbrev pub numbered : List Host → ℕ → Option Host
numbered hosts zero = None
numbered hosts (suc n) = slice_get hosts n

abbrev pub replaced : List Host → ℕ → Host → List Host
replaced hosts zero h = hosts
replaced hosts (suc n) h = slice_set hosts n h

unfoldable pub host_at : Fleet → ℕ → Option Host
host_at f k = numbered f.hosts k

unfoldable pub with_host : Fleet → ℕ → Host → Fleet
with_host f k h = record f { hosts = replaced f.hosts k h }

-- The fleet after one event, and the reply to it.
pub record Moment : Type 0 where
  pub fleet : Fleet
  pub reply : Reply

abbrev pub moment : Fleet → FleetSeen → Moment
moment f what = record { fleet = f; reply = plain what }

-- A call of a driver.
abbrev pub delivered : Fleet → ℕ → MailboxReaction → Moment
delivered f k r = record { fleet = with_host f k (WithDriver r.mailbox); reply = r.reply }

abbrev pub called_at : Option Host → Fleet → ℕ → (Mailbox → MailboxReaction) → Moment
called_at None f k call = moment f NoController
called_at (Some (WithDriver m)) f k call = delivered f k (call m)
called_at (Some (Raw c)) f k call = moment f NoDriver

abbrev pub called : Fleet → ℕ → (Mailbox → MailboxReaction) → Moment
called f k call = called_at (host_at f k) f k call

-- An event of a raw host.
abbrev pub stored_seen : ℕ → List ℕ → FleetSeen
stored_seen address bytes = if nat_le (address + length bytes) window_size then Stored else Outside

abbrev pub raw_at : Option Host → Fleet → ℕ → (machine.Controller → machine.Controller) → FleetSeen → Moment
raw_at None f k change what = moment f NoController
raw_at (Some (WithDriver m)) f k change what = moment f NotRaw
raw_at (Some (Raw c)) f k change what = moment (with_host f k (Raw (change c))) what

abbrev pub raw_stored : Fleet → ℕ → ℕ → List ℕ → Moment
raw_stored f k address bytes =
    raw_at (host_at f k) f k (λ c. (machine.after_store address bytes c).controller) (stored_seen address bytes)

abbrev pub raw_wrote : Fleet → ℕ → ℕ → ℕ → Moment
raw_wrote f k offset v = raw_at (host_at f k) f k (machine.after_write32 offset v) Wrote

-- A fetch, of a host of either kind.
abbrev pub raw_fetch : machine.Controller → ℕ → Fetched
raw_fetch c q = if is_some (machine.fetchable c q) then Took else Idle

abbrev pub fetched_at : Option Host → Fleet → ℕ → ℕ → Moment
fetched_at None f k q = moment f NoController
fetched_at (Some (WithDriver m)) f k q = delivered f k (fetched q m)
fetched_at (Some (Raw c)) f k q =
    moment (with_host f k (Raw (machine.after_fetch q c).controller)) (FetchedSeen (raw_fetch c q))

-- Executions.

-- the hosts from controller k, after the removed ones among them are marked
abbrev pub marked : ℕ → Host → Host
marked n (WithDriver m) = WithDriver (with_marks n m)
marked n (Raw c) = Raw (machine.with_marks n c)

abbrev pub marked_from : World → Marks → ℕ → List Host → List Host
marked_from w m k [] = []
marked_from w m k (h ∷ rest) =
    (if is_host_among m.hosts.items (host_of w k) then marked m.nsid h else h) ∷ marked_from w m (k + 1) rest

-- the fleet after an execution: this host, this site and these marks
unfoldable pub settled : Fleet → ℕ → Site → Host → Marks → Fleet
settled f k left h marks = record { site = left; hosts = marked_from left.world marks 1 (replaced f.hosts k h) }

-- the mailbox after its i-th fetched request is answered: the answer is the last of its lane (queue pair)
abbrev pub answer_for : FetchedItem → RequestExecution → ℕ → PostedAnswer
answer_for x r since = record {
  ticket = x.item.ticket;
  status = r.outcome.status;
  dw0 = r.outcome.dw0;
  bytes = r.bytes;
  step = since;
}

abbrev pub with_posted : LaneBox → FetchedItem → RequestExecution → LaneBox
with_posted b x r = record b { posted = b.posted ++ answer_for x r b.since ∷ []; since = 0 }

unfoldable pub after_answer : ℕ → FetchedItem → RequestExecution → Mailbox → Mailbox
after_answer i x r m =
    with_box (lane_of x.item) (with_posted (box_at (lane_of x.item) m) x r) (record m { fetched = remove m.fetched i })

abbrev pub after_execution : Fleet → ℕ → Mailbox → ℕ → FetchedItem → RequestExecution → Fleet
after_execution f k m i x r = settled f k r.left (WithDriver (after_answer i x r m)) r.outcome.marks

pub record Completes (tells : Bool) (old : Fleet) (k : ℕ) (m : Mailbox) (i : ℕ) (x : FetchedItem) (reply : Reply)
    (new : Fleet) : Type 0 where
  pub execution : RequestExecution
  pub comes_to : RequestComesTo tells k x old.site execution
  pub gives : reply ≡ plain (ExecutedSeen (Posted execution.outcome))
  pub leaves : new ≡ after_execution old k m i x execution

abbrev pub ExecutesItem : Option FetchedItem → Bool → Fleet → ℕ → Mailbox → ℕ → Reply → Fleet → Type 0
ExecutesItem None tells old k m i reply new = (reply ≡ plain (ExecutedSeen NoSuch)) × (new ≡ old)
ExecutesItem (Some x) tells old k m i reply new = Completes tells old k m i x reply new

-- a raw host's controller executes as every controller does
abbrev pub marks_in : Executed → Marks
marks_in (Posted outcome) = outcome.marks
marks_in NoSuch = no_marks
marks_in CqFull = no_marks

abbrev pub site_of : Setting → Site
site_of s = record { world = s.world; device = s.device }

abbrev pub setting_of : Fleet → machine.Controller → Setting
setting_of f c = setting c f.site.world f.site.device

abbrev pub after_raw : Fleet → ℕ → Executed → Setting → Fleet
after_raw f k executed left = settled f k (site_of left) (Raw left.controller) (marks_in executed)

pub record ExecutesRaw (tells : Bool) (old : Fleet) (k : ℕ) (c : machine.Controller) (i : ℕ) (reply : Reply)
    (new : Fleet) : Type 0 where
  pub executed : Executed
  pub left : Setting
  pub executes : ExecutesNth tells i (setting_of old c) executed left
  pub gives : reply ≡ plain (ExecutedSeen executed)
  pub leaves : new ≡ after_raw old k executed left

abbrev pub ExecutesAt : Option Host → Bool → Fleet → ℕ → ℕ → Reply → Fleet → Type 0
ExecutesAt None tells old k i reply new = (reply ≡ plain NoController) × (new ≡ old)
ExecutesAt (Some (WithDriver m)) tells old k i reply new =
    ExecutesItem (slice_get m.fetched i) tells old k m i reply new
ExecutesAt (Some (Raw c)) tells old k i reply new = ExecutesRaw tells old k c i reply new

-- Power is lost, and returns: what persists of the world stays, each driver resets its controller, and each raw host's
-- controller is as new.
abbrev pub host_cycled : Host → Host
host_cycled (WithDriver m) = WithDriver (reset m).mailbox
host_cycled (Raw c) = Raw (machine.power_cycled c)

unfoldable pub power_cycled : Fleet → Fleet
power_cycled f = record {
  site = record { world = cycled_world f.site.world; device = f.site.device };
  hosts = map host_cycled f.hosts;
}

-- One event: the fleet before it, its reply, and the fleet after it.
abbrev pub Is : Moment → Reply → Fleet → Type 0
Is m reply new = (reply ≡ m.reply) × (new ≡ m.fleet)

abbrev pub Step : Bool → Fleet → FleetEvent → Reply → Fleet → Type 0
Step tells old (BringUp k) reply new = Is (called old k brought_up) reply new
Step tells old (Place k request) reply new = Is (called old k (λ m. placed m request)) reply new
Step tells old (Ring k) reply new = Is (called old k rung) reply new
Step tells old (Fetch k q) reply new = Is (fetched_at (host_at old k) old k q) reply new
Step tells old (Execute k i) reply new = ExecutesAt (host_at old k) tells old k i reply new
Step tells old (Poll k) reply new = Is (called old k polled) reply new
Step tells old (Reset k) reply new = Is (called old k reset) reply new
Step tells old (RawStore k address bytes) reply new = Is (raw_stored old k address bytes.now) reply new
Step tells old (RawWrite32 k offset v) reply new = Is (raw_wrote old k offset v) reply new
Step tells old PowerCycle reply new = Is (moment (power_cycled old) Cycled) reply new

-- A list of events, and their replies.
abbrev pub Run : Bool → Fleet → List FleetEvent → List Reply → Fleet → Type 0
Run tells old [] [] new = new ≡ old
Run tells old (event ∷ events) (reply ∷ later) new =
    (mid : Fleet) × Step tells old event reply mid × Run tells mid events later new
Run tells old [] (reply ∷ later) new = ⊥
Run tells old (event ∷ events) [] new = ⊥
