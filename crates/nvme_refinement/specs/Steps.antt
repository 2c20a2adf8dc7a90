-- Statements of laws: each event of a host with a driver, as a change of the driver and its controller, is the step of
-- their mailbox.
use Rattle.std.specs.Prelude.{
  ◌≡◌,
  ◌≤◌,
  length,
  take,
  slice_get,
  ℕ,
  Bool,
  true,
  false,
  List,
  [],
  ◌∷◌,
  Ok,
  Err,
  Option,
  Some,
  None,
}
use Rattle.nvme_wire.specs.Submission.{submission_of, cid}
use Rattle.nvme_wire.specs.Completion.{FitsCompletion}
use Rattle.nvme_spec.specs.declared.queues.QueueChange.TheVariants.{Keep}
use Rattle.nvme_spec.specs.Bytes.{with_bytes}
use Rattle.nvme_spec.specs.World.{World}
use Rattle.nvme_spec.specs.IoData as spec
use Rattle.nvme_spec.specs.Blocks.{Device}
use Rattle.nvme_spec.specs.AdminRules as admin
use Rattle.nvme_spec.specs.AdminEffects.{admin_execution}
use Rattle.nvme_spec.specs.Execution.{scene, IsPerformed, Executes}
use Rattle.nvme_spec.specs.declared.command.Command.{Command}
use Rattle.nvme_spec.specs.declared.verdict.Plan.{Plan}
use Rattle.nvme_spec.specs.declared.verdict.Verdict.TheVariants.{Allowed}
use Rattle.nvme_spec.specs.Limits.{most_bytes}
use Rattle.nvme_spec.specs.Queues.{phase_tag}
use Rattle.nvme_driver.specs.Layout.{data_area}
use Rattle.nvme_machine.specs.declared.fetched.FetchedCommand.{FetchedCommand}
use Rattle.nvme_machine.specs.CommandExecutions.{CommandExecution, admin_command_execution}
use Rattle.nvme_machine.specs.declared.seen.Executed.{Executed}
use Rattle.nvme_machine.specs.declared.seen.Executed.TheVariants.{Posted}
use Rattle.nvme_machine.specs.Executing.{Setting, ExecutesNth}
use Rattle.nvme_machine.specs.Subsystems.{after_completion}
use Rattle.nvme_event.specs.declared.event.FleetEvent.TheVariants.{Execute}
use Rattle.nvme_event.specs.declared.seen.FleetSeen.TheVariants.{
  Placed,
  Polled,
  Rung,
  Fetched,
  Reset,
  Executed as ExecutedSeen,
}
use Rattle.nvme_event.specs.Replies.{Reply}
use Rattle.nvme_mailbox.specs.Mailboxes.{FetchedItem, new_mailbox, with_marks as mark_mailbox}
use Rattle.nvme_mailbox.specs.Executions.{RequestExecution, io_judgement, admin_judgement, IsServed, RequestComesTo}
use Rattle.nvme_refinement.specs.Views.{received_in}
use Rattle.nvme_driver.specs.declared.request.Request.{Request}
use Rattle.nvme_driver.specs.declared.faults.PlaceRefusal.{PlaceRefusal}
use Rattle.nvme_driver.specs.Requests.{asked_of}
use Rattle.nvme_driver.specs.Calls.{Call, Stores, Writes, Reads, Turns, Sees, Loads}
use Rattle.nvme_driver.specs.Drivers as driver
use Rattle.nvme_driver.specs.Polls as poll
use Rattle.nvme_machine.specs.Controllers.{
  Controller,
  new_controller,
  QueuePair,
  queues_of,
  with_marks,
  open_pair,
  after_store,
  after_write32,
  after_fetch,
}
use Rattle.nvme_mailbox.specs.Deliveries as mail
use Rattle.nvme_mailbox.specs.Fleets.{
  Fleet,
  WithDriver,
  Step,
  raw_fetch,
  host_at,
  settled,
  site_of,
  setting_of,
  marks_in,
  after_answer,
}
use Rattle.nvme_refinement.specs.Sound.{Sound, mailbox}

-- A driver's port calls are events of its controller, in the same order, except for looks and loads. Only bringing up
-- makes `Reads` and `Turns` calls.
abbrev pub after_call : Call → Controller → Controller
after_call (Stores address bytes) c = (after_store address bytes c).controller
after_call (Writes offset v) c = after_write32 offset v c
after_call (Reads offset v) c = c
after_call Turns c = c
after_call (Sees lane head expected seen) c = c
after_call (Loads at part) c = c

abbrev pub after_calls : List Call → Controller → Controller
after_calls [] c = c
after_calls (call ∷ calls) c = after_calls calls (after_call call c)

-- The driver and its controller are sound after it, and their mailbox is that of a reaction; the reply is that of the
-- event.
pub record IsStep (r : mail.MailboxReaction) (d : driver.Driver) (c : Controller) (reply : Reply) : Type 0 where
  pub sound : Sound d c
  pub mail : r.mailbox ≡ mailbox d c
  pub gives : r.reply ≡ reply

-- A fetch.
abbrev pub FetchIsAStep : Type 0
FetchIsAStep =
    (d : driver.Driver) (c : Controller) (q : ℕ) → Sound d c
    → IsStep (mail.fetched q (mailbox d c)) d (after_fetch q c).controller (mail.plain (Fetched (raw_fetch c q)))

-- A ring writes both lanes' (queue pairs') tails to their doorbells, if the driver is up.
abbrev pub rung_reply : Bool → Reply
rung_reply true = mail.plain (Rung (Ok tt))
rung_reply false = mail.plain (Rung (Err (record {})))

abbrev pub RingIsAStep : Type 0
RingIsAStep =
    (d : driver.Driver) (c : Controller) → Sound d c
    → IsStep (mail.rung (mailbox d c)) d (after_calls (driver.ring_calls d) c) (rung_reply (driver.is_up d.state))

-- A reset disables the controller.
abbrev pub ResetIsAStep : Type 0
ResetIsAStep =
    (d : driver.Driver) (c : Controller) → Sound d c
    → IsStep (mail.reset (mailbox d c)) (driver.after_reset d) (after_calls driver.reset_calls c) (mail.plain Reset)

-- A poll, with the oldest aborted request, if there is one.
abbrev pub PollIsAStep : Type 0
PollIsAStep =
    (d : driver.Driver) (c : Controller) (oldest : Option ℕ) → Sound d c → poll.IsOldest d.slots oldest
    → IsStep (mail.polled (mailbox d c)) (poll.polled d oldest c.window).driver
    (after_calls (poll.polled d oldest c.window).calls c)
    (record { seen = Polled (poll.polled d oldest c.window).answer; bytes = (poll.polled d oldest c.window).bytes })

-- A placing that is refused, and one in this slot, whose entry is the command of the request.
abbrev pub RefusalIsAStep : Type 0
RefusalIsAStep =
    (d : driver.Driver) (c : Controller) (request : Request) (why : PlaceRefusal) → Sound d c
    → driver.place_refusal d request ≡ Some why
    → IsStep (mail.placed (mailbox d c) request) d c (mail.plain (Placed (Err why)))

abbrev pub PlaceIsAStep : Type 0
PlaceIsAStep =
    (d : driver.Driver) (c : Controller) (request : Request) (slot : ℕ) → Sound d c
    → driver.place_refusal d request ≡ None → driver.free_slot d ≡ Some slot
    → submission_of (driver.entry_of request slot) ≡ driver.entry_fields (asked_of request) slot
    → IsStep (mail.placed (mailbox d c) request) (driver.placed d request slot)
    (after_calls (driver.stores_of d request slot) c) (mail.plain (Placed (Ok (record { 0 = d.next }))))

-- An execution stores only into its request's slot: the data of the answer, from the slot's place, as many bytes as the
-- request receives if it succeeded; the queues stay, and the completion's fields fit their widths.
pub record AnswersInItsSlot (d : driver.Driver) (c : Controller) (t : FetchedCommand) (p : QueuePair)
    (a : CommandExecution) : Type 0 where
  pub bytes : List ℕ
  pub queues : a.change ≡ Keep
  pub window : a.left.window ≡ with_bytes c.window (data_area (cid t.entry)) bytes
  pub few : length bytes ≤ most_bytes
  pub whole : poll.answer_len (received_in (poll.waiting_at d.slots (cid t.entry))) a.outcome.status ≤ length bytes
  pub fits : FitsCompletion (record {
    dw0 = a.outcome.dw0;
    sq_head = p.submission.head.fetched;
    sq_id = t.queue;
    cid = cid t.entry;
    phase = phase_tag p.completion.tail.size p.completion.tail.posted;
    status = a.outcome.status;
  })

-- the answer as the mailbox has it
abbrev pub request_execution_with : driver.Driver → FetchedCommand → CommandExecution → List ℕ → RequestExecution
request_execution_with d t a bytes = record {
  outcome = a.outcome;
  bytes = take (poll.answer_len (received_in (poll.waiting_at d.slots (cid t.entry))) a.outcome.status) bytes;
  left = record { world = a.left.world; device = a.left.device };
}

pub record IsPosted (d : driver.Driver) (c : Controller) (i : ℕ) (t : FetchedCommand) (a : CommandExecution)
    (bytes : List ℕ) (new : Controller) : Type 0 where
  pub item : FetchedItem
  pub found : slice_get (mailbox d c).fetched i ≡ Some item
  pub sound : Sound d new
  pub mail : mailbox d new ≡ after_answer i item (request_execution_with d t a bytes) (mailbox d c)

-- Any posted answer is the last of its lane in the mailbox, and it can be posted.
abbrev pub PostingIsAStep : Type 0
PostingIsAStep =
    (d : driver.Driver) (c : Controller) (i : ℕ) (t : FetchedCommand) (p : QueuePair) (a : CommandExecution) → Sound d c
    → slice_get c.fetched i ≡ Some t → open_pair c t ≡ Some p → (h : AnswersInItsSlot d c t p a)
    → IsPosted d c i t a h.bytes (after_completion i t p a c)

abbrev pub PostingHasRoom : Type 0
PostingHasRoom =
    (d : driver.Driver) (c : Controller) (i : ℕ) (t : FetchedCommand) → Sound d c → slice_get c.fetched i ≡ Some t
    → (p : QueuePair) × (open_pair c t ≡ Some p)

-- without a command there is no request to execute
abbrev pub NothingToExecute : Type 0
NothingToExecute =
    (d : driver.Driver) (c : Controller) (i : ℕ) → slice_get c.fetched i ≡ None
    → slice_get (mailbox d c).fetched i ≡ None

-- Marks reach the mailbox if they reach its controller.
pub record IsMarked (d : driver.Driver) (c : Controller) (n : ℕ) : Type 0 where
  pub sound : Sound d (with_marks n c)
  pub mail : mailbox d (with_marks n c) ≡ mark_mailbox n (mailbox d c)

abbrev pub MarksAreSteps : Type 0
MarksAreSteps = (d : driver.Driver) (c : Controller) (n : ℕ) → Sound d c → IsMarked d c n

-- A fetched command of the I/O lane is judged like the request at its place in the mailbox: its data pointer has no
-- fault.
abbrev pub JudgedAsItsRequest : Type 0
JudgedAsItsRequest =
    (d : driver.Driver) (c : Controller) (i : ℕ) (t : FetchedCommand) (x : FetchedItem) (w : World) (cntlid : ℕ)
    → Sound d c
    → slice_get c.fetched i ≡ Some t → slice_get (mailbox d c).fetched i ≡ Some x → t.queue ≡ 1
    → spec.io_judgement w cntlid t.entry t.marked c.window ≡ io_judgement w cntlid x.item.asked x.marked

-- An allowed I/O command has the effect of its request on the access state and the medium; the data of its answer are
-- in the request's slot, as many as the request receives if it succeeds.
pub record IsServedInItsSlot (tells : Bool) (d : driver.Driver) (c : Controller) (t : FetchedCommand) (x : FetchedItem)
    (w : World) (device : Device) (cntlid : ℕ) (kind : Command) (a : CommandExecution) : Type 0 where
  pub bytes : List ℕ
  pub window : a.left.window ≡ with_bytes c.window (data_area (cid t.entry)) bytes
  pub few : length bytes ≤ most_bytes
  pub whole : poll.answer_len (received_in (poll.waiting_at d.slots (cid t.entry))) a.outcome.status ≤ length bytes
  pub served : IsServed tells kind cntlid x.item.asked (record { world = w; device = device })
      (request_execution_with d t a bytes)

abbrev pub AllowedServesItsRequest : Type 0
AllowedServesItsRequest =
    (tells : Bool) (d : driver.Driver) (c : Controller) (i : ℕ) (t : FetchedCommand) (x : FetchedItem) (w : World)
    (device : Device) (cntlid : ℕ) (plan : Plan) (a : CommandExecution)
    → Sound d c → slice_get c.fetched i ≡ Some t → slice_get (mailbox d c).fetched i ≡ Some x → t.queue ≡ 1
    → spec.io_verdict w cntlid t.entry t.marked c.window ≡ Allowed plan
    → IsPerformed tells plan.kind cntlid t.entry (scene w c.window device) a.left a.outcome
    → IsServedInItsSlot tells d c t x w device cntlid plan.kind a

-- Each answer of an I/O command, allowed or denied, is a possible answer of its request; the data of the answer are in
-- the request's slot.
pub record IsAnsweredInItsSlot (tells : Bool) (d : driver.Driver) (c : Controller) (t : FetchedCommand)
    (x : FetchedItem) (w : World) (device : Device) (cntlid : ℕ) (a : CommandExecution) : Type 0 where
  pub bytes : List ℕ
  pub window : a.left.window ≡ with_bytes c.window (data_area (cid t.entry)) bytes
  pub few : length bytes ≤ most_bytes
  pub whole : poll.answer_len (received_in (poll.waiting_at d.slots (cid t.entry))) a.outcome.status ≤ length bytes
  pub comes_to : RequestComesTo tells cntlid x (record { world = w; device = device })
      (request_execution_with d t a bytes)

abbrev pub AnswersItsRequest : Type 0
AnswersItsRequest =
    (tells : Bool) (d : driver.Driver) (c : Controller) (i : ℕ) (t : FetchedCommand) (x : FetchedItem) (w : World)
    (device : Device) (cntlid : ℕ) (a : CommandExecution)
    → Sound d c → slice_get c.fetched i ≡ Some t → slice_get (mailbox d c).fetched i ≡ Some x → t.queue ≡ 1
    → Executes tells cntlid t.entry t.marked (scene w c.window device) a.left a.outcome
    → IsAnsweredInItsSlot tells d c t x w device cntlid a

-- A fetched command of the admin lane is judged like the request at its place in the mailbox, with the two pairs of
-- queues that the driver has made: its data pointer has no fault.
abbrev pub AdminJudgedAsItsRequest : Type 0
AdminJudgedAsItsRequest =
    (d : driver.Driver) (c : Controller) (i : ℕ) (t : FetchedCommand) (x : FetchedItem) (w : World) (cntlid : ℕ)
    → Sound d c
    → slice_get c.fetched i ≡ Some t → slice_get (mailbox d c).fetched i ≡ Some x → t.queue ≡ 0
    → admin.admin_judgement w (queues_of c) cntlid t.entry c.window ≡ admin_judgement w cntlid x.item.asked

-- An admin command has the answer of its request, with the data in the request's slot. The queues are unchanged.
abbrev pub AdminAnswersItsRequest : Type 0
AdminAnswersItsRequest =
    (tells : Bool) (d : driver.Driver) (c : Controller) (i : ℕ) (t : FetchedCommand) (x : FetchedItem) (w : World)
    (device : Device) (cntlid : ℕ) (a : CommandExecution)
    → Sound d c → slice_get c.fetched i ≡ Some t → slice_get (mailbox d c).fetched i ≡ Some x → t.queue ≡ 0
    → a ≡ admin_command_execution (scene w c.window device) (admin_execution w (queues_of c) cntlid t.entry c.window)
    → (a.change ≡ Keep) × IsAnsweredInItsSlot tells d c t x w device cntlid a

-- An execution of an I/O command, in the present world and over the present medium, is the step of the mailbox: the
-- request at its place has an answer, which is the last of its lane then.
pub record IsExecuted (tells : Bool) (d : driver.Driver) (i : ℕ) (old : Setting) (executed : Executed)
    (new : Setting) : Type 0 where
  pub item : FetchedItem
  pub execution : RequestExecution
  pub found : slice_get (mailbox d old.controller).fetched i ≡ Some item
  pub comes_to : RequestComesTo tells old.controller.cntlid item (record { world = old.world; device = old.device })
      execution
  pub gives : executed ≡ Posted execution.outcome
  pub sound : Sound d new.controller
  pub mail : mailbox d new.controller ≡ after_answer i item execution (mailbox d old.controller)
  pub world : new.world ≡ execution.left.world
  pub device : new.device ≡ execution.left.device

abbrev pub IoExecutionIsAStep : Type 0
IoExecutionIsAStep =
    (tells : Bool) (d : driver.Driver) (i : ℕ) (t : FetchedCommand) (old : Setting) (executed : Executed)
    (new : Setting) → Sound d old.controller
    → slice_get old.controller.fetched i ≡ Some t → t.queue ≡ 1 → ExecutesNth tells i old executed new
    → IsExecuted tells d i old executed new

-- So is an execution of an admin command.
abbrev pub AdminExecutionIsAStep : Type 0
AdminExecutionIsAStep =
    (tells : Bool) (d : driver.Driver) (i : ℕ) (t : FetchedCommand) (old : Setting) (executed : Executed)
    (new : Setting) → Sound d old.controller
    → slice_get old.controller.fetched i ≡ Some t → t.queue ≡ 0 → ExecutesNth tells i old executed new
    → IsExecuted tells d i old executed new

-- So is the execution of any command of a driver, of either lane.
abbrev pub ExecutionIsAStep : Type 0
ExecutionIsAStep =
    (tells : Bool) (d : driver.Driver) (i : ℕ) (t : FetchedCommand) (old : Setting) (executed : Executed)
    (new : Setting) → Sound d old.controller
    → slice_get old.controller.fetched i ≡ Some t → ExecutesNth tells i old executed new
    → IsExecuted tells d i old executed new

-- In a fleet whose k-th host is the mailbox of a driver and its controller, an execution of the controller is the
-- fleet's step: after it, the host is the mailbox of the driver and the controller. If there is no command, nothing
-- changes.
abbrev pub ExecutionIsAFleetStep : Type 0
ExecutionIsAFleetStep =
    (tells : Bool) (f : Fleet) (k : ℕ) (d : driver.Driver) (c : Controller) (i : ℕ) (t : FetchedCommand)
    (executed : Executed) (left : Setting) → Sound d c → c.cntlid ≡ k
    → host_at f k ≡ Some (WithDriver (mailbox d c)) → slice_get c.fetched i ≡ Some t
    → ExecutesNth tells i (setting_of f c) executed left
    → Step tells f (Execute k i) (mail.plain (ExecutedSeen executed))
    (settled f k (site_of left) (WithDriver (mailbox d left.controller)) (marks_in executed))

abbrev pub NoExecutionIsAFleetStep : Type 0
NoExecutionIsAFleetStep =
    (tells : Bool) (f : Fleet) (k : ℕ) (d : driver.Driver) (c : Controller) (i : ℕ) (executed : Executed)
    (left : Setting)
    → host_at f k ≡ Some (WithDriver (mailbox d c)) → slice_get c.fetched i ≡ None
    → ExecutesNth tells i (setting_of f c) executed left
    → (left ≡ setting_of f c) × Step tells f (Execute k i) (mail.plain (ExecutedSeen executed)) f

-- A driver that never came up, with a controller that was never enabled, is the mailbox of an opening.
pub record IsOpening (first cntlid : ℕ) : Type 0 where
  pub sound : Sound (driver.new_driver first) (new_controller cntlid)
  pub mail : mailbox (driver.new_driver first) (new_controller cntlid) ≡ new_mailbox first

abbrev pub OpeningIsSound : Type 0
OpeningIsSound = (first cntlid : ℕ) → IsOpening first cntlid
