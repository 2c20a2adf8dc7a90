-- A controller as its host and the subsystem see it: registers, queues, fetched commands and the memory that it shares
-- with its host; and the effects of stores, register writes and fetches (Base Specification: Controller Registers,
-- Submission Queue, Completion Queue, Command Fetching, Controller Reset).
use Rattle.std.specs.Prelude.{
  ℕ,
  ◌+◌,
  ◌==◌,
  nat_lt,
  nat_le,
  Bool,
  true,
  false,
  not,
  ◌&&◌,
  if◌then◌else◌,
  List,
  [],
  ◌∷◌,
  ◌++◌,
  length,
  map,
  filter,
  remove,
  Option,
  None,
  Some,
  is_some,
  option_map,
  slice_index_or,
  slice_set,
  slice_range,
}
use Rattle.nvme_wire.specs.Submission.{cid, nsid}
use Rattle.nvme_wire.specs.declared.status.Status.{Status}
use Rattle.nvme_spec.specs.declared.queues.Queues.{Queues}
use Rattle.nvme_spec.specs.declared.queues.QueueChange.{QueueChange}
use Rattle.nvme_spec.specs.declared.queues.QueueChange.TheVariants.{Keep, MakeCq, MakeSq, DropCq, DropSq}
use Rattle.nvme_spec.specs.declared.registers.RegEffect.{RegEffect}
use Rattle.nvme_spec.specs.declared.registers.RegEffect.TheVariants.{Nothing, Enable, Disable, Shutdown, SqTail, CqHead}
use Rattle.nvme_spec.specs.declared.registers.ControllerState.{ControllerState}
use Rattle.nvme_spec.specs.declared.registers.ControllerState.TheVariants.{Off, Ready, ShutDown, Failed}
use Rattle.nvme_spec.specs.declared.registers.AdminQueues.{AdminQueues}
use Rattle.nvme_spec.specs.Bytes.{with_bytes}
use Rattle.nvme_spec.specs.Memory.{window_size, zeros}
use Rattle.nvme_spec.specs.Queues as ring
use Rattle.nvme_spec.specs.Registers as register
use Rattle.nvme_spec.specs.Entries.{completion_entry}
use Rattle.nvme_machine.specs.declared.fetched.FetchedCommand.{FetchedCommand}
use Rattle.nvme_machine.specs.declared.seen.Fetched.TheVariants.{Took, Idle}
use Rattle.nvme_machine.specs.declared.seen.Seen.{Seen}
use Rattle.nvme_machine.specs.declared.seen.Seen.TheVariants.{Stored, Outside, Wrote, Value, Fetched}

-- A submission queue at its controller: its address, its completion queue, and its counts.
pub record SubmissionQueue : Type 0 where
  pub base : ℕ
  pub cqid : ℕ
  pub head : ring.SubmissionHead

pub record CompletionQueue : Type 0 where
  pub base : ℕ
  pub tail : ring.CompletionTail

-- A queue is at the place of its identifier, 0 to 4; the window is the memory that the controller can address.
pub record Controller : Type 0 where
  pub cntlid : ℕ
  pub registers : register.Registers
  pub submission : List (Option SubmissionQueue)
  pub completion : List (Option CompletionQueue)
  pub fetched : List FetchedCommand
  pub window : List ℕ

abbrev pub no_submission_queues : List (Option SubmissionQueue)
no_submission_queues = None ∷ None ∷ None ∷ None ∷ None ∷ []

abbrev pub no_completion_queues : List (Option CompletionQueue)
no_completion_queues = None ∷ None ∷ None ∷ None ∷ None ∷ []

-- a controller that was never enabled
abbrev pub new_controller : ℕ → Controller
new_controller k = record {
  cntlid = k;
  registers = register.initial_registers;
  submission = no_submission_queues;
  completion = no_completion_queues;
  fetched = [];
  window = zeros;
}

-- Power is lost, and returns: the controller is as new, and its host's memory stays.
abbrev pub power_cycled : Controller → Controller
power_cycled c = record (new_controller c.cntlid) { window = c.window }

abbrev pub submission_at : Controller → ℕ → Option SubmissionQueue
submission_at c q = slice_index_or c.submission q None

abbrev pub completion_at : Controller → ℕ → Option CompletionQueue
completion_at c q = slice_index_or c.completion q None

-- which queues exist
abbrev pub queues_of : Controller → Queues
queues_of c = record {
  cq = map (λ (q : Option CompletionQueue). is_some q) c.completion;
  sq = map (λ (o : Option SubmissionQueue). option_map (λ (q : SubmissionQueue). q.cqid) o) c.submission;
}

-- A controller after an event, and the result of the event.
pub record Reaction : Type 0 where
  pub controller : Controller
  pub seen : Seen

abbrev pub reaction : Controller → Seen → Reaction
reaction c what = record { controller = c; seen = what }

-- Its host stores bytes: if they fit into the window, no other byte changes.
unfoldable pub after_store : ℕ → List ℕ → Controller → Reaction
after_store address bytes c =
    if nat_le (address + length bytes) window_size
    then reaction (record c { window = with_bytes c.window address bytes }) Stored
    else reaction c Outside

-- Its host writes a register.

-- a reset leaves no queues and no fetched commands
abbrev pub without_queues : Controller → Controller
without_queues c = record c { submission = no_submission_queues; completion = no_completion_queues; fetched = [] }

abbrev pub admin_submission_queue : AdminQueues → SubmissionQueue
admin_submission_queue q = record { base = q.sq_base; cqid = 0; head = ring.empty_submission_head q.sq_size }

abbrev pub admin_completion_queue : AdminQueues → CompletionQueue
admin_completion_queue q = record { base = q.cq_base; tail = ring.empty_completion_tail q.cq_size }

-- an enabled controller has only the admin queues, empty
abbrev pub with_admin_queues : Option AdminQueues → Controller → Controller
with_admin_queues None c = without_queues c
with_admin_queues (Some q) c = record c {
  submission = Some (admin_submission_queue q) ∷ None ∷ None ∷ None ∷ None ∷ [];
  completion = Some (admin_completion_queue q) ∷ None ∷ None ∷ None ∷ None ∷ [];
  fetched = [];
}

abbrev pub with_tail : ℕ → SubmissionQueue → SubmissionQueue
with_tail v q = record q { head = ring.after_tail_doorbell q.head v }

abbrev pub with_head : ℕ → CompletionQueue → CompletionQueue
with_head v q = record q { tail = ring.after_head_doorbell q.tail v }

-- the effect of a write on the controller. The doorbell of a queue that does not exist has no effect
unfoldable pub taking_effect : RegEffect → Controller → Controller
taking_effect Nothing c = c
taking_effect Enable c = with_admin_queues (register.admin_queues c.registers) c
taking_effect Disable c = without_queues c
taking_effect Shutdown c = c
taking_effect (SqTail q v) c =
    record c { submission = slice_set c.submission q (option_map (with_tail v) (submission_at c q)) }
taking_effect (CqHead q v) c =
    record c { completion = slice_set c.completion q (option_map (with_head v) (completion_at c q)) }

unfoldable pub after_write32 : ℕ → ℕ → Controller → Controller
after_write32 offset v c =
    taking_effect (register.after_write c.registers offset v).effect
    (record c { registers = (register.after_write c.registers offset v).registers })

abbrev pub wrote : ℕ → ℕ → Controller → Reaction
wrote offset v c = reaction (after_write32 offset v c) Wrote

-- Its host reads a register.
abbrev pub has_read : ℕ → Controller → Reaction
has_read offset c = reaction c (Value (register.value_at c.registers offset))

-- A fetch: the controller runs and is not shut down, has room for the command, and a command waits.

-- the most fetched commands of a controller, over all its queues
abbrev pub most_fetched : ℕ
most_fetched = 64

abbrev pub may_fetch : ControllerState → Bool
may_fetch Off = false
may_fetch Ready = true
may_fetch ShutDown = false
may_fetch Failed = false

abbrev pub if_waiting : Option SubmissionQueue → Option SubmissionQueue
if_waiting None = None
if_waiting (Some q) = if nat_lt 0 q.head.waiting then Some q else None

-- the submission queue that a command can be fetched from
unfoldable pub fetchable : Controller → ℕ → Option SubmissionQueue
fetchable c q =
    if may_fetch c.registers.state && nat_lt (length c.fetched) most_fetched
    then if_waiting (submission_at c q) else None

-- the entry at the head of a submission queue
abbrev pub head_entry : Controller → SubmissionQueue → List ℕ
head_entry c q =
    let place = ring.submission_place q.base q.head.size q.head.fetched in
    slice_range c.window place (place + 64)

abbrev pub fetched_from : ℕ → Controller → Option SubmissionQueue → Reaction
fetched_from q c None = reaction c (Fetched Idle)
fetched_from q c (Some queue) =
    reaction (record c {
      submission = slice_set c.submission q (Some (record queue { head = ring.after_fetch queue.head }));
      fetched = c.fetched ++ record { entry = head_entry c queue; queue = q; marked = false } ∷ [];
    }) (Fetched Took)

unfoldable pub after_fetch : ℕ → Controller → Reaction
after_fetch q c = fetched_from q c (fetchable c q)

-- The end of an execution.

-- The queues of a command: its submission queue, and the completion queue for its completion.
pub record QueuePair : Type 0 where
  pub submission : SubmissionQueue
  pub completion : CompletionQueue

abbrev pub pair_with : SubmissionQueue → CompletionQueue → QueuePair
pair_with s c = record { submission = s; completion = c }

abbrev pub pair_of : Controller → Option SubmissionQueue → Option QueuePair
pair_of c None = None
pair_of c (Some s) = option_map (pair_with s) (completion_at c s.cqid)

abbrev pub if_room : Option QueuePair → Option QueuePair
if_room None = None
if_room (Some p) = if nat_lt 0 (ring.completion_room p.completion.tail) then Some p else None

-- the queues of a fetched command, if its completion can be posted
unfoldable pub open_pair : Controller → FetchedCommand → Option QueuePair
open_pair c t = if_room (pair_of c (submission_at c t.queue))

-- the completion of a command, with the head of its submission queue as it is now
abbrev pub completion_of : FetchedCommand → QueuePair → Status → ℕ → List ℕ
completion_of t p why first =
    completion_entry (record {
      dw0 = first;
      sq_head = p.submission.head.fetched;
      sq_id = t.queue;
      cid = cid t.entry;
      phase = ring.phase_tag p.completion.tail.size p.completion.tail.posted;
      status = why;
    })

abbrev pub completion_slot : CompletionQueue → ℕ
completion_slot q = ring.completion_place q.base q.tail.size q.tail.posted

-- the i-th command leaves the list, and its completion is posted
unfoldable pub after_posting : ℕ → FetchedCommand → QueuePair → Status → ℕ → Controller → Controller
after_posting i t p why first c = record c {
  fetched = remove c.fetched i;
  completion = slice_set c.completion p.submission.cqid
      (Some (record p.completion { tail = ring.after_post p.completion.tail }));
  window = with_bytes c.window (completion_slot p.completion) (completion_of t p why first);
}

-- deleting a submission queue drops its fetched commands
abbrev pub without_queue : ℕ → List FetchedCommand → List FetchedCommand
without_queue qid fetched = filter (λ (t : FetchedCommand). not (t.queue == qid)) fetched

-- the effect of an admin command on the queues
unfoldable pub after_queue_change : QueueChange → Controller → Controller
after_queue_change Keep c = c
after_queue_change (MakeCq qid size at) c =
    record c {
      completion = slice_set c.completion qid
          (Some (record { base = at; tail = ring.empty_completion_tail size }));
    }
after_queue_change (MakeSq qid size at to) c =
    record c {
      submission = slice_set c.submission qid
          (Some (record { base = at; cqid = to; head = ring.empty_submission_head size }));
    }
after_queue_change (DropCq qid) c = record c { completion = slice_set c.completion qid None }
after_queue_change (DropSq qid) c =
    record c { submission = slice_set c.submission qid None; fetched = without_queue qid c.fetched }

-- Marks.

-- an I/O command that names the namespace
abbrev pub names : ℕ → FetchedCommand → Bool
names n t = not (t.queue == 0) && (nsid t.entry == n)

abbrev pub with_mark : ℕ → FetchedCommand → FetchedCommand
with_mark n t = if names n t then record t { marked = true } else t

-- a controller after its fetched commands on a namespace are marked
abbrev pub with_marks : ℕ → Controller → Controller
with_marks n c = record c { fetched = map (with_mark n) c.fetched }
