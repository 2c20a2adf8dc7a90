-- A controller's queues and fetched commands, for C.
use Rattle.std.specs.Prelude.{ℕ, ◌+◌, length, replicate, false, Option, Some, None, slice_get}
use Rattle.nvme_spec.specs.Queues as ring
use Rattle.nvme_machine.specs.declared.fetched.FetchedCommand.{FetchedCommand}
use Rattle.nvme_machine.specs.Controllers.{Controller, SubmissionQueue, CompletionQueue, submission_at, completion_at}
use Rattle.nvme_machine.specs.Subsystems.{controller_at}
use Rattle.nvme_library.specs.declared.queues.Queue.{Queue}
use Rattle.nvme_library.specs.declared.queues.Command.{Command}
use Rattle.nvme_library.specs.Holding.{Inside}
use Rattle.nvme_library.specs.Turns.{head_of, tail_of}

-- what C reads of a controller, or an error if no subsystem is open or it lacks that controller
abbrev pub of_its : {A : Type 0} → (ℕ → A) → (Controller → A) → Option Controller → A
of_its without f None = without 17
of_its without f (Some c) = f c

abbrev pub of_controller : {A : Type 0} → (ℕ → A) → (Controller → A) → Option Inside → ℕ → A
of_controller without f None cntlid = without 16
of_controller without f (Some s) cntlid = of_its without f (controller_at s.state cntlid)

abbrev pub without_queue : ℕ → Queue
without_queue what =
    record { base = 0; what = what; size = 0; head = 0; tail = 0; cqid = 0; phase = false }

abbrev pub submission_of : SubmissionQueue → Queue
submission_of s = record {
  base = s.base;
  what = 0;
  size = s.head.size;
  head = s.head.fetched;
  tail = ring.slot_of s.head.size (s.head.fetched + s.head.waiting);
  cqid = s.cqid;
  phase = false;
}

abbrev pub completion_of : ℕ → CompletionQueue → Queue
completion_of qid x = record {
  base = x.base;
  what = 0;
  size = x.tail.size;
  head = head_of x;
  tail = tail_of x;
  cqid = qid;
  phase = ring.phase_tag x.tail.size x.tail.posted;
}

abbrev pub if_submission : Option SubmissionQueue → Queue
if_submission None = without_queue 28
if_submission (Some s) = submission_of s

abbrev pub if_completion : ℕ → Option CompletionQueue → Queue
if_completion qid None = without_queue 28
if_completion qid (Some x) = completion_of qid x

abbrev pub submission_queue_at : ℕ → Controller → Queue
submission_queue_at qid c = if_submission (submission_at c qid)

abbrev pub completion_queue_at : ℕ → Controller → Queue
completion_queue_at qid c = if_completion qid (completion_at c qid)

abbrev pub without_command : ℕ → ℕ → Command
without_command count what =
    record { count = count; what = what; qid = 0; marked = false; entry = replicate 64 0 }

abbrev pub command_of : ℕ → Option FetchedCommand → Command
command_of count None = without_command count 7
command_of count (Some t) =
    record { count = count; what = 0; qid = t.queue; marked = t.marked; entry = t.entry }

-- the i-th of the fetched commands, and their number
abbrev pub command_at : ℕ → Controller → Command
command_at i c = command_of (length c.fetched) (slice_get c.fetched i)
