-- A host's turn at a pair of empty queues: the slots of the next command and of the next completion.
use Rattle.std.specs.Prelude.{
  ℕ,
  ◌+◌,
  ◌*◌,
  ◌==◌,
  nat_lt,
  nat_le,
  Bool,
  not,
  ◌&&◌,
  ◌||◌,
  if◌then◌else◌,
  length,
  Option,
  Some,
  None,
  Result,
  Ok,
  Err,
  slice_get,
}
use Rattle.nvme_spec.specs.Memory.{window_size}
use Rattle.nvme_spec.specs.Queues as ring
use Rattle.nvme_spec.specs.Registers.{value_at}
use Rattle.nvme_machine.specs.declared.fetched.FetchedCommand.{FetchedCommand}
use Rattle.nvme_machine.specs.Controllers.{
  Controller,
  SubmissionQueue,
  CompletionQueue,
  submission_at,
  completion_at,
  completion_slot,
}
use Rattle.nvme_library.specs.declared.turn.Reply.{Reply}
use Rattle.nvme_library.specs.declared.turn.Turn.{Turn}

-- the next slot of a ring
abbrev pub next_slot : ℕ → ℕ → ℕ
next_slot size slot = if slot + 1 == size then 0 else slot + 1

-- the slot of the next completion, and the head as the host has written it
abbrev pub tail_of : CompletionQueue → ℕ
tail_of x = ring.slot_of x.tail.size x.tail.posted

abbrev pub head_of : CompletionQueue → ℕ
head_of x = ring.ahead x.tail.size (tail_of x) x.tail.unread

-- no command waits in the submission queue, and no completion in the completion queue
abbrev pub is_quiet : SubmissionQueue → CompletionQueue → Bool
is_quiet s x = not (nat_lt 0 s.head.waiting) && (head_of x == tail_of x)

-- the command is stored at the tail of the submission queue
abbrev pub turn_with : ℕ → SubmissionQueue → Turn
turn_with index s = record {
  entry_at = ring.submission_place s.base s.head.size s.head.fetched;
  tail = next_slot s.head.size s.head.fetched;
  cqid = s.cqid;
  index = index;
}

abbrev pub turn_between : Controller → SubmissionQueue → Option CompletionQueue → Result Turn ℕ
turn_between c s None = Err 28
turn_between c s (Some x) =
    if nat_le 64 (length c.fetched) || not (is_quiet s x) then Err 30 else Ok (turn_with (length c.fetched) s)

abbrev pub turn_at : Controller → Option SubmissionQueue → Result Turn ℕ
turn_at c None = Err 28
turn_at c (Some s) = turn_between c s (completion_at c s.cqid)

-- the turn at a submission queue of a controller, or why there is none: the controller does not run, it has no such
-- queue, or something waits
abbrev pub turn_of : Controller → ℕ → Result Turn ℕ
turn_of c qid = if value_at c.registers 0x1c == 1 then turn_at c (submission_at c qid) else Err 29

-- why data can't be stored with an entry: some are not in the memory, or some are in the entry's slot
abbrev pub data_fault : ℕ → ℕ → ℕ → Option ℕ
data_fault entry_at at count =
    if count == 0 then None
    else (if not (nat_le (at + count) window_size) then Some 18
    else (if nat_lt at (entry_at + 64) && nat_lt entry_at (at + count) then Some 51 else None))

abbrev pub turn_or : Turn → Option ℕ → Result Turn ℕ
turn_or turn None = Ok turn
turn_or turn (Some why) = Err why

abbrev pub turn_beside : Result Turn ℕ → ℕ → ℕ → Result Turn ℕ
turn_beside (Err why) at count = Err why
turn_beside (Ok turn) at count = turn_or turn (data_fault turn.entry_at at count)

-- the turn for a command with data of this length at this address
abbrev pub place_of : Controller → ℕ → ℕ → ℕ → Result Turn ℕ
place_of c qid at count = turn_beside (turn_of c qid) at count

-- a completion is posted at the tail of the completion queue
abbrev pub reply_with : SubmissionQueue → CompletionQueue → Reply
reply_with s x = record {
  cqid = s.cqid;
  completion_at = completion_slot x;
  head = next_slot x.tail.size (tail_of x);
}

abbrev pub reply_from : SubmissionQueue → Option CompletionQueue → Option Reply
reply_from s None = None
reply_from s (Some x) = Some (reply_with s x)

abbrev pub reply_to : Controller → Option SubmissionQueue → Option Reply
reply_to c None = None
reply_to c (Some s) = reply_from s (completion_at c s.cqid)

abbrev pub reply_for : Controller → Option FetchedCommand → Option Reply
reply_for c None = None
reply_for c (Some t) = reply_to c (submission_at c t.queue)

-- the place of the completion of the i-th fetched command
abbrev pub reply_of : Controller → ℕ → Option Reply
reply_of c i = reply_for c (slice_get c.fetched i)

-- the doorbells of a submission queue's tail and of a completion queue's head
abbrev pub tail_doorbell : ℕ → ℕ
tail_doorbell qid = 0x1000 + 8 * qid

abbrev pub head_doorbell : ℕ → ℕ
head_doorbell cqid = 0x1004 + 8 * cqid
