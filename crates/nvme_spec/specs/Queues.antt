-- The four ends of queues: a submission and a completion queue, each as its controller and as its host see it (Base
-- Specification: Submission Queue and Completion Queue, Queue Size, Full Queue, Empty Queue, Phase Tag). Entries are
-- counted modulo the size of the queue, or twice the size if the phase tag is needed.
use Rattle.std.specs.Prelude.{ℕ, ◌+◌, ◌-◌, ◌*◌, ◌/◌, ◌%◌, ◌<◌, ◌≤◌, ◌==◌, nat_lt, nat_le, Bool, ◌&&◌, if◌then◌else◌}

-- how far one count of a ring of this size is ahead of another
abbrev pub ahead : ℕ → ℕ → ℕ → ℕ
ahead size count other = (size + count - other) % size

-- the slot of the n-th entry, from 0
abbrev pub slot_of : ℕ → ℕ → ℕ
slot_of size n = n % size

-- the phase tag of the n-th completion: set on the first round of the ring, and inverted on each later one
abbrev pub phase_tag : ℕ → ℕ → Bool
phase_tag size n = n / size % 2 == 0

-- the addresses of the n-th command and of the n-th completion of a queue, by the address of the queue
abbrev pub submission_place : ℕ → ℕ → ℕ → ℕ
submission_place base size n = base + 64 * slot_of size n

abbrev pub completion_place : ℕ → ℕ → ℕ → ℕ
completion_place base size n = base + 16 * slot_of size n

-- a queue has 2 to 64 entries
abbrev pub IsQueueSize : ℕ → Type 0
IsQueueSize size = (2 ≤ size) × (size ≤ 64)

-- A submission queue at its controller: the numbers of commands that it has fetched, and that wait.
pub record SubmissionHead : Type 0 where
  pub size : ℕ
  pub fetched : ℕ
  pub waiting : ℕ

pub record FitsSubmissionHead (q : SubmissionHead) : Type 0 where
  pub size : IsQueueSize q.size
  pub fetched : q.fetched < q.size
  pub waiting : q.waiting < q.size

abbrev pub empty_submission_head : ℕ → SubmissionHead
empty_submission_head entries = record { size = entries; fetched = 0; waiting = 0 }

-- the tail doorbell is written: the commands before the tail wait. A tail that is not a slot is ignored
abbrev pub after_tail_doorbell : SubmissionHead → ℕ → SubmissionHead
after_tail_doorbell q tail = if nat_lt tail q.size then record q { waiting = ahead q.size tail q.fetched } else q

-- a command is fetched
abbrev pub after_fetch : SubmissionHead → SubmissionHead
after_fetch q = record q { fetched = (q.fetched + 1) % q.size; waiting = q.waiting - 1 }

-- A completion queue at its controller: the numbers of completions that it has posted, and that the host has not
-- consumed.
pub record CompletionTail : Type 0 where
  pub size : ℕ
  pub posted : ℕ
  pub unread : ℕ

pub record FitsCompletionTail (q : CompletionTail) : Type 0 where
  pub size : IsQueueSize q.size
  pub posted : q.posted < 2 * q.size
  pub unread : q.unread < q.size

abbrev pub empty_completion_tail : ℕ → CompletionTail
empty_completion_tail entries = record { size = entries; posted = 0; unread = 0 }

-- the head doorbell is written: the completions from the head are unread. A head that is not a slot is ignored
abbrev pub after_head_doorbell : CompletionTail → ℕ → CompletionTail
after_head_doorbell q head =
    if nat_lt head q.size then record q { unread = ahead q.size (slot_of q.size q.posted) head } else q

-- the number of completions that can be posted: one entry of a queue stays free
abbrev pub completion_room : CompletionTail → ℕ
completion_room q = q.size - 1 - q.unread

-- a completion is posted
abbrev pub after_post : CompletionTail → CompletionTail
after_post q = record q { posted = (q.posted + 1) % (2 * q.size); unread = q.unread + 1 }

-- A submission queue at its host: the numbers of commands that it has put there, and of those that may not be fetched
-- yet, by the heads of completions.
pub record SubmissionTail : Type 0 where
  pub size : ℕ
  pub put : ℕ
  pub unheard : ℕ

pub record FitsSubmissionTail (q : SubmissionTail) : Type 0 where
  pub size : IsQueueSize q.size
  pub put : q.put < q.size
  pub unheard : q.unheard < q.size

abbrev pub empty_submission_tail : ℕ → SubmissionTail
empty_submission_tail entries = record { size = entries; put = 0; unheard = 0 }

-- the number of commands that can be put
abbrev pub submission_room : SubmissionTail → ℕ
submission_room q = q.size - 1 - q.unheard

-- a command is put into the queue
abbrev pub after_put : SubmissionTail → SubmissionTail
after_put q = record q { put = (q.put + 1) % q.size; unheard = q.unheard + 1 }

-- a head in a completion can be the controller's: it is between the last accepted one and the tail
abbrev pub can_be_heard : SubmissionTail → ℕ → Bool
can_be_heard q head = nat_lt head q.size && nat_le (ahead q.size q.put head) q.unheard

-- a head is accepted: the commands before it were fetched. Any other head is ignored
abbrev pub after_head : SubmissionTail → ℕ → SubmissionTail
after_head q head = if can_be_heard q head then record q { unheard = ahead q.size q.put head } else q

-- A completion queue at its host: the number of completions that it has consumed.
pub record CompletionHead : Type 0 where
  pub size : ℕ
  pub consumed : ℕ

pub record FitsCompletionHead (q : CompletionHead) : Type 0 where
  pub size : IsQueueSize q.size
  pub consumed : q.consumed < 2 * q.size

abbrev pub empty_completion_head : ℕ → CompletionHead
empty_completion_head entries = record { size = entries; consumed = 0 }

-- a completion is consumed
abbrev pub after_consumption : CompletionHead → CompletionHead
after_consumption q = record q { consumed = (q.consumed + 1) % (2 * q.size) }
