-- Statements of `laws/queues.rt` on the definitions of queues (Base Specification: Phase Tag, Empty Queue, Full Queue).
use Rattle.std.specs.Prelude.{◌≡◌, ◌≢◌, ◌↔◌, ℕ, ◌+◌, ◌-◌, ◌*◌, ◌%◌, ◌<◌, ◌≤◌, not}
use Rattle.nvme_spec.specs.Queues.{
  slot_of,
  phase_tag,
  SubmissionHead,
  FitsSubmissionHead,
  after_tail_doorbell,
  after_fetch,
  CompletionTail,
  FitsCompletionTail,
  after_head_doorbell,
  completion_room,
  after_post,
  SubmissionTail,
  FitsSubmissionTail,
  submission_room,
  after_put,
  after_head,
  CompletionHead,
  FitsCompletionHead,
  after_consumption,
}

-- one round of the ring later a completion is in the same slot, with the other phase tag
abbrev pub NextTurn : Type 0
NextTurn =
    (size n : ℕ) → 0 < size
    → (slot_of size (n + size) ≡ slot_of size n) × (phase_tag size (n + size) ≡ not (phase_tag size n))

-- counting modulo twice the size is enough
abbrev pub TwoTurns : Type 0
TwoTurns =
    (size n : ℕ) → 0 < size
    → (slot_of size (n % (2 * size)) ≡ slot_of size n) × (phase_tag size (n % (2 * size)) ≡ phase_tag size n)

-- an entry is inside its queue, for any width of entries
abbrev pub EntryIsInside : Type 0
EntryIsInside = (base width size n : ℕ) → 0 < size → base + width * slot_of size n + width ≤ base + width * size

-- a queue is full if all its entries except one are used, and has room until then
abbrev pub CompletionRoom : Type 0
CompletionRoom = (q : CompletionTail) → FitsCompletionTail q → (0 < completion_room q) ↔ (q.unread ≢ q.size - 1)

abbrev pub SubmissionRoom : Type 0
SubmissionRoom = (q : SubmissionTail) → FitsSubmissionTail q → (0 < submission_room q) ↔ (q.unheard ≢ q.size - 1)

-- a tail doorbell equal to the head leaves no command waiting
abbrev pub TailAtHead : Type 0
TailAtHead = (q : SubmissionHead) → FitsSubmissionHead q → (after_tail_doorbell q q.fetched).waiting ≡ 0

-- a head doorbell equal to the tail leaves no completion unread
abbrev pub HeadAtTail : Type 0
HeadAtTail = (q : CompletionTail) → FitsCompletionTail q → (after_head_doorbell q (slot_of q.size q.posted)).unread ≡ 0

-- a head equal to the tail means that all commands were fetched
abbrev pub AllFetched : Type 0
AllFetched = (q : SubmissionTail) → FitsSubmissionTail q → (after_head q q.put).unheard ≡ 0

-- every operation on an end of a queue keeps its counts within their bounds
abbrev pub SubmissionHeadStays : Type 0
SubmissionHeadStays =
    ((q : SubmissionHead) → (tail : ℕ) → FitsSubmissionHead q → FitsSubmissionHead (after_tail_doorbell q tail))
    × ((q : SubmissionHead) → FitsSubmissionHead q → FitsSubmissionHead (after_fetch q))

abbrev pub CompletionTailStays : Type 0
CompletionTailStays =
    ((q : CompletionTail) → (head : ℕ) → FitsCompletionTail q → FitsCompletionTail (after_head_doorbell q head))
    × ((q : CompletionTail) → FitsCompletionTail q → 0 < completion_room q → FitsCompletionTail (after_post q))

abbrev pub SubmissionTailStays : Type 0
SubmissionTailStays =
    ((q : SubmissionTail) → (head : ℕ) → FitsSubmissionTail q → FitsSubmissionTail (after_head q head))
    × ((q : SubmissionTail) → FitsSubmissionTail q → 0 < submission_room q → FitsSubmissionTail (after_put q))

abbrev pub CompletionHeadStays : Type 0
CompletionHeadStays = (q : CompletionHead) → FitsCompletionHead q → FitsCompletionHead (after_consumption q)
