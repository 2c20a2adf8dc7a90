-- The changes of queues that the rules allow to an admin command (Base Specification: Create and Delete I/O Completion
-- Queue, Create and Delete I/O Submission Queue).
use Rattle.std.specs.Prelude.{◌≡◌, ◌≤◌, ℕ, true, false, List}
use Rattle.nvme_spec.specs.declared.queues.Queues.{Queues}
use Rattle.nvme_spec.specs.declared.queues.QueueChange.{QueueChange}
use Rattle.nvme_spec.specs.declared.queues.QueueChange.TheVariants.{Keep, MakeCq, MakeSq, DropCq, DropSq}
use Rattle.nvme_spec.specs.ExistingQueues.{has_completion_queue, has_submission_queue, is_used}
use Rattle.nvme_spec.specs.RegisterLaws.{IsQueuePlace}
use Rattle.nvme_spec.specs.World.{World}
use Rattle.nvme_spec.specs.AdminEffects.{admin_execution}

-- the identifier of an I/O queue
abbrev pub IsIoQueue : ℕ → Type 0
IsIoQueue qid = (1 ≤ qid) × (qid ≤ 4)

-- A new queue is in host memory and has an unused identifier, and the completion queue of a new submission queue
-- exists. A deleted queue exists, and no submission queue uses a deleted completion queue.
abbrev pub Suits : Queues → QueueChange → Type 0
Suits queues Keep = Unit {0}
Suits queues (MakeCq qid size base) = IsIoQueue qid × IsQueuePlace base size 16
    × (has_completion_queue queues qid ≡ false)
Suits queues (MakeSq qid size base cqid) =
    IsIoQueue qid × IsQueuePlace base size 64 × (has_completion_queue queues cqid ≡ true)
    × (has_submission_queue queues qid ≡ false)
Suits queues (DropCq qid) = (1 ≤ qid) × (has_completion_queue queues qid ≡ true) × (is_used queues qid ≡ false)
Suits queues (DropSq qid) = (1 ≤ qid) × (has_submission_queue queues qid ≡ true)

abbrev pub AdminChangesSuit : Type 0
AdminChangesSuit =
    (w : World) → (queues : Queues) → (cntlid : ℕ) → (e window : List ℕ)
    → Suits queues (admin_execution w queues cntlid e window).change
