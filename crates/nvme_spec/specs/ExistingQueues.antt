-- The queues of a controller (Base Specification: Create and Delete I/O Completion Queue, Create and Delete I/O
-- Submission Queue). Queues 0 are the admin queues; I/O queues have the identifiers 1 to 4.
use Rattle.std.specs.Prelude.{
  ℕ,
  Bool,
  true,
  false,
  ◌||◌,
  ◌==◌,
  List,
  [],
  ◌∷◌,
  Option,
  None,
  Some,
  is_some,
  slice_index_or,
  slice_set,
}
use Rattle.std.specs.List.{list_any}
use Rattle.nvme_spec.specs.declared.queues.Queues.{Queues}
use Rattle.nvme_spec.specs.declared.queues.QueueChange.{QueueChange}
use Rattle.nvme_spec.specs.declared.queues.QueueChange.TheVariants.{Keep, MakeCq, MakeSq, DropCq, DropSq}

abbrev pub has_completion_queue : Queues → ℕ → Bool
has_completion_queue queues qid = slice_index_or queues.cq qid false

abbrev pub has_submission_queue : Queues → ℕ → Bool
has_submission_queue queues qid = is_some (slice_index_or queues.sq qid None)

-- a submission queue exists, and its completions go to this queue
abbrev pub completes_to : ℕ → Option ℕ → Bool
completes_to qid None = false
completes_to qid (Some cqid) = cqid == qid

-- some submission queue's completions go to this queue
abbrev pub is_used : Queues → ℕ → Bool
is_used queues qid = list_any (completes_to qid) queues.sq

-- some I/O queue exists
abbrev pub io_queues : List ℕ
io_queues = 1 ∷ 2 ∷ 3 ∷ 4 ∷ []

abbrev pub has_io_queue : Queues → Bool
has_io_queue queues = list_any (λ qid. has_completion_queue queues qid || has_submission_queue queues qid) io_queues

-- only the admin queues
abbrev pub only_admin_queues : Queues
only_admin_queues = record {
  cq = true ∷ false ∷ false ∷ false ∷ false ∷ [];
  sq = Some 0 ∷ None ∷ None ∷ None ∷ None ∷ [];
}

-- the queues after a change
abbrev pub after_change : Queues → QueueChange → Queues
after_change queues Keep = queues
after_change queues (MakeCq qid size base) = record queues { cq = slice_set queues.cq qid true }
after_change queues (MakeSq qid size base cqid) = record queues { sq = slice_set queues.sq qid (Some cqid) }
after_change queues (DropCq qid) = record queues { cq = slice_set queues.cq qid false }
after_change queues (DropSq qid) = record queues { sq = slice_set queues.sq qid None }
