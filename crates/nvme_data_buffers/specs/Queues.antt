-- The pages of queues in the memory that a host shares with its controller: the pairs of queues are adjacent from page
-- 1 on.
use Rattle.std.specs.Prelude.{ℕ, ◌+◌, ◌*◌, min}
use Rattle.nvme_spec.specs.Limits.{memory_page, highest_queue}

-- the pair of an identifier: those that no queue can have share one
abbrev pub pair_of : ℕ → ℕ
pair_of qid = min qid (highest_queue + 1)

abbrev pub submission_queue : ℕ → ℕ
submission_queue qid = memory_page * (2 * pair_of qid + 1)

abbrev pub completion_queue : ℕ → ℕ
completion_queue qid = memory_page * (2 * pair_of qid + 2)
