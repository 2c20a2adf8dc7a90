-- For `spec_queues.rt`: instances of the laws on queues.
use Rattle.std.proofs.Common.{◌≡◌, arith}
use Rattle.nvme_spec.specs.Queues.{
  CompletionTail,
  FitsCompletionTail,
  FitsSubmissionTail,
  SubmissionTail,
  after_post,
  after_put,
  completion_room,
  submission_room,
}
use Rattle.nvme_spec.specs.QueueLaws.{CompletionTailStays, SubmissionTailStays}

pub one_more_completion : CompletionTailStays → (q : CompletionTail) → FitsCompletionTail q → completion_room q ≡ 1
    → FitsCompletionTail (after_post q)
one_more_completion law q fits one = law.1 q fits (omega arith)

pub one_more_command : SubmissionTailStays → (q : SubmissionTail) → FitsSubmissionTail q → submission_room q ≡ 1
    → FitsSubmissionTail (after_put q)
one_more_command law q fits one = law.1 q fits (omega arith)
