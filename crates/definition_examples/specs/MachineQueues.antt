-- A submission queue of a controller, for worked examples.
use Rattle.nvme_spec.specs.Queues.{empty_submission_head}
use Rattle.nvme_machine.specs.Controllers.{SubmissionQueue}

-- eight entries from the second page, with no command yet
abbrev pub machine_queue : SubmissionQueue
machine_queue = record { base = 4096; cqid = 3; head = empty_submission_head 8 }
