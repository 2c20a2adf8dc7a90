-- The answer of a controller's executed command, for the contract of `perform`.
use Rattle.nvme_spec.specs.declared.queues.QueueChange.{QueueChange}
use Rattle.nvme_spec.specs.declared.queues.QueueChange.TheVariants.{Keep, MakeCq, MakeSq, DropCq, DropSq}
use Rattle.nvme_spec.specs.RegisterLaws.{IsQueuePlace}
use Rattle.nvme_spec.specs.declared.outcome.Marks.{Marks}
use Rattle.nvme_spec.specs.Execution.{Scene}
use Rattle.nvme_machine.specs.CommandExecutions.{CommandExecution}
use Rattle.nvme_ctrl.specs.declared.execution.Performed.{Performed}

-- a new queue is in host memory
abbrev pub LiesInMemory : QueueChange → Type 0
LiesInMemory Keep = Unit {0}
LiesInMemory (MakeCq qid size base) = IsQueuePlace base size 16
LiesInMemory (MakeSq qid size base cqid) = IsQueuePlace base size 64
LiesInMemory (DropCq qid) = Unit {0}
LiesInMemory (DropSq qid) = Unit {0}

-- the outcome, the marks, and the state that is left
abbrev pub execution_of : Performed → Marks → Scene → CommandExecution
execution_of a removed left = record {
  outcome = record { status = a.status; dw0 = a.dw0; rule = a.rule; marks = removed };
  change = a.change;
  left = left;
}
