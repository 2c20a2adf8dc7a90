-- For example runs of fleets: the definitions with which they are computed, besides those of a subsystem.
use Rattle.nvme_wire.specs.Submission.{submission_entry}
use Rattle.nvme_spec.specs.IoRules.{verdict}
use Rattle.nvme_mailbox.specs.Executions.{
  RequestComesTo,
  admin_judgement,
  admin_request_execution,
  command_entry,
  io_judgement,
}
use Rattle.nvme_mailbox.specs.FaultFree.{request_execution}
use Rattle.nvme_mailbox.specs.Fleets.{after_answer, host_at, opening, power_cycled, settled, with_host}
use Rattle.nvme_mailbox.specs.IoCommands.{command_at}
use Rattle.nvme_mailbox.specs.Mailboxes.{open_tickets}
use Rattle.nvme_mailbox.specs.Tickets.{posted_answers, waiting}
use Rattle.nvme_theorem_runs.specs.Fleets.{duo}

unfoldable pub fleet_computing : Unit {0}
unfolding submission_entry verdict RequestComesTo admin_judgement admin_request_execution command_entry io_judgement
    request_execution after_answer host_at opening power_cycled settled with_host command_at open_tickets posted_answers
    waiting duo
fleet_computing = tt
