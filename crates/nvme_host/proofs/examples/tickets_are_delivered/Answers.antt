use Rattle.nvme_host.proofs.RunExamples.{
  reset_aborts_a_flush,
  without_a_reset_it_is_done,
  without_idleness_none_gave_it,
  a_flush_expires,
}
use Rattle.nvme_host.proofs.examples.tickets_are_delivered.Goals as goal

pub returns-clause-premises : goal.returns-clause-premises
returns-clause-premises c = reset_aborts_a_flush

pub returns-clause-reset : goal.returns-clause-reset
returns-clause-reset c = without_a_reset_it_is_done

pub returns-clause-idle : goal.returns-clause-idle
returns-clause-idle c = without_idleness_none_gave_it

pub returns-clause-expiry : goal.returns-clause-expiry
returns-clause-expiry c = a_flush_expires
