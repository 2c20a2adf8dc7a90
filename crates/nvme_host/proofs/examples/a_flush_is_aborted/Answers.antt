use Rattle.nvme_host.proofs.LawsAtWork.{the_flush_is_aborted}
use Rattle.nvme_host.proofs.examples.a_flush_is_aborted.Goals as goal

pub returns : goal.returns
returns c = the_flush_is_aborted
