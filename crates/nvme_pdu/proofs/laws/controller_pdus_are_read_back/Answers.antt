use Rattle.nvme_pdu.proofs.ControllerPdus.{
  responses_are_read,
  readies_are_read,
  data_are_read,
  ends_are_read,
  grants_are_read,
}
use Rattle.nvme_pdu.proofs.laws.controller_pdus_are_read_back.Goals as goal

pub returns-clause-responses : goal.returns-clause-responses
returns-clause-responses c = responses_are_read

pub returns-clause-readies : goal.returns-clause-readies
returns-clause-readies c = readies_are_read

pub returns-clause-controller_data : goal.returns-clause-controller_data
returns-clause-controller_data c = data_are_read

pub returns-clause-terminations : goal.returns-clause-terminations
returns-clause-terminations c = ends_are_read

pub returns-clause-grants : goal.returns-clause-grants
returns-clause-grants c = grants_are_read
