use Rattle.nvme_library.proofs.LentLaws.{
  executions_stay_in_place,
  turns_stay_in_place,
  executions_reach_the_bytes,
  bytes_stay_the_content,
}
use Rattle.nvme_library.proofs.laws.commands_reach_lent_bytes.Goals as goal

pub returns-clause-executions : goal.returns-clause-executions
returns-clause-executions c = executions_stay_in_place

pub returns-clause-turns : goal.returns-clause-turns
returns-clause-turns c = turns_stay_in_place

pub returns-clause-bytes : goal.returns-clause-bytes
returns-clause-bytes c = executions_reach_the_bytes

pub returns-clause-content : goal.returns-clause-content
returns-clause-content c = bytes_stay_the_content
