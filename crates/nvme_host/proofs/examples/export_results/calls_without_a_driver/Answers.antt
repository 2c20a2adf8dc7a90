use Rattle.nvme_host.proofs.ExportResults.{no_place, no_poll, no_poll_code, no_question, no_send}
use Rattle.nvme_host.proofs.examples.export_results.calls_without_a_driver.Goals as goal

pub returns-clause-poll : goal.returns-clause-poll
returns-clause-poll c = no_poll

pub returns-clause-poll_code : goal.returns-clause-poll_code
returns-clause-poll_code c = no_poll_code

pub returns-clause-place : goal.returns-clause-place
returns-clause-place c = no_place

pub returns-clause-send : goal.returns-clause-send
returns-clause-send c = no_send

pub returns-clause-ask : goal.returns-clause-ask
returns-clause-ask c = no_question
