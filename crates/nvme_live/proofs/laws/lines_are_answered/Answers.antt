use Rattle.nvme_live.proofs.InBytes.{answered_lines_are_a_session}
use Rattle.nvme_live.proofs.SessionLaws.{
  lines_before_start_are_answered,
  lines_of_a_run_are_answered,
  start_is_answered,
}
use Rattle.nvme_live.proofs.laws.lines_are_answered.Goals as goal

pub returns-clause-before : goal.returns-clause-before
returns-clause-before c = lines_before_start_are_answered

pub returns-clause-start : goal.returns-clause-start
returns-clause-start c = start_is_answered

pub returns-clause-behind : goal.returns-clause-behind
returns-clause-behind c = lines_of_a_run_are_answered

pub returns-clause-session : goal.returns-clause-session
returns-clause-session c = answered_lines_are_a_session
