use Rattle.definition_examples.proofs.DriverPolls.{
  nothing_is_aborted,
  one_is_aborted,
  second_is_oldest,
  waiting_is_not,
  younger_is_not,
}
use Rattle.definition_examples.proofs.driver_polls.driver_oldest_requests.Goals as goal

pub returns-clause-oldest : goal.returns-clause-oldest
returns-clause-oldest c = second_is_oldest

pub returns-clause-younger : goal.returns-clause-younger
returns-clause-younger c = younger_is_not

pub returns-clause-waiting : goal.returns-clause-waiting
returns-clause-waiting c = waiting_is_not

pub returns-clause-none_aborted : goal.returns-clause-none_aborted
returns-clause-none_aborted c = nothing_is_aborted

pub returns-clause-one_aborted : goal.returns-clause-one_aborted
returns-clause-one_aborted c = one_is_aborted
