use Rattle.definition_examples.proofs.DriverPlacings.{
  no_call_made,
  no_call_not_made,
  one_call_is_less,
  two_calls_are_more,
  two_calls_made,
}
use Rattle.definition_examples.proofs.driver_placings.driver_made_calls.Goals as goal

pub returns-clause-none : goal.returns-clause-none
returns-clause-none c = no_call_made

pub returns-clause-not_one : goal.returns-clause-not_one
returns-clause-not_one c = no_call_not_made

pub returns-clause-two : goal.returns-clause-two
returns-clause-two c = two_calls_made

pub returns-clause-not_less : goal.returns-clause-not_less
returns-clause-not_less c = one_call_is_less

pub returns-clause-not_more : goal.returns-clause-not_more
returns-clause-not_more c = two_calls_are_more
