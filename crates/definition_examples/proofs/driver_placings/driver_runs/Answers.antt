use Rattle.definition_examples.proofs.DriverPlacings.{no_call_runs, no_tickets_run, reset_runs}
use Rattle.definition_examples.proofs.driver_placings.driver_runs.Goals as goal

pub returns-clause-no_tickets : goal.returns-clause-no_tickets
returns-clause-no_tickets c = no_tickets_run

pub returns-clause-no_call : goal.returns-clause-no_call
returns-clause-no_call c = no_call_runs

pub returns-clause-reset : goal.returns-clause-reset
returns-clause-reset c = reset_runs
