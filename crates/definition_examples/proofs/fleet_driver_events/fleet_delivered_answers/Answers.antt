use Rattle.definition_examples.proofs.FleetDriverEvents.{
  fleet_delivered_answers_done,
  fleet_delivered_answers_aborted,
  fleet_delivered_answers_none,
  fleet_delivered_answers_failed,
}
use Rattle.definition_examples.proofs.fleet_driver_events.fleet_delivered_answers.Goals as goal

pub returns-clause-done : goal.returns-clause-done
returns-clause-done c = fleet_delivered_answers_done

pub returns-clause-aborted : goal.returns-clause-aborted
returns-clause-aborted c = fleet_delivered_answers_aborted

pub returns-clause-none : goal.returns-clause-none
returns-clause-none c = fleet_delivered_answers_none

pub returns-clause-failed : goal.returns-clause-failed
returns-clause-failed c = fleet_delivered_answers_failed
