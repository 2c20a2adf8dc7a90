use Rattle.definition_examples.proofs.CoreJournals.{
  core_matching_records_commands,
  core_matching_records_controller,
  core_matching_records_all,
  core_matching_records_first,
  core_matching_records_second,
}
use Rattle.definition_examples.proofs.core_journals.core_matching_records.Goals as goal

pub returns-clause-commands : goal.returns-clause-commands
returns-clause-commands c = core_matching_records_commands

pub returns-clause-controller : goal.returns-clause-controller
returns-clause-controller c = core_matching_records_controller

pub returns-clause-all : goal.returns-clause-all
returns-clause-all c = core_matching_records_all

pub returns-clause-first : goal.returns-clause-first
returns-clause-first c = core_matching_records_first

pub returns-clause-second : goal.returns-clause-second
returns-clause-second c = core_matching_records_second
