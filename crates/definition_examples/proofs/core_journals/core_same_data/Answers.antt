use Rattle.definition_examples.proofs.CoreJournals.{
  core_same_data_admin,
  core_same_data_admin_enough,
  core_same_data_io,
}
use Rattle.definition_examples.proofs.core_journals.core_same_data.Goals as goal

pub returns-clause-admin : goal.returns-clause-admin
returns-clause-admin c = core_same_data_admin

pub returns-clause-admin_enough : goal.returns-clause-admin_enough
returns-clause-admin_enough c = core_same_data_admin_enough

pub returns-clause-io : goal.returns-clause-io
returns-clause-io c = core_same_data_io
