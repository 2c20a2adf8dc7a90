use Rattle.definition_examples.proofs.DriverLooks.{
  loaded_is_sooner,
  old_is_later,
  old_is_old,
  old_is_sooner,
  seen_is_read,
}
use Rattle.definition_examples.proofs.driver_looks.driver_reads_of_memory.Goals as goal

pub returns-clause-old_later : goal.returns-clause-old_later
returns-clause-old_later c = old_is_later

pub returns-clause-old_sooner : goal.returns-clause-old_sooner
returns-clause-old_sooner c = old_is_sooner

pub returns-clause-old : goal.returns-clause-old
returns-clause-old c = old_is_old

pub returns-clause-loaded : goal.returns-clause-loaded
returns-clause-loaded c = loaded_is_sooner

pub returns-clause-seen : goal.returns-clause-seen
returns-clause-seen c = seen_is_read
