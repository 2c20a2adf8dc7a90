use Rattle.definition_examples.proofs.DriverPlacings.{command_ends, completion_ends, completion_starts}
use Rattle.definition_examples.proofs.driver_placings.driver_entries_in_pages.Goals as goal

pub returns-clause-command_end : goal.returns-clause-command_end
returns-clause-command_end c = command_ends

pub returns-clause-completion_start : goal.returns-clause-completion_start
returns-clause-completion_start c = completion_starts

pub returns-clause-completion_end : goal.returns-clause-completion_end
returns-clause-completion_end c = completion_ends
