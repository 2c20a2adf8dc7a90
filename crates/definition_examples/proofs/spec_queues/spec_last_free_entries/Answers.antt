use Rattle.definition_examples.proofs.SpecQueues.{one_more_command, one_more_completion}
use Rattle.definition_examples.proofs.spec_queues.spec_last_free_entries.Goals as goal

pub returns-clause-completion : goal.returns-clause-completion
returns-clause-completion c = one_more_completion

pub returns-clause-submission : goal.returns-clause-submission
returns-clause-submission c = one_more_command
