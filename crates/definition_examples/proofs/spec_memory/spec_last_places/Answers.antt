use Rattle.definition_examples.proofs.SpecMemory.{after_all, first_of_two, last_of_two, other_address}
use Rattle.definition_examples.proofs.spec_memory.spec_last_places.Goals as goal

pub returns-clause-last : goal.returns-clause-last
returns-clause-last c = last_of_two

pub returns-clause-first : goal.returns-clause-first
returns-clause-first c = first_of_two

pub returns-clause-other : goal.returns-clause-other
returns-clause-other c = other_address

pub returns-clause-beyond : goal.returns-clause-beyond
returns-clause-beyond c = after_all
