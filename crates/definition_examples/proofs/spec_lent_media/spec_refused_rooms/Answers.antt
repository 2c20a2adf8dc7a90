use Rattle.definition_examples.proofs.SpecLent.{
  refused_rooms_last,
  refused_rooms_lent,
  refused_rooms_lent_outside,
  refused_rooms_not_in_memory,
  refused_rooms_over,
  refused_rooms_own,
  refused_rooms_own_outside,
}
use Rattle.definition_examples.proofs.spec_lent_media.spec_refused_rooms.Goals as goal

pub returns-clause-own : goal.returns-clause-own
returns-clause-own c = refused_rooms_own

pub returns-clause-own_outside : goal.returns-clause-own_outside
returns-clause-own_outside c = refused_rooms_own_outside

pub returns-clause-lent : goal.returns-clause-lent
returns-clause-lent c = refused_rooms_lent

pub returns-clause-lent_outside : goal.returns-clause-lent_outside
returns-clause-lent_outside c = refused_rooms_lent_outside

pub returns-clause-over : goal.returns-clause-over
returns-clause-over c = refused_rooms_over

pub returns-clause-last : goal.returns-clause-last
returns-clause-last c = refused_rooms_last

pub returns-clause-not_in_memory : goal.returns-clause-not_in_memory
returns-clause-not_in_memory c = refused_rooms_not_in_memory
