use Rattle.definition_examples.proofs.SpecLent.{
  empty_rooms_lent,
  empty_rooms_lent_after,
  empty_rooms_lent_empty,
  empty_rooms_lent_stays,
  empty_rooms_own,
  empty_rooms_own_after,
  empty_rooms_own_empty,
  empty_rooms_own_stays,
}
use Rattle.definition_examples.proofs.spec_lent_media.spec_empty_rooms.Goals as goal

pub returns-clause-own_after : goal.returns-clause-own_after
returns-clause-own_after c = empty_rooms_own_after

pub returns-clause-lent_after : goal.returns-clause-lent_after
returns-clause-lent_after c = empty_rooms_lent_after

pub returns-clause-own : goal.returns-clause-own
returns-clause-own c = empty_rooms_own

pub returns-clause-own_stays : goal.returns-clause-own_stays
returns-clause-own_stays c = empty_rooms_own_stays

pub returns-clause-own_empty : goal.returns-clause-own_empty
returns-clause-own_empty c = empty_rooms_own_empty

pub returns-clause-lent : goal.returns-clause-lent
returns-clause-lent c = empty_rooms_lent

pub returns-clause-lent_stays : goal.returns-clause-lent_stays
returns-clause-lent_stays c = empty_rooms_lent_stays

pub returns-clause-lent_empty : goal.returns-clause-lent_empty
returns-clause-lent_empty c = empty_rooms_lent_empty
