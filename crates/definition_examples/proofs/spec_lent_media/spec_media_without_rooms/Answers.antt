use Rattle.definition_examples.proofs.SpecLent.{
  media_without_rooms_lent,
  media_without_rooms_lent_after,
  media_without_rooms_own,
  media_without_rooms_own_after,
}
use Rattle.definition_examples.proofs.spec_lent_media.spec_media_without_rooms.Goals as goal

pub returns-clause-own_after : goal.returns-clause-own_after
returns-clause-own_after c = media_without_rooms_own_after

pub returns-clause-lent_after : goal.returns-clause-lent_after
returns-clause-lent_after c = media_without_rooms_lent_after

pub returns-clause-own : goal.returns-clause-own
returns-clause-own c = media_without_rooms_own

pub returns-clause-lent : goal.returns-clause-lent
returns-clause-lent c = media_without_rooms_lent
