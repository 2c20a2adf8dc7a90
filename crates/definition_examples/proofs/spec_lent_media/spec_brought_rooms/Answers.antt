use Rattle.definition_examples.proofs.SpecLent.{
  brought_rooms_blocks,
  brought_rooms_content,
  brought_rooms_earlier,
  brought_rooms_enough,
  brought_rooms_failures,
  brought_rooms_room,
}
use Rattle.definition_examples.proofs.spec_lent_media.spec_brought_rooms.Goals as goal

pub returns-clause-room : goal.returns-clause-room
returns-clause-room c = brought_rooms_room

pub returns-clause-earlier : goal.returns-clause-earlier
returns-clause-earlier c = brought_rooms_earlier

pub returns-clause-content : goal.returns-clause-content
returns-clause-content c = brought_rooms_content

pub returns-clause-blocks : goal.returns-clause-blocks
returns-clause-blocks c = brought_rooms_blocks

pub returns-clause-failures : goal.returns-clause-failures
returns-clause-failures c = brought_rooms_failures

pub returns-clause-enough : goal.returns-clause-enough
returns-clause-enough c = brought_rooms_enough
