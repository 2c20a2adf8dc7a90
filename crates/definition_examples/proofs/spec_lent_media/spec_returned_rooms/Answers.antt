use Rattle.definition_examples.proofs.SpecLent.{
  returned_rooms_blocks,
  returned_rooms_content,
  returned_rooms_enough,
  returned_rooms_failures,
  returned_rooms_nothing,
  returned_rooms_room,
}
use Rattle.definition_examples.proofs.spec_lent_media.spec_returned_rooms.Goals as goal

pub returns-clause-room : goal.returns-clause-room
returns-clause-room c = returned_rooms_room

pub returns-clause-nothing : goal.returns-clause-nothing
returns-clause-nothing c = returned_rooms_nothing

pub returns-clause-content : goal.returns-clause-content
returns-clause-content c = returned_rooms_content

pub returns-clause-blocks : goal.returns-clause-blocks
returns-clause-blocks c = returned_rooms_blocks

pub returns-clause-failures : goal.returns-clause-failures
returns-clause-failures c = returned_rooms_failures

pub returns-clause-enough : goal.returns-clause-enough
returns-clause-enough c = returned_rooms_enough
