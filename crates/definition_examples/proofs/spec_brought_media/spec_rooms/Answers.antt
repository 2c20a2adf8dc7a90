use Rattle.definition_examples.proofs.SpecBrought.{rooms_at_hand, rooms_content}
use Rattle.definition_examples.proofs.spec_brought_media.spec_rooms.Goals as goal

pub returns-clause-at_hand : goal.returns-clause-at_hand
returns-clause-at_hand c = rooms_at_hand

pub returns-clause-content : goal.returns-clause-content
returns-clause-content c = rooms_content
