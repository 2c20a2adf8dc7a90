use Rattle.definition_examples.proofs.CoreLanes.{core_sound_lanes_queues, core_sound_lanes_tickets}
use Rattle.definition_examples.proofs.core_lanes.core_sound_lanes.Goals as goal

pub returns-clause-queues : goal.returns-clause-queues
returns-clause-queues c = core_sound_lanes_queues

pub returns-clause-tickets : goal.returns-clause-tickets
returns-clause-tickets c = core_sound_lanes_tickets
