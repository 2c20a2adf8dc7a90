use Rattle.definition_examples.proofs.CoreReservations.{core_allowed_actions_removed, core_allowed_actions_next}
use Rattle.definition_examples.proofs.core_reservations.core_allowed_actions.Goals as goal

pub returns-clause-removed : goal.returns-clause-removed
returns-clause-removed c = core_allowed_actions_removed

pub returns-clause-next : goal.returns-clause-next
returns-clause-next c = core_allowed_actions_next
