use Rattle.definition_examples.proofs.CoreReservations.{core_denied_actions_status, core_denied_actions_unchanged}
use Rattle.definition_examples.proofs.core_reservations.core_denied_actions.Goals as goal

pub returns-clause-status : goal.returns-clause-status
returns-clause-status c = core_denied_actions_status

pub returns-clause-unchanged : goal.returns-clause-unchanged
returns-clause-unchanged c = core_denied_actions_unchanged
