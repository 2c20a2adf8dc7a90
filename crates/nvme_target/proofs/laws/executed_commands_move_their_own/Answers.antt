use Rattle.nvme_target.proofs.OwnData.{
  admitted-data-fit,
  buffers-hold-what-was-returned,
  executed-admin-commands-move-their-own,
  executed-commands-move-their-own,
  fetched-commands-are-placed,
  stores-give-data,
}
use Rattle.nvme_target.proofs.laws.executed_commands_move_their_own.Goals as goal

pub returns-clause-stores : goal.returns-clause-stores
returns-clause-stores c = stores-give-data

pub returns-clause-executions : goal.returns-clause-executions
returns-clause-executions c = executed-commands-move-their-own

pub returns-clause-returned : goal.returns-clause-returned
returns-clause-returned c = buffers-hold-what-was-returned

pub returns-clause-admin : goal.returns-clause-admin
returns-clause-admin c = executed-admin-commands-move-their-own

pub returns-clause-placed : goal.returns-clause-placed
returns-clause-placed c = fetched-commands-are-placed

pub returns-clause-fit : goal.returns-clause-fit
returns-clause-fit c = admitted-data-fit
