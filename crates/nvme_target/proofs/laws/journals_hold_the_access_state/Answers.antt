use Rattle.nvme_target.proofs.Journals.{journal_holds_the_access_state, journal_restores_the_access_state}
use Rattle.nvme_target.proofs.Replays.{kept_commands_succeed_again}
use Rattle.nvme_target.proofs.laws.journals_hold_the_access_state.Goals as goal

pub returns-clause-holds : goal.returns-clause-holds
returns-clause-holds c = journal_holds_the_access_state

pub returns-clause-restores : goal.returns-clause-restores
returns-clause-restores c = journal_restores_the_access_state

pub returns-clause-succeed : goal.returns-clause-succeed
returns-clause-succeed c = kept_commands_succeed_again
