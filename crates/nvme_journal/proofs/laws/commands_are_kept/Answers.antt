use Rattle.nvme_journal.proofs.Worlds.{io_commands_are_kept, admin_commands_are_kept}
use Rattle.nvme_journal.proofs.laws.commands_are_kept.Goals as goal

pub returns-clause-io : goal.returns-clause-io
returns-clause-io c = io_commands_are_kept

pub returns-clause-admin : goal.returns-clause-admin
returns-clause-admin c = admin_commands_are_kept
