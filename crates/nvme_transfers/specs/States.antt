-- The commands of a connection that have not got all their data.
use Rattle.std.specs.Prelude.{Bool, List, Option}
use Rattle.nvme_transfers.specs.declared.command.Command.{Command}
use Rattle.nvme_transfers.specs.declared.transfer.Transfer.{Transfer}

pub record State : Type 0 where
  pub has_ended : Bool
  -- the command of each tag, from 0
  pub active : List (Option Transfer)
  -- those that have no R2T yet, in their order
  pub waiting : List Command
