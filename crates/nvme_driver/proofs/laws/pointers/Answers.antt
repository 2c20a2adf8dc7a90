use Rattle.nvme_driver.proofs.SlotPointers.{slots_are_contiguous, slots_move_one_run}
use Rattle.nvme_driver.proofs.laws.pointers.Goals as goal

pub returns-clause-contiguous : goal.returns-clause-contiguous
returns-clause-contiguous c = slots_are_contiguous

pub returns-clause-moves : goal.returns-clause-moves
returns-clause-moves c = slots_move_one_run
