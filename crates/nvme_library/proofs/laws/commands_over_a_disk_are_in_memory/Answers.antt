use Rattle.nvme_library.proofs.DiskLaws.{
  executions_are_in_memory,
  other_blocks_are_not_in_memory,
  rooms_come_back,
  runs_are_in_memory,
}
use Rattle.nvme_library.proofs.WholeRooms.{whole_rooms_have_no_fault}
use Rattle.nvme_library.proofs.laws.commands_over_a_disk_are_in_memory.Goals as goal

pub returns-clause-execution : goal.returns-clause-execution
returns-clause-execution c = executions_are_in_memory

pub returns-clause-other_blocks : goal.returns-clause-other_blocks
returns-clause-other_blocks c = other_blocks_are_not_in_memory

pub returns-clause-room : goal.returns-clause-room
returns-clause-room c = rooms_come_back

pub returns-clause-run : goal.returns-clause-run
returns-clause-run c = runs_are_in_memory

pub returns-clause-whole : goal.returns-clause-whole
returns-clause-whole c = whole_rooms_have_no_fault
