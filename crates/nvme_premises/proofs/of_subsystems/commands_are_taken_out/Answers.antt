use Rattle.nvme_premises.proofs.Events.{places_are_kept, takes_out_is_one_of_three}
use Rattle.nvme_premises.proofs.of_subsystems.commands_are_taken_out.Goals as goal

pub returns-clause-taken : goal.returns-clause-taken
returns-clause-taken c = takes_out_is_one_of_three

pub returns-clause-kept : goal.returns-clause-kept
returns-clause-kept c = places_are_kept
