use Rattle.nvme_target.proofs.Owners.{causes_are_of_one_controller}
use Rattle.nvme_target.proofs.laws.causes_are_of_one_controller.Goals as goal

pub returns : goal.returns
returns c = causes_are_of_one_controller
