use Rattle.nvme_refinement.proofs.Opening.{opening_is_sound}
use Rattle.nvme_refinement.proofs.laws.opening_is_sound.Goals as goal

pub returns : goal.returns
returns c = record { opening = opening_is_sound }
