use Rattle.nvme_medium.proofs.Reading.{reading_is_unique, reading_exists}
use Rattle.nvme_medium.proofs.laws.reading_is_determined.Goals as goal

pub returns-clause-unique : goal.returns-clause-unique
returns-clause-unique g c = reading_is_unique g.M.Medium.step

pub returns-clause-exists : goal.returns-clause-exists
returns-clause-exists g c = reading_exists g.M.Medium.step
