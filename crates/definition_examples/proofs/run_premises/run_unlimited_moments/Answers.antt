use Rattle.definition_examples.proofs.RunPremises.{run_unlimited_moments_since}
use Rattle.definition_examples.proofs.run_premises.run_unlimited_moments.Goals as goal

pub returns : goal.returns
returns c = record { since = run_unlimited_moments_since }
