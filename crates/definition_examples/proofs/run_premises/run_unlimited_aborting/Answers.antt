use Rattle.definition_examples.proofs.RunPremises.{run_unlimited_aborting_aborts}
use Rattle.definition_examples.proofs.run_premises.run_unlimited_aborting.Goals as goal

pub returns : goal.returns
returns c = record { aborts = run_unlimited_aborting_aborts }
