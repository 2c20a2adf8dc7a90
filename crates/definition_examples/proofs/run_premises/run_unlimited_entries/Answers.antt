use Rattle.definition_examples.proofs.RunPremises.{run_unlimited_entries_stays}
use Rattle.definition_examples.proofs.run_premises.run_unlimited_entries.Goals as goal

pub returns : goal.returns
returns c = record { stays = run_unlimited_entries_stays }
