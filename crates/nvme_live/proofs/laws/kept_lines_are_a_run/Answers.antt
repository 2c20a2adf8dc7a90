use Rattle.nvme_live.proofs.Kept.{kept_lines_are_a_run, kept_lines_run_amid_looks, kept_lines_transcribe}
use Rattle.nvme_live.proofs.laws.kept_lines_are_a_run.Goals as goal

pub returns-clause-layers : goal.returns-clause-layers
returns-clause-layers c = kept_lines_are_a_run

pub returns-clause-transcript : goal.returns-clause-transcript
returns-clause-transcript c = kept_lines_transcribe

pub returns-clause-amid_looks : goal.returns-clause-amid_looks
returns-clause-amid_looks c = kept_lines_run_amid_looks
