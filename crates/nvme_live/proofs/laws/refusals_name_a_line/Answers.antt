use Rattle.nvme_live.proofs.SetUps.{refusal_names_a_line, set_up_is_numbered}
use Rattle.nvme_live.proofs.Starting.{runs_where_accepted}
use Rattle.nvme_live.proofs.laws.refusals_name_a_line.Goals as goal

pub returns-clause-numbered : goal.returns-clause-numbered
returns-clause-numbered c = set_up_is_numbered

pub returns-clause-reason : goal.returns-clause-reason
returns-clause-reason c = refusal_names_a_line

pub returns-clause-accepted : goal.returns-clause-accepted
returns-clause-accepted c = runs_where_accepted
