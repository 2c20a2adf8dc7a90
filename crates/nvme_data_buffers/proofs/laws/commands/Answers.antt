use Rattle.nvme_data_buffers.proofs.OwnData.{commands-move-their-data, others-are-refused}
use Rattle.nvme_data_buffers.proofs.laws.commands.Goals as goal

pub returns-clause-own : goal.returns-clause-own
returns-clause-own c = commands-move-their-data

pub returns-clause-refused : goal.returns-clause-refused
returns-clause-refused c = others-are-refused
