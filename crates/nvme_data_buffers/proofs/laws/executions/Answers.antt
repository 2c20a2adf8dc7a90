use Rattle.nvme_data_buffers.proofs.Executions.{executions-move-own-data, admin-executions-move-own-data}
use Rattle.nvme_data_buffers.proofs.laws.executions.Goals as goal

pub returns-clause-io : goal.returns-clause-io
returns-clause-io c = executions-move-own-data

pub returns-clause-admin : goal.returns-clause-admin
returns-clause-admin c = admin-executions-move-own-data
