use Rattle.nvme_data_buffers.proofs.Areas.{areas-lie-in-window, areas-are-apart, data-lie-in-their-buffer}
use Rattle.nvme_data_buffers.proofs.laws.areas.Goals as goal

pub returns-clause-inside : goal.returns-clause-inside
returns-clause-inside c = areas-lie-in-window

pub returns-clause-apart : goal.returns-clause-apart
returns-clause-apart c = areas-are-apart

pub returns-clause-data : goal.returns-clause-data
returns-clause-data c = data-lie-in-their-buffer
