use Rattle.nvme_tcp_library.proofs.ReadBack.{sessions_are_read_back, takings_differ}
use Rattle.nvme_tcp_library.proofs.laws.nothing_is_lost.Goals as goal

pub returns : goal.returns
returns c = record { sessions = sessions_are_read_back; takings = takings_differ }
