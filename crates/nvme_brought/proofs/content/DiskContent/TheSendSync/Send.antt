-- Nothing is owned, so nothing is tied to a thread.
use denote.Param.Send.{IsSend, owning_send}
use Rattle.nvme_brought.specs.contracts.content.DiskContent.{the_row, the_type}

pub send : IsSend the_row
send = owning_send the_type tt (λ d. tt) (λ k x w. tt)
