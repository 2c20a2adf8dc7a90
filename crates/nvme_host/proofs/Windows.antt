-- The looks and loads of a port that records its calls return what is in its window, and leave it. So a poll of the
-- driver over such a port is a poll of the port's window.
use Rattle.std.proofs.Common.{List, ℕ, Option, Result}
use Rattle.nvme_driver.specs.declared.answer.Answer.{Answer}
use Rattle.nvme_driver.specs.declared.faults.PollFault.{PollFault}
use Rattle.nvme_driver.specs.Drivers.{Driver}
use Rattle.nvme_driver.specs.Polls.{IsPolled, IsPolledOver}
use Rattle.nvme_driver.specs.Ports.{IsStill}
use Rattle.nvme_driver.proofs.Still.{polls-still}
use Rattle.nvme_host.specs.declared.recording_port.RecordingPort.{RecordingPort}
use Rattle.nvme_host.specs.Recording.{Records}

pub looks_leave_the_window : IsStill Records (λ p. p.window)
looks_leave_the_window = record {
  sees = λ lane head expected seen p q h. h;
  loads = λ at part p q h. h;
}

pub polls_its_window : (d d' : Driver) (old new : RecordingPort) (result : Result (Option Answer) PollFault)
    (buffer : List ℕ)
    → IsPolled Records d old result d' new buffer → IsPolledOver Records d old.window old result d' new buffer
polls_its_window d d' old new result buffer p =
    polls-still Records (λ r. r.window) looks_leave_the_window d d' old new result buffer p
