-- For `laws.rt`: placing a request is placing its command.
use Rattle.std.proofs.Common.{refl}
use Rattle.nvme_driver.specs.HostCommands.{RequestsAreCommands}
use Rattle.nvme_driver.proofs.Moving.{moves-few}

pub requests_are_commands : RequestsAreCommands
requests_are_commands d window request slot = record {
  driver = refl;
  stores = refl;
  window_after = refl;
  refusal = λ good. rw (good, moves-few request good) refl;
}
