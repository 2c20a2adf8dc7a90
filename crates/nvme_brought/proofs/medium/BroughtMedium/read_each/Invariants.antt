use Rattle.std.proofs.Common.{◌≡◌, true}
use Rattle.nvme_spec.specs.MediumCalls.{Calls, passing, reads_from}
use Rattle.nvme_medium.proofs.Runs.{HasReadFront}
use Rattle.nvme_brought.specs.Brought.{content_of, brought_step}
use Rattle.nvme_brought.proofs.medium.BroughtMedium.read_each.Given as goal

abbrev pub invariant-loop-j : goal.invariant-loop-j
invariant-loop-j l = record {
  read : HasReadFront true l.first l.j (content_of l.fn.self) l.fn.target l.target;
  kept : content_of l.self ≡ content_of l.fn.self;
  size : l.self.disk.blocks ≡ l.fn.self.disk.blocks;
  calls : Calls brought_step l.fn.self (passing (reads_from l.first l.target) l.j) l.self;
  failures : l.self.failures ≡ l.fn.self.failures;
}
