use Rattle.std.proofs.Common.{◌≡◌, ◌*◌, take}
use Rattle.nvme_spec.specs.Bytes.{with_bytes}
use Rattle.nvme_spec.specs.MediumCalls.{Calls, passing, writes_from}
use Rattle.nvme_brought.specs.Brought.{content_of, brought_step}
use Rattle.nvme_brought.proofs.medium.BroughtMedium.write_each.Given as goal

abbrev pub invariant-loop-j : goal.invariant-loop-j
invariant-loop-j l = record {
  written : content_of l.self ≡ with_bytes (content_of l.fn.self) (512 * l.first) (take (512 * l.j) l.bytes);
  size : l.self.disk.blocks ≡ l.fn.self.disk.blocks;
  calls : Calls brought_step l.fn.self (passing (writes_from l.first l.bytes) l.j) l.self;
  failures : l.self.failures ≡ l.fn.self.failures;
}
