use Rattle.std.proofs.Common.{◌≡◌, ◌*◌, IsTrue, take}
use Rattle.nvme_spec.specs.Bytes.{with_bytes}
use Rattle.nvme_spec.specs.MediumCalls.{Calls, passing, writes_from}
use Rattle.nvme_medium.proofs.medium.Medium.write_blocks.Given as goal

abbrev pub invariant-loop-j : goal.invariant-loop-j
invariant-loop-j g l = record {
  written : IsTrue g.Self.Medium.tells
      → (g.Self.Medium.device l.self).content
      ≡ with_bytes (g.Self.Medium.device l.fn.self).content (512 * l.first) (take (512 * l.j) l.bytes);
  size : g.Self.Medium.size l.self ≡ g.Self.Medium.size l.fn.self;
  calls : Calls g.Self.Medium.step l.fn.self (passing (writes_from l.first l.bytes) l.j) l.self;
  failures : (g.Self.Medium.device l.self).failures ≡ (g.Self.Medium.device l.fn.self).failures;
}
