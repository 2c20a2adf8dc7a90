use Rattle.std.proofs.Common.{◌≡◌, IsTrue}
use Rattle.nvme_medium.proofs.Runs.{HasReadFront}
use Rattle.nvme_spec.specs.MediumCalls.{Calls, passing, reads_from}
use Rattle.nvme_medium.proofs.medium.Medium.read_blocks.Given as goal

abbrev pub invariant-loop-j : goal.invariant-loop-j
invariant-loop-j g l = record {
  read : HasReadFront g.Self.Medium.tells l.first l.j (g.Self.Medium.device l.fn.self).content l.fn.target l.target;
  kept : IsTrue g.Self.Medium.tells → (g.Self.Medium.device l.self).content ≡ (g.Self.Medium.device l.fn.self).content;
  size : g.Self.Medium.size l.self ≡ g.Self.Medium.size l.fn.self;
  calls : Calls g.Self.Medium.step l.fn.self (passing (reads_from l.first l.target) l.j) l.self;
  failures : (g.Self.Medium.device l.self).failures ≡ (g.Self.Medium.device l.fn.self).failures;
}
