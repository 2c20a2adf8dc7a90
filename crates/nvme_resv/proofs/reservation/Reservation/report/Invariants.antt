use Rattle.std.proofs.Common.{◌≡◌, ◌+◌, ◌*◌, ◌≤◌, ◌++◌, length, take}
use Rattle.std.specs.List.{flat_map}
use Rattle.nvme_spec.specs.Report.{header, entry, reported_controllers}
use Rattle.nvme_resv.proofs.reservation.Reservation.report.Given as goal

abbrev pub invariant-loop-cntlid : goal.invariant-loop-cntlid
invariant-loop-cntlid l = record {
  so_far : l.report.items ≡ header l.self l.controllers
      ++ flat_map (entry l.self) (reported_controllers l.self (take l.cntlid-index l.controllers));
  room : length l.report.items ≤ 64 + 64 * l.cntlid-index;
}
