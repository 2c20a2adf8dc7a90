use Rattle.std.proofs.Common.{◌≡◌, ℕ, Some, None, get_or, sym, ◌∙◌, length-append, arith}
use Rattle.nvme_spec.specs.Report.{key_of, header}
use Rattle.nvme_spec.proofs.Reporting.{more-registered, more-absent}
use Rattle.nvme_resv.proofs.reservation.Reservation.report.Goals as goal
use Rattle.nvme_resv.proofs.reservation.Reservation.report.Goals.{in-Some, in_default}

pub loop-cntlid-preserved : goal.loop-cntlid-preserved
loop-cntlid-preserved c =
    let r = c.args.self.now in
    let controllers = c.args.controllers.now in
    let i = c.loop-cntlid.cntlid-index in
    elim c.match-key_of.branch [
      | in-Some w ↦
          let has : key_of r.registrants (get_or controllers i (0, 0)).1 ≡ Some w.in-Some.key =
          rw (← c.self.view_is, ← c.deref-in-loop-cntlid.ensures.0) (sym w.in-Some.ensures) in
          record {
            so_far =
                rw (
                  w.report-is,
                  w.append-in-Some.ensures,
                  w.deref-in-Some.ensures.0,
                  w.entry.ensures,
                  w.is_holder.ensures,
                )
                (more-registered r controllers (header r controllers) i
                (0, 0) w.in-Some.key _ c.loop-cntlid-test.true c.loop-cntlid.invariant.so_far has);
            room =
                rw (w.report-is, w.append-in-Some.ensures)
                (omega (arith, length-append {A = ℕ}, c.loop-cntlid.invariant.room, w.deref-in-Some.ensures.1));
          }
      | in_default w ↦
          let has : key_of r.registrants (get_or controllers i (0, 0)).1 ≡ None =
          rw (← c.self.view_is, ← c.deref-in-loop-cntlid.ensures.0) (sym c.key_of.ensures ∙ w.in_default.is) in
          record {
            so_far = rw w.report-is (more-absent r controllers (header r controllers) i
                (0, 0) _ c.loop-cntlid-test.true c.loop-cntlid.invariant.so_far has);
            room = rw w.report-is (omega (arith, c.loop-cntlid.invariant.room));
          }
    ]
