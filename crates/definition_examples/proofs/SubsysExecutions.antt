-- For `subsys_executions.rt`: the blocks and the reservation of an admitted I/O command.
use Rattle.std.proofs.Common.{◌≤◌, Ok}
use Rattle.std.specs.Prelude.{true}
use Rattle.nvme_spec.specs.FaultFreeCalls.{content_step}
use Rattle.nvme_exec.specs.Reading.{ReadsSome}
use Rattle.definition_examples.specs.SubsysExecutions.{ReservationsFollow, RunsHaveSizes}

pub runs_have_sizes : RunsHaveSizes
runs_have_sizes = record {
  of_a_run = λ ps j run h. (h.blocks, h.some, h.few);
  of_a_read = λ content addresses old new before after i j count h.
      let p : (1 ≤ count) × (count ≤ 2)
      × ReadsSome content_step true i j count content addresses old (Ok tt) new before after = h in
      (p.0, p.1);
  of_data = λ w cntlid window e a h. h.few;
}

pub reservations_follow : ReservationsFollow
reservations_follow = record {
  outcome = λ o old new result h. h;
  no_outcome = λ n old new result h. h;
}
