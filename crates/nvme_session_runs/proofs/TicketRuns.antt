-- For `outcomes.rt`: the tickets of the run of DriverRuns.
use Rattle.std.proofs.Common.{true, refl, subst}
use Rattle.nvme_spec.specs.Examples.{controller}
use Rattle.nvme_mailbox.specs.Fleets.{Fleet, Run}
use Rattle.nvme_mailbox.proofs.TicketCounts.{tickets_of_an_opening_go_once}
use Rattle.nvme_fleet.specs.FleetStates.{fleet_in}
use Rattle.nvme_fleet.proofs.Bytes.{runs_of_mailboxes}
use Rattle.nvme_theorem_runs.specs.Cluster.{blocks, pair}
use Rattle.nvme_session_runs.proofs.DriverRuns.{drivers_at_work}
use Rattle.nvme_session_runs.proofs.InvariantRuns.{mailboxes-of}
use Rattle.nvme_session_runs.specs.DriverLayers.{events, opened, replies}
use Rattle.nvme_session_runs.specs.RunTickets.{TicketsAtWork, first}

abbrev last : Fleet
last = fleet_in drivers_at_work.left

run : Run true first events replies last
run = subst (λ (f : Fleet). Run true f events replies last) (mailboxes-of pair blocks)
    (runs_of_mailboxes true opened drivers_at_work.left events replies drivers_at_work.run)

pub tickets_at_work : TicketsAtWork
tickets_at_work =
    let law = tickets_of_an_opening_go_once pair blocks 0 (controller 1 0xa1) refl refl true last events replies run in
    record {
      left = last;
      run = run;
      given_are = refl;
      executed_are = refl;
      done_are = refl;
      aborted_are = refl;
      mailbox = law.0;
      host = law.1;
      once = law.2;
    }
