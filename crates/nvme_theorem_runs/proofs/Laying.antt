-- For all example runs: the example subsystems are laid out.
use Rattle.std.proofs.Common.{◌≡◌, List, None, refl}
use Rattle.nvme_spec.specs.Configuration.{config_fault, first_config_fault, script_capacity}
use Rattle.nvme_spec.specs.Layout.{IsLaidOut}
use Rattle.nvme_spec.specs.Reservation.{Reservation}
use Rattle.nvme_spec.specs.World.{opening_world}
use Rattle.nvme_spec.proofs.Fencing.{layout-kept}
use Rattle.nvme_spec.proofs.Namespaces.{layout-reserved}
use Rattle.nvme_spec.proofs.Openings.{opening_is_laid_out}
use Rattle.nvme_machine.specs.declared.fetched.FetchedCommand.{FetchedCommand}
use Rattle.nvme_theorem_runs.specs.Cluster.{blocks, cluster, pair, reserved}

pub fits : first_config_fault pair 2 ≡ None
unfolding config_fault
fits = refl

pub laid : (r : Reservation) (first second : List FetchedCommand)
    → IsLaidOut (cluster r first second).world (cluster r first second).device.content
unfolding cluster
laid r first second =
    layout-kept (opening_world pair) (reserved r) blocks.content blocks.content
    (layout-reserved (opening_world pair) 1 r) refl
    (opening_is_laid_out pair (script_capacity 2) blocks.content refl fits)
