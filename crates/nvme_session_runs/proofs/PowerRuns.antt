-- For `outcomes.rt`: a denied write and a power cycle, over the layers of LayerRuns.
use Rattle.std.proofs.Common.{◌≡◌, ◌∙◌, ℕ, true, false, [], ◌∷◌, None, refl, subst}
use Rattle.std.specs.Prelude.{replicate, slice_index_or}
use Rattle.std.specs.List.{AllByRecursion}
use Rattle.nvme_spec.specs.Blocks.{Device}
use Rattle.nvme_spec.specs.Layout.{may_write}
use Rattle.nvme_spec.specs.Power.{cycled_world}
use Rattle.nvme_spec.specs.World.{World}
use Rattle.nvme_machine.specs.declared.event.Event.TheVariants as below
use Rattle.nvme_machine.specs.declared.seen.Seen.TheVariants as given
use Rattle.nvme_machine.specs.Controllers.{Controller, new_controller, power_cycled}
use Rattle.nvme_machine.specs.PowerCycles.{Persists}
use Rattle.nvme_machine.specs.Subsystems.{after_power_cycle}
use Rattle.nvme_event.specs.declared.event.FleetEvent.TheVariants.{PowerCycle}
use Rattle.nvme_event.specs.declared.seen.FleetSeen.TheVariants as seen
use Rattle.nvme_event.specs.Events.{OfItsHost}
use Rattle.nvme_mailbox.specs.Deliveries.{plain}
use Rattle.nvme_mailbox.specs.Fleets as fleets
use Rattle.nvme_fleet.specs.Bytes.{RunWhere, namespace_bytes}
use Rattle.nvme_fleet.specs.FleetStates.{Layers, fleet_in}
use Rattle.nvme_fleet.specs.Layers.{Step}
use Rattle.nvme_fleet.specs.PowerCycles.{ReservesNothingBelow}
use Rattle.nvme_fleet.proofs.PowerCycles.{bytes_outlast_power}
use Rattle.nvme_theorem_runs.specs.Cluster.{held_by_a1}
use Rattle.nvme_theorem_runs.proofs.Computing.{leaves, leaving}
use Rattle.nvme_theorem_runs.proofs.Unfolding.{computing}
use Rattle.nvme_session_runs.proofs.LayerRuns.{layers_at_work}
use Rattle.nvme_session_runs.specs.BothLayers.{executed_at, raw_layers}
use Rattle.nvme_session_runs.specs.RunPower.{PowerAtWork, fenced_events, fenced_replies}

-- two raw hosts
abbrev pub raw-pair : World → Device → Controller → Controller → Layers
raw-pair w d c x = record {
  subsystem = record { world = w; device = d; controllers = c ∷ x ∷ [] };
  drivers = None ∷ None ∷ [];
}

pub cycles : (w : World) (d : Device) (c x : Controller)
    → Step true (raw-pair w d c x) PowerCycle (plain seen.Cycled)
    (raw-pair (cycled_world w) d (power_cycled c) (power_cycled x))
unfolding fleet_in fleets.power_cycled after_power_cycle
cycles w d c x = record {
  mailboxes = (refl, refl);
  below = record {
    gives = refl;
    ran = (
      given.Cycled ∷ [],
      ((raw-pair (cycled_world w) d (power_cycled c) (power_cycled x)).subsystem, (refl, refl), refl),
    );
    cycled = refl;
    drivers = refl;
  };
}

abbrev denied : Layers
denied = executed_at 2 0

abbrev at : ℕ → Controller
at i = slice_index_or denied.subsystem.controllers i (new_controller 1)

shape : raw-pair denied.subsystem.world denied.subsystem.device (at 0) (at 1) ≡ denied
unfolding computing raw_layers
shape = refl

abbrev last : Layers
last = raw-pair (cycled_world denied.subsystem.world) denied.subsystem.device (power_cycled (at 0))
    (power_cycled (at 1))

cycling : Step true denied PowerCycle (plain seen.Cycled) last
cycling = subst (λ l. Step true l PowerCycle (plain seen.Cycled) last) shape
    (cycles denied.subsystem.world denied.subsystem.device (at 0) (at 1))

persists : Persists raw_layers.subsystem.world 1
unfolding computing raw_layers
persists = record { reservation = held_by_a1 1; there = refl; set = refl }

reserves-nothing : leaves 1 raw_layers.subsystem (below.Execute 2 0) ≡ true
unfolding computing raw_layers
reserves-nothing = refl

run : RunWhere (ReservesNothingBelow 1) raw_layers fenced_events fenced_replies last
run = (
  denied,
  (leaving 1 raw_layers.subsystem (below.Execute 2 0) reserves-nothing).0,
  layers_at_work.denied,
  (last, tt, cycling, refl),
)

permits : (may_write raw_layers.subsystem.world 1 1 ≡ true) × (may_write raw_layers.subsystem.world 2 1 ≡ false)
    × (namespace_bytes raw_layers 1 ≡ replicate 512 1)
unfolding computing raw_layers
permits = (refl, refl, refl)

of-fenced : AllByRecursion (OfItsHost (λ k. may_write raw_layers.subsystem.world k 1 ≡ false)) fenced_events
of-fenced = (permits.1, (tt, tt))

pub power_at_work : PowerAtWork
power_at_work =
    let law = bytes_outlast_power raw_layers last fenced_events fenced_replies 1 layers_at_work.laid persists run
    of-fenced in
    record {
      persists = persists;
      left = last;
      run = run;
      of_fenced = of-fenced;
      kept = law.0 ∙ permits.2;
      holder = law.1 1 ∙ permits.0;
      fenced = law.1 2 ∙ permits.1;
    }
