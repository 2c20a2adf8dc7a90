-- For `layers.rt`: the example runs of both layers, by computation.
use Rattle.std.proofs.Common.{◌≡◌, ◌∙◌, ◌<◌, ◌-◌, ◌^◌, ℕ, true, false, [], ◌∷◌, refl, sym, ap, subst, arith}
use Rattle.std.specs.Prelude.{replicate}
use Rattle.nvme_spec.specs.Layout.{IsLaidOut, may_write}
use Rattle.nvme_event.specs.declared.event.FleetEvent.TheVariants.{Execute, RawWrite32}
use Rattle.nvme_event.specs.declared.seen.FleetSeen.{FleetSeen}
use Rattle.nvme_event.specs.declared.seen.FleetSeen.TheVariants as seen
use Rattle.nvme_machine.specs.declared.event.Event.TheVariants as below
use Rattle.nvme_machine.specs.FaultFree.{fault_free_step}
use Rattle.nvme_machine.proofs.Determined.{run_is_unique, steps}
use Rattle.nvme_fleet.specs.Bytes.{namespace_bytes}
use Rattle.nvme_fleet.specs.FleetStates.{fleet_in}
use Rattle.nvme_fleet.specs.Layers.{Happens, Step, told}
use Rattle.nvme_fleet.proofs.Bytes.{fenced_events_write_nothing}
use Rattle.nvme_mailbox.specs.FaultFree as mailboxes
use Rattle.nvme_mailbox.specs.Fleets as fleets
use Rattle.nvme_theorem_runs.specs.Cluster.{held_by_a1, zeroes}
use Rattle.nvme_theorem_runs.proofs.Computing.{apart, distinct, first_of}
use Rattle.nvme_theorem_runs.proofs.FleetComputing as fleet
use Rattle.nvme_theorem_runs.proofs.FleetUnfolding.{fleet_computing}
use Rattle.nvme_theorem_runs.proofs.Laying.{laid}
use Rattle.nvme_theorem_runs.proofs.Unfolding.{computing}
use Rattle.nvme_session_runs.specs.BothLayers.{LayersAtWork, LayersOfAnyHost, driven, executed_at, raw_layers, reply_at}

layers-laid : IsLaidOut raw_layers.subsystem.world raw_layers.subsystem.device.content
unfolding raw_layers
layers-laid = laid (held_by_a1 1) (zeroes 1 ∷ []) (zeroes 1 ∷ zeroes 2 ∷ [])

site-laid : IsLaidOut (fleet_in raw_layers).site.world (fleet_in raw_layers).site.device.content
unfolding fleet_in
site-laid = layers-laid

same-below : (((mailboxes.fault_free_step (fleet_in raw_layers) (Execute 2 1)).fleet ≡ fleet_in (executed_at 2 1))
    × ((reply_at 2 1).seen ≡ told (fault_free_step raw_layers.subsystem (below.Execute 2 1)).seen))
    × (((mailboxes.fault_free_step (fleet_in raw_layers) (Execute 2 0)).fleet ≡ fleet_in (executed_at 2 0))
    × ((reply_at 2 0).seen ≡ told (fault_free_step raw_layers.subsystem (below.Execute 2 0)).seen))
    × (((mailboxes.fault_free_step (fleet_in raw_layers) (Execute 1 0)).fleet ≡ fleet_in (executed_at 1 0))
    × ((reply_at 1 0).seen ≡ told (fault_free_step raw_layers.subsystem (below.Execute 1 0)).seen))
unfolding computing fleet_computing raw_layers fleet_in
same-below = ((refl, refl), (refl, refl), (refl, refl))

stepping : (k i : ℕ) → (mailboxes.fault_free_step (fleet_in raw_layers) (Execute k i)).fleet ≡ fleet_in
    (executed_at k i)
    → (reply_at k i).seen ≡ told (fault_free_step raw_layers.subsystem (below.Execute k i)).seen
    → Step true raw_layers (Execute k i) (reply_at k i) (executed_at k i)
stepping k i same seen = record {
  mailboxes = subst (λ f. fleets.Step true (fleet_in raw_layers) (Execute k i) (reply_at k i) f) same
      (fleet.steps (fleet_in raw_layers) (Execute k i) site-laid);
  below = record {
    given = (fault_free_step raw_layers.subsystem (below.Execute k i)).seen;
    step = steps raw_layers.subsystem (below.Execute k i) layers-laid;
    gives = seen;
    drivers = refl;
  };
}

facts : (namespace_bytes raw_layers 2 ≡ replicate 512 2) × (namespace_bytes (executed_at 2 1) 2 ≡ replicate 512 0)
    × (may_write raw_layers.subsystem.world 2 1 ≡ false) × (first_of (namespace_bytes raw_layers 1) ≡ 1)
    × (first_of (namespace_bytes (executed_at 1 0) 1) ≡ 0) × (raw_layers.subsystem.device.failures ≡ 0)
unfolding computing raw_layers
facts = (refl, refl, refl, refl, refl, refl)

few : raw_layers.subsystem.device.failures < 2 ^ 64 - 1
few = subst (λ n. n < 2 ^ 64 - 1) (sym facts.5) (omega arith)

two-is-zero : first_of (replicate {A = ℕ} 512 2) ≡ first_of (replicate 512 0) → ⊥
two-is-zero e = distinct 2 0 refl e

no-other : (what : FleetSeen) → Happens true raw_layers (Execute 2 1) what raw_layers → ⊥
no-other what h =
    let event = below.Execute 2 1 in
    let one = run_is_unique raw_layers.subsystem raw_layers.subsystem (event ∷ []) (h.given ∷ [])
    (raw_layers.subsystem, h.step, refl) refl few in
    let same = ap (λ s. namespace_bytes (record raw_layers { subsystem = s }) 2) one.1 in
    two-is-zero (ap first_of (sym facts.0 ∙ same ∙ facts.1))

refused : Happens true driven (RawWrite32 1 0x14 0) seen.NotRaw driven
unfolding driven
refused = (refl, refl)

pub layers_at_work : LayersAtWork
layers_at_work =
    let denied = stepping 2 0 same-below.1.0 same-below.1.1 in
    record {
      laid = layers-laid;
      written = stepping 2 1 same-below.0.0 same-below.0.1;
      before = facts.0;
      after = facts.1;
      denied = denied;
      kept = fenced_events_write_nothing raw_layers (executed_at 2 0) (Execute 2 0) (reply_at 2 0) 1 layers-laid
          denied facts.2;
      no_other = no-other;
      refused = refused;
    }

pub layers_need_the_host : LayersOfAnyHost → ⊥
layers_need_the_host law =
    let same = law raw_layers (executed_at 1 0) (Execute 1 0) (reply_at 1 0) 1 layers-laid
    (stepping 1 0 same-below.2.0 same-below.2.1) in
    apart _ _ facts.4 facts.3 same
