-- Example runs of both layers of a fleet, over the subsystem of `nvme_theorem_runs`. Its hosts have no driver, so that
-- each of their events is one of the subsystem.
use Rattle.std.specs.Prelude.{◌≡◌, [], ◌∷◌, None, Some, ℕ, replicate, true}
use Rattle.nvme_driver.specs.Drivers.{new_driver}
use Rattle.nvme_event.specs.declared.event.FleetEvent.{FleetEvent}
use Rattle.nvme_event.specs.declared.event.FleetEvent.TheVariants.{Execute, RawWrite32}
use Rattle.nvme_event.specs.declared.seen.FleetSeen.{FleetSeen}
use Rattle.nvme_event.specs.declared.seen.FleetSeen.TheVariants as seen
use Rattle.nvme_event.specs.Replies.{Reply}
use Rattle.nvme_machine.specs.declared.event.Event.TheVariants as below
use Rattle.nvme_machine.specs.FaultFree.{fault_free_step}
use Rattle.nvme_fleet.specs.Bytes.{is_laid_out, namespace_bytes}
use Rattle.nvme_fleet.specs.FleetStates.{Layers, fleet_in}
use Rattle.nvme_fleet.specs.Layers.{Happens, Step}
use Rattle.nvme_mailbox.specs.FaultFree as mailboxes
use Rattle.nvme_theorem_runs.specs.Cluster.{cluster, held_by_a1, zeroes}

-- Host b2h has fetched a write to each namespace, and host a1h one to namespace 1.
unfoldable pub raw_layers : Layers
raw_layers = record {
  subsystem = cluster (held_by_a1 1) (zeroes 1 ∷ []) (zeroes 1 ∷ zeroes 2 ∷ []);
  drivers = None ∷ None ∷ [];
}

-- the same, but host a1h has a driver
unfoldable pub driven : Layers
driven = record raw_layers { drivers = Some (new_driver 1) ∷ None ∷ [] }

abbrev pub executed_at : ℕ → ℕ → Layers
executed_at k i =
    record raw_layers { subsystem = (fault_free_step raw_layers.subsystem (below.Execute k i)).left }

abbrev pub reply_at : ℕ → ℕ → Reply
reply_at k i = (mailboxes.fault_free_step (fleet_in raw_layers) (Execute k i)).reply

-- An execution is one of the subsystem and of the hosts, and changes something. A register write of a host with a
-- driver is refused, and changes nothing.
pub record LayersAtWork : Type 0 where
  pub laid : is_laid_out raw_layers
  pub written : Step true raw_layers (Execute 2 1) (reply_at 2 1) (executed_at 2 1)
  pub before : namespace_bytes raw_layers 2 ≡ replicate 512 2
  pub after : namespace_bytes (executed_at 2 1) 2 ≡ replicate 512 0
  pub denied : Step true raw_layers (Execute 2 0) (reply_at 2 0) (executed_at 2 0)
  pub kept : namespace_bytes (executed_at 2 0) 1 ≡ namespace_bytes raw_layers 1
  pub no_other : (what : FleetSeen) → Happens true raw_layers (Execute 2 1) what raw_layers → ⊥
  pub refused : Happens true driven (RawWrite32 1 0x14 0) seen.NotRaw driven

-- FencedEventsWriteNothing for both layers, without its premise about the host.
abbrev pub LayersOfAnyHost : Type 0
LayersOfAnyHost =
    (old new : Layers) → (event : FleetEvent) → (reply : Reply) → (n : ℕ) → is_laid_out old
    → Step true old event reply new
    → namespace_bytes new n ≡ namespace_bytes old n
