-- An example run of the laws on secrecy of both layers: what a host learns of a namespace that it may not read.
use Rattle.std.specs.Prelude.{◌≡◌, true, List, [], ◌∷◌, None, replicate}
use Rattle.nvme_spec.specs.Execution.{denial_outcome}
use Rattle.nvme_spec.specs.Statuses.{reservation_conflict}
use Rattle.nvme_machine.specs.declared.seen.Executed.TheVariants.{Posted}
use Rattle.nvme_machine.specs.Examples.{of_queue_1}
use Rattle.nvme_machine.specs.PowerCycles.{Persists}
use Rattle.nvme_machine.specs.Secrecy.{DifferIn}
use Rattle.nvme_event.specs.declared.event.FleetEvent.{FleetEvent}
use Rattle.nvme_event.specs.declared.event.FleetEvent.TheVariants.{Execute, PowerCycle}
use Rattle.nvme_event.specs.declared.seen.FleetSeen.TheVariants as seen
use Rattle.nvme_event.specs.Replies.{Reply}
use Rattle.nvme_mailbox.specs.Deliveries.{plain}
use Rattle.nvme_mailbox.specs.Determined.{failures_in}
use Rattle.nvme_mailbox.specs.Fencing.{LeavesReservation, ReservesNothing}
use Rattle.nvme_mailbox.specs.Fleets as mailboxes
use Rattle.nvme_mailbox.specs.Fleets.{Fleet}
use Rattle.nvme_mailbox.specs.Regular.{IsRegular}
use Rattle.nvme_mailbox.specs.Secrecy.{MayNotRead, over}
use Rattle.nvme_fleet.specs.Bytes.{RunWhere, namespace_bytes}
use Rattle.nvme_fleet.specs.FleetStates.{Layers, fleet_in}
use Rattle.nvme_fleet.specs.Layers.{Run}
use Rattle.nvme_fleet.specs.Secrecy.{layers_over}
use Rattle.nvme_theorem_runs.specs.Cluster.{cluster, held_by_a1}
use Rattle.nvme_theorem_runs.specs.Reading.{other_blocks, read_entry}

-- Host a1h has exclusive access to namespace 1, and host b2h has fetched a Read of it.
unfoldable pub secret_layers : Layers
secret_layers = record {
  subsystem = cluster (held_by_a1 2) [] (of_queue_1 read_entry ∷ []);
  drivers = None ∷ None ∷ [];
}

-- the same over a medium with other bytes in namespace 1
abbrev pub other_layers : Layers
other_layers = layers_over other_blocks secret_layers

-- The Read is executed and denied, and power is lost.
abbrev pub read_events : List FleetEvent
read_events = Execute 2 0 ∷ PowerCycle ∷ []

abbrev pub denied_replies : List Reply
denied_replies =
    plain (seen.Executed (Posted (denial_outcome 7 reservation_conflict))) ∷ plain seen.Cycled ∷ []

-- LayersReadTheSame and LayersOutlastPower: over either medium the run has these replies, and leaves the same memory of
-- all hosts. RepliesOutlastPower: so it is for the fleet alone.
pub record SecrecyAtWork : Type 0 where
  pub regular : IsRegular (fleet_in secret_layers)
  pub differ : DifferIn 1 secret_layers.subsystem.world secret_layers.subsystem.device other_blocks
  pub persists : Persists secret_layers.subsystem.world 1
  pub reader : MayNotRead secret_layers.subsystem.world 1 read_events
  pub bytes : namespace_bytes secret_layers 1 ≡ replicate 512 1
  pub other_bytes : namespace_bytes other_layers 1 ≡ replicate 512 9
  pub left : Layers
  pub run : RunWhere (λ l. ReservesNothing 1 (fleet_in l)) secret_layers read_events denied_replies left
  pub leaves : RunWhere (λ l. LeavesReservation 1 (fleet_in l)) secret_layers read_events denied_replies left
  pub other_left : Layers
  pub other_run : Run true other_layers read_events denied_replies other_left
  pub same : (other : Layers) (others : List Reply) → Run true other_layers read_events others other
      → other.subsystem.device.failures ≡ 0
      → (others ≡ denied_replies) × (other ≡ layers_over other.subsystem.device left)
  pub replies : (other : Fleet) (others : List Reply)
      → mailboxes.Run true (over other_blocks (fleet_in secret_layers)) read_events others other
      → failures_in other ≡ 0 → (others ≡ denied_replies) × (other ≡ over other.site.device (fleet_in left))
