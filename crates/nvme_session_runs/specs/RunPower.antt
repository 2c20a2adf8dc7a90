-- An example run of the law that fencing of a namespace's bytes outlasts power.
use Rattle.std.specs.Prelude.{◌≡◌, true, false, List, [], ◌∷◌, replicate}
use Rattle.std.specs.List.{AllByRecursion}
use Rattle.nvme_spec.specs.Layout.{may_write}
use Rattle.nvme_machine.specs.PowerCycles.{Persists}
use Rattle.nvme_event.specs.declared.event.FleetEvent.{FleetEvent}
use Rattle.nvme_event.specs.declared.event.FleetEvent.TheVariants.{Execute, PowerCycle}
use Rattle.nvme_event.specs.declared.seen.FleetSeen.TheVariants as seen
use Rattle.nvme_event.specs.Events.{OfItsHost}
use Rattle.nvme_event.specs.Replies.{Reply}
use Rattle.nvme_mailbox.specs.Deliveries.{plain}
use Rattle.nvme_fleet.specs.Bytes.{RunWhere, namespace_bytes}
use Rattle.nvme_fleet.specs.FleetStates.{Layers}
use Rattle.nvme_fleet.specs.PowerCycles.{ReservesNothingBelow}
use Rattle.nvme_session_runs.specs.BothLayers.{raw_layers, reply_at}

-- Host b2h writes namespace 1, which is denied, and power is lost.
abbrev pub fenced_events : List FleetEvent
fenced_events = Execute 2 0 ∷ PowerCycle ∷ []

abbrev pub fenced_replies : List Reply
fenced_replies = reply_at 2 0 ∷ plain seen.Cycled ∷ []

-- BytesOutlastPower: the reservation of host a1h persists, and after power is lost namespace 1 has its bytes, host a1h
-- may still write it, and host b2h may not.
pub record PowerAtWork : Type 0 where
  pub persists : Persists raw_layers.subsystem.world 1
  pub left : Layers
  pub run : RunWhere (ReservesNothingBelow 1) raw_layers fenced_events fenced_replies left
  pub of_fenced : AllByRecursion (OfItsHost (λ k. may_write raw_layers.subsystem.world k 1 ≡ false)) fenced_events
  pub kept : namespace_bytes left 1 ≡ replicate 512 1
  pub holder : may_write left.subsystem.world 1 1 ≡ true
  pub fenced : may_write left.subsystem.world 2 1 ≡ false
