-- Statements of `fencing.rt` on each event of a run: both hosts have fetched a write of namespace 1. Also the theorem
-- without its premise: it is false.
use Rattle.std.specs.Prelude.{Bool, List, Ok, [], false, replicate, true, ℕ, ◌∷◌, ◌≡◌}
use Rattle.nvme_spec.specs.Blocks.{Device}
use Rattle.nvme_spec.specs.Layout.{IsLaidOut, may_write}
use Rattle.nvme_spec.specs.MediumCalls.{MediumCall, Writes}
use Rattle.nvme_machine.specs.declared.event.Event.{Event}
use Rattle.nvme_machine.specs.declared.event.Event.TheVariants.{Execute, PowerCycle}
use Rattle.nvme_machine.specs.declared.seen.Seen.{Seen}
use Rattle.nvme_machine.specs.AllowedCalls.{IsCutAt}
use Rattle.nvme_machine.specs.FaultFree.{fault_free_left, fault_free_seen}
use Rattle.nvme_machine.specs.Fencing.{namespace_bytes}
use Rattle.nvme_machine.specs.MixedRuns.{IsSame, WritesNothing}
use Rattle.nvme_machine.specs.Secrecy.{DifferIn}
use Rattle.nvme_machine.specs.Subsystems.{Subsystem}
use Rattle.nvme_theorem_runs.specs.Cluster.{cluster, held_by_a1, zeroes}

abbrev pub both_write : Subsystem
both_write = cluster (held_by_a1 1) (zeroes 1 ∷ []) (zeroes 1 ∷ [])

-- Host a1h writes, then host b2h is denied, and power is lost.
abbrev pub front : List Event
front = Execute 1 0 ∷ []

abbrev pub all_events : List Event
all_events = Execute 1 0 ∷ Execute 2 0 ∷ PowerCycle ∷ []

-- FencingHoldsOfEachEvent, at the second event: host a1h wrote before, and this one writes nothing.
pub record EachEventAtWork : Type 0 where
  pub reached : IsCutAt true both_write front (Execute 2 0) (PowerCycle ∷ []) (fault_free_seen both_write all_events)
      (fault_free_left both_write all_events) (Writes 0 (replicate 512 0) (Ok tt) ∷ [])
  pub now : reached.now ≡ fault_free_left both_write front
  pub before : namespace_bytes both_write 1 ≡ replicate 512 1
  pub written : namespace_bytes (fault_free_left both_write front) 1 ≡ replicate 512 0
  pub fenced_host : may_write reached.now.world 2 1 ≡ false
  pub holds : WritesNothing true 1 both_write reached.now (Execute 2 0) reached.next reached.own

-- The theorem for an event of any host; and SecrecyHoldsOfEachEvent.
abbrev pub EachEventOfAnyHost : Type 0
EachEventOfAnyHost =
    (tells : Bool) → (old new : Subsystem) → (front later : List Event) → (event : Event) → (seen : List Seen)
    → (calls : List MediumCall) → (n : ℕ) → (cut : IsCutAt tells old front event later seen new calls)
    → WritesNothing tells n old cut.now event cut.next cut.own

abbrev pub SecrecyOfAnyHost : Type 0
SecrecyOfAnyHost =
    (old new : Subsystem) → (front later : List Event) → (event : Event) → (seen : List Seen)
    → (calls : List MediumCall) → (n : ℕ) → (medium : Device) → IsLaidOut old.world old.device.content
    → (cut : IsCutAt true old front event later seen new calls)
    → DifferIn n cut.now.world cut.now.device medium
    → IsSame n cut.now event cut.gives cut.next medium
