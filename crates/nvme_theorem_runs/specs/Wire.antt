-- Statements of `wire.rt`: an example run of fencing over the wire. Also the theorem without its premise: it is false.
use Rattle.std.specs.Prelude.{◌≡◌, ℕ, Bool, Ok, true, false, List, Option, Some, [], ◌∷◌, replicate}
use Rattle.nvme_spec.specs.MediumCalls.{Writes}
use Rattle.nvme_spec.specs.World.{World as Access}
use Rattle.nvme_machine.specs.declared.event.Event.{Event}
use Rattle.nvme_machine.specs.declared.event.Event.TheVariants.{Execute, PowerCycle}
use Rattle.nvme_machine.specs.AllowedCalls.{IsCutAt}
use Rattle.nvme_machine.specs.FaultFree.{fault_free_left, fault_free_seen}
use Rattle.nvme_machine.specs.MixedRuns.{WritesNothing}
use Rattle.nvme_fabrics.specs.Examples.{hosts, entry, any_of, named, judged, two_queues}
use Rattle.nvme_fabrics.specs.Runs.{Input, Connects}
use Rattle.nvme_target.specs.Causes.{Cause, Commands, connection_in, MayCause, IsOfHost, AreHostsOf}
use Rattle.nvme_target.specs.Laws.{lets_write}
use Rattle.nvme_theorem_runs.specs.EachEvent.{all_events, both_write, front}

-- Connections 9 and 10 are the Admin Queue and an I/O queue of controller 2, of host b2h; 7 and 8 are those of
-- controller 1, of host a1h.
abbrev pub four_queues : List Input
four_queues =
    Connects 10 (entry 1 31) (named 0xb2 2 0x6e) judged ∷ Connects 9 (entry 0 31) (any_of 0xb2) judged ∷ two_queues

-- FencingHoldsOverTheWire: host a1h writes, and then what connection 10 causes writes nothing.
pub record WireAtWork : Type 0 where
  pub reached : IsCutAt true both_write front (Execute 2 0) (PowerCycle ∷ []) (fault_free_seen both_write all_events)
      (fault_free_left both_write all_events) (Writes 0 (replicate 512 0) (Ok tt) ∷ [])
  pub configured : AreHostsOf hosts both_write.world
  pub may : MayCause hosts false four_queues (Commands 10) (Execute 2 0)
  pub of : IsOfHost false four_queues (Commands 10) reached.now.world (Execute 2 0)
  pub host : of.host ≡ 0xb2
  pub fenced : lets_write reached.now.world 0xb2 1 ≡ false
  pub others : MayCause hosts false four_queues (Commands 8) (Execute 1 0)
  pub permitted : lets_write reached.now.world 0xa1 1 ≡ true
  pub holds : WritesNothing true 1 both_write reached.now (Execute 2 0) reached.next reached.own

-- The theorem for a target that gives a connection's commands to any controller, and for one that has other hosts.
abbrev pub WireOfAnyController : Type 0
WireOfAnyController =
    (hosts : List (Option ℕ)) → (has_keys : Bool) → (inputs : List Input) → (cause : Cause) → (event : Event)
    → (k : ℕ) → (w : Access) → AreHostsOf hosts w → connection_in cause ≡ Some k
    → IsOfHost has_keys inputs cause w event

abbrev pub WireOfAnyHosts : Type 0
WireOfAnyHosts =
    (hosts : List (Option ℕ)) → (has_keys : Bool) → (inputs : List Input) → (cause : Cause) → (event : Event)
    → (k : ℕ) → (w : Access) → connection_in cause ≡ Some k → MayCause hosts has_keys inputs cause event
    → IsOfHost has_keys inputs cause w event
