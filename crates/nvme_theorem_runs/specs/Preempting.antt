-- Statements of `preempting.rt`: example runs of preempted hosts, and of an event's effect on other controllers. Also
-- theorems that lack one premise, and so are false.
use Rattle.std.specs.Prelude.{Bool, List, Some, [], option_map, replicate, slice_get, true, ℕ, ◌∷◌, ◌≡◌, ◌≢◌, ◌⊎◌}
use Rattle.nvme_spec.specs.Execution.{denial_outcome}
use Rattle.nvme_spec.specs.Statuses.{command_aborted_due_to_preempt_and_abort}
use Rattle.nvme_spec.specs.World.{host_of}
use Rattle.nvme_machine.specs.declared.event.Event.{Event}
use Rattle.nvme_machine.specs.declared.event.Event.TheVariants.{Execute, Fetch, PowerCycle, Read32, Write32}
use Rattle.nvme_machine.specs.declared.fetched.FetchedCommand.{FetchedCommand}
use Rattle.nvme_machine.specs.declared.seen.Executed.TheVariants.{Posted}
use Rattle.nvme_machine.specs.declared.seen.Seen.{Seen}
use Rattle.nvme_machine.specs.declared.seen.Seen.TheVariants.{Executed}
use Rattle.nvme_machine.specs.Controllers.{Controller, names, power_cycled}
use Rattle.nvme_machine.specs.FaultFree.{fault_free_left, fault_free_seen, fault_free_step}
use Rattle.nvme_machine.specs.Fencing.{namespace_bytes}
use Rattle.nvme_machine.specs.Preempted.{IsAbortedAt, Preempts, RunKeeping, removed_hosts}
use Rattle.nvme_machine.specs.Runs.{IsMarkedBy}
use Rattle.nvme_machine.specs.Subsystems.{Step, Subsystem, after_power_cycle, controller_at, is_host_among}
use Rattle.nvme_theorem_runs.specs.Cluster.{
  acquire,
  cluster,
  fetched_of,
  stores,
  stores_keys,
  with_b2,
  zeroes,
  zeroes_entry,
}
use Rattle.nvme_spec.specs.Statuses as status

-- Host a1h has fetched a Preempt and Abort of host b2h, whose keys are stored, and a write; host b2h has fetched a
-- write.
unfoldable pub armed : Subsystem
armed = fault_free_left (cluster (with_b2 1) (acquire 2 ∷ zeroes 1 ∷ []) (zeroes 1 ∷ [])) (stores_keys 1 0x11 0x22 ∷ [])

abbrev pub preempted : Subsystem
preempted = (fault_free_step armed (Execute 1 0)).left

-- Host b2h stores its entry again, reads its status, rings, and its controller fetches nothing; host a1h writes.
unfoldable pub meanwhile : List Event
meanwhile =
    stores 2 512 (zeroes_entry 1) ∷ Read32 2 0x1c ∷ Write32 2 0x100c 0 ∷ Fetch 2 1 ∷ Execute 1 0 ∷ []

abbrev pub later : Subsystem
later = fault_free_left preempted meanwhile

-- The command of host b2h stays at place 0, and is aborted when it is executed; the write of host a1h succeeds.
pub record PreemptingAtWork : Type 0 where
  pub controller : Controller
  pub preempts : Preempts true 1 armed 1 0 controller (acquire 2) preempted
  pub other : Controller
  pub command : FetchedCommand
  pub at : controller_at preempted 2 ≡ Some other
  pub found : slice_get other.fetched 0 ≡ Some command
  pub removed : is_host_among (removed_hosts armed 1 controller (acquire 2)) (host_of preempted.world 2) ≡ true
  pub run : RunKeeping true 2 preempted 0 meanwhile (fault_free_seen preempted meanwhile) later 0
  pub holds : IsAbortedAt true later 2 0
  pub written : (namespace_bytes preempted 1 ≡ replicate 512 1) × (namespace_bytes later 1 ≡ replicate 512 0)
  pub aborted : fault_free_seen later (Execute 2 0 ∷ [])
      ≡ Executed (Posted (denial_outcome 1 status.command_aborted_due_to_preempt_and_abort)) ∷ []

-- The theorem for commands of any host, and for any command that is executed first.
abbrev pub PreemptingOfAnyHost : Type 0
PreemptingOfAnyHost =
    (tells : Bool) → (n : ℕ) → (old mid new : Subsystem) → (k i : ℕ) → (c : Controller) → (t : FetchedCommand)
    → Preempts tells n old k i c t mid
    → (j m : ℕ) → (d : Controller) → (u : FetchedCommand) → controller_at mid j ≡ Some d
    → slice_get d.fetched m ≡ Some u → names n u ≡ true
    → (events : List Event) → (seen : List Seen) → (l : ℕ) → RunKeeping tells j mid m events seen new l
    → IsAbortedAt tells new j l

abbrev pub PreemptingByAnyStep : Type 0
PreemptingByAnyStep =
    (tells : Bool) → (n : ℕ) → (old mid new : Subsystem) → (k i : ℕ) → (c : Controller) → (t : FetchedCommand)
    → (first : Seen) → Step tells old (Execute k i) first mid
    → (j m : ℕ) → (d : Controller) → (u : FetchedCommand) → controller_at mid j ≡ Some d
    → slice_get d.fetched m ≡ Some u → names n u ≡ true
    → is_host_among (removed_hosts old k c t) (host_of mid.world j) ≡ true
    → (events : List Event) → (seen : List Seen) → (l : ℕ) → RunKeeping tells j mid m events seen new l
    → IsAbortedAt tells new j l

-- PreemptedCommandsAreMarked and MarkedIsAborted: the command of host b2h is marked, those of host a1h are not.
pub record MarkingAtWork : Type 0 where
  pub unmarked : fetched_of armed 2 ≡ zeroes 1 ∷ []
  pub marked : fetched_of preempted 2 ≡ record (zeroes 1) { marked = true } ∷ []
  pub own : fetched_of preempted 1 ≡ zeroes 1 ∷ []

-- OthersChangeInMarksAlone: a store leaves the other controller, the Preempt and Abort marks its commands, and a power
-- cycle resets it.
pub record OthersAtWork : Type 0 where
  pub store : controller_at (fault_free_step armed (stores 1 0 (1 ∷ []))).left 2 ≡ controller_at armed 2
  pub marks : IsMarkedBy preempted.world (fault_free_step armed (Execute 1 0)).seen 2 (controller_at armed 2)
      (controller_at preempted 2)
  pub changed : controller_at preempted 2 ≢ controller_at armed 2
  pub cycle : controller_at (after_power_cycle armed) 2 ≡ option_map power_cycled (controller_at armed 2)
  pub cycled : controller_at (after_power_cycle armed) 2 ≢ controller_at armed 2

-- The theorem for every controller.
abbrev pub OthersOfAnyController : Type 0
OthersOfAnyController =
    (tells : Bool) → (old new : Subsystem) → (event : Event) → (seen : Seen) → Step tells old event seen new
    → (other : ℕ)
    → (controller_at new other ≡ controller_at old other)
    ⊎ IsMarkedBy new.world seen other (controller_at old other) (controller_at new other)
    ⊎ ((event ≡ PowerCycle) × (controller_at new other ≡ option_map power_cycled (controller_at old other)))
