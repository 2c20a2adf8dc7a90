-- Statements of `medium.rt`: example runs on changes of a medium and a reservation, and on calls of the medium. Also
-- theorems that lack one premise, and so are false.
use Rattle.std.specs.List.{AllByRecursion}
use Rattle.std.specs.Prelude.{Bool, List, Ok, Some, [], replicate, slice_get, true, ℕ, ◌∷◌, ◌≡◌, ◌⊎◌}
use Rattle.nvme_spec.specs.declared.outcome.Outcome.{Outcome}
use Rattle.nvme_spec.specs.Commands.{altering, reserving}
use Rattle.nvme_spec.specs.Execution.{denial_outcome}
use Rattle.nvme_spec.specs.Layout.{Extent, extent_of, reservation_of}
use Rattle.nvme_spec.specs.MediumCalls.{Flushes, MediumCall, Writes}
use Rattle.nvme_spec.specs.Reservation.{unreserved}
use Rattle.nvme_spec.specs.Statuses.{reservation_conflict, successful_completion}
use Rattle.nvme_machine.specs.declared.event.Event.{Event}
use Rattle.nvme_machine.specs.declared.event.Event.TheVariants.{Execute, Fetch, PowerCycle, Read32, Write32}
use Rattle.nvme_machine.specs.declared.fetched.FetchedCommand.{FetchedCommand}
use Rattle.nvme_machine.specs.declared.seen.Executed.TheVariants.{Posted}
use Rattle.nvme_machine.specs.declared.seen.Seen.{Seen}
use Rattle.nvme_machine.specs.declared.seen.Seen.TheVariants.{Executed}
use Rattle.nvme_machine.specs.AllowedCalls.{CallsWhere, ComesFrom, HaveTheirOwn, IsReading, KeepsOff, MayCall}
use Rattle.nvme_machine.specs.CallLaws.{IsFlushAt}
use Rattle.nvme_machine.specs.Calling.{AreCallsNth}
use Rattle.nvme_machine.specs.Controllers.{Controller, names}
use Rattle.nvme_machine.specs.EventCalls.{AreCallsOfRun, AreCallsOfStep}
use Rattle.nvme_machine.specs.Executing.{Setting, setting}
use Rattle.nvme_machine.specs.FaultFree.{fault_free_left, fault_free_step}
use Rattle.nvme_machine.specs.Fencing.{Allows, Forgets, LeavesReservation, namespace_bytes}
use Rattle.nvme_machine.specs.Subsystems.{Step, Subsystem, controller_at}
use Rattle.nvme_theorem_runs.specs.Cluster.{
  acquire,
  blocks,
  cluster,
  done,
  flush,
  forgotten,
  held_by_a1,
  ready,
  register,
  reserved,
  stores,
  stores_keys,
  with_b2,
  zeroes,
  zeros,
}
use Rattle.nvme_theorem_runs.specs.Fencing.{after_fenced, fenced, fenced_events, fenced_seen}
use Rattle.nvme_spec.specs.Statuses as status

-- Host b2h has fetched a write of each namespace.
abbrev pub writing : Subsystem
writing = cluster (held_by_a1 1) [] (zeroes 1 ∷ zeroes 2 ∷ [])

-- OnlyAllowedWritesWrite: the write of namespace 2 is allowed and changes its bytes. No other event is allowed, or
-- changes a byte.
pub record WritingAtWork : Type 0 where
  pub allowed : Allows altering writing (Execute 2 1) 2
  pub before : namespace_bytes writing 2 ≡ replicate 512 2
  pub written : namespace_bytes (fault_free_step writing (Execute 2 1)).left 2 ≡ replicate 512 0
  pub denied : Allows altering writing (Execute 2 0) 1 → ⊥
  pub kept : namespace_bytes (fault_free_step writing (Execute 2 0)).left 1 ≡ namespace_bytes writing 1
  pub elsewhere : Allows altering writing (Execute 2 1) 1 → ⊥
  pub no_reservation : Allows reserving writing (Execute 2 1) 2 → ⊥
  pub store : Allows altering writing (stores 2 0 (7 ∷ [])) 2 → ⊥
  pub write : Allows altering writing (Write32 2 0x1008 1) 2 → ⊥
  pub read : Allows altering writing (Read32 2 0x1c) 2 → ⊥
  pub fetch : Allows altering writing (Fetch 2 1) 2 → ⊥
  pub power : Allows altering writing PowerCycle 2 → ⊥

-- The theorem for any layout.
abbrev pub WritingOnAnyLayout : Type 0
WritingOnAnyLayout =
    (old new : Subsystem) → (event : Event) → (seen : Seen) → (n : ℕ) → Step true old event seen new
    → (namespace_bytes new n ≡ namespace_bytes old n) ⊎ Allows altering old event n

-- OnlyAllowedActionsReserve: host b2h registers, which is allowed; a command without a key is denied; a power cycle
-- forgets a reservation that does not persist.
abbrev pub registering : Subsystem
registering = fault_free_left (cluster (held_by_a1 1) [] (register ∷ acquire 1 ∷ [])) (stores_keys 2 0x33 0x22 ∷ [])

abbrev pub fleeting : Subsystem
fleeting = cluster (forgotten 1) [] []

pub record ReservingAtWork : Type 0 where
  pub allowed : Allows reserving registering (Execute 2 0) 1
  pub before : reservation_of registering.world 1 ≡ Some (held_by_a1 1)
  pub registered : reservation_of (fault_free_step registering (Execute 2 0)).left.world 1 ≡ Some (with_b2 1)
  pub denied : Allows reserving registering (Execute 2 1) 1 → ⊥
  pub kept : reservation_of (fault_free_step registering (Execute 2 1)).left.world 1 ≡ Some (held_by_a1 1)
  pub forgets : Forgets fleeting PowerCycle 1
  pub lost : reservation_of (fault_free_step fleeting PowerCycle).left.world 1 ≡ Some unreserved
  pub persists : Forgets registering PowerCycle 1 → ⊥
  pub lasts : reservation_of (fault_free_step registering PowerCycle).left.world 1 ≡ Some (held_by_a1 1)

-- The theorem for two states that no step joins.
abbrev pub ReservingWithoutAStep : Type 0
ReservingWithoutAStep =
    (old new : Subsystem) → (event : Event) → (n : ℕ)
    → (reservation_of new.world n ≡ reservation_of old.world n) ⊎ Allows reserving old event n ⊎ Forgets old event n

-- The calls of the run of FencingAtWork: the allowed write, on block 1.
unfoldable pub fenced_calls : List MediumCall
fenced_calls = Writes 1 (replicate 512 0) (Ok tt) ∷ []

abbrev pub first_block : Extent
first_block = record { first = 0; blocks = 1 }

-- CallsOfRunsAreAllowed and FencedHostsWriteNoBlock.
pub record CallsAtWork : Type 0 where
  pub calls : AreCallsOfRun true fenced fenced_events fenced_seen after_fenced fenced_calls
  pub allowed : AllByRecursion (ComesFrom true fenced fenced_events) fenced_calls
  pub own : HaveTheirOwn fenced.world
  pub extent : extent_of fenced.world 1 ≡ Some first_block
  pub leaving : CallsWhere (LeavesReservation 1) true fenced fenced_events fenced_seen after_fenced fenced_calls
  pub holds : AllByRecursion (KeepsOff first_block) fenced_calls

-- FencedHostsWriteNoBlock for events of any host, and CallsAreAllowed for any list of calls.
abbrev pub CallsOfAnyHost : Type 0
CallsOfAnyHost =
    (tells : Bool) → (old new : Subsystem) → (events : List Event) → (seen : List Seen) → (calls : List MediumCall)
    → (n : ℕ) → (x : Extent) → HaveTheirOwn old.world → extent_of old.world n ≡ Some x
    → CallsWhere (LeavesReservation n) tells old events seen new calls
    → AllByRecursion (KeepsOff x) calls

abbrev pub CallsOfAnyList : Type 0
CallsOfAnyList =
    (tells : Bool) → (old new : Subsystem) → (event : Event) → (seen : Seen) → (calls : List MediumCall)
    → Step tells old event seen new → AllByRecursion (MayCall old event) calls

-- FlushedIsOneFlush: a Flush of namespace 2 is one flush; one of namespace 1 is denied, and makes no call.
abbrev pub flushing : Subsystem
flushing = cluster (held_by_a1 1) [] (flush 1 ∷ flush 2 ∷ zeroes 2 ∷ [])

pub record FlushAtWork : Type 0 where
  pub is_flush : IsFlushAt flushing 2 1
  pub calls : AreCallsOfStep true flushing (Execute 2 1) (Executed (Posted done))
      (fault_free_step flushing (Execute 2 1)).left (Flushes (Ok tt) ∷ [])
  pub denied : AreCallsOfStep true flushing (Execute 2 0)
      (Executed (Posted (denial_outcome 7 status.reservation_conflict)))
      (fault_free_step flushing (Execute 2 0)).left []

-- The theorem for any command, and for any status.
abbrev pub FlushOfAnyCommand : Type 0
FlushOfAnyCommand =
    (tells : Bool) → (old new : Subsystem) → (k i : ℕ) → (outcome : Outcome) → (calls : List MediumCall)
    → AreCallsOfStep tells old (Execute k i) (Executed (Posted outcome)) new calls
    → outcome.status ≡ status.successful_completion → calls ≡ Flushes (Ok tt) ∷ []

abbrev pub FlushOfAnyStatus : Type 0
FlushOfAnyStatus =
    (tells : Bool) → (old new : Subsystem) → (k i : ℕ) → (outcome : Outcome) → (calls : List MediumCall)
    → AreCallsOfStep tells old (Execute k i) (Executed (Posted outcome)) new calls → IsFlushAt old k i
    → calls ≡ Flushes (Ok tt) ∷ []

-- FencedCommandsCallNothing for any host, and DeniedMakesNoCall and AdminMakesNoCall for any command.
abbrev pub CommandOfAnyHost : Type 0
CommandOfAnyHost =
    (tells : Bool) → (old new : Subsystem) → (k i n : ℕ) → (c : Controller) → (t : FetchedCommand) → (seen : Seen)
    → (calls : List MediumCall) → AreCallsOfStep tells old (Execute k i) seen new calls
    → controller_at old k ≡ Some c → slice_get c.fetched i ≡ Some t → names n t ≡ true
    → AllByRecursion IsReading calls

abbrev pub one_command : FetchedCommand → Setting
one_command t = setting (ready 2 zeros (t ∷ [])) (reserved (held_by_a1 1)) blocks

pub record CommandAtWork : Type 0 where
  pub written : Setting
  pub writes : AreCallsNth true 0 (one_command (zeroes 2)) (Posted done) written fenced_calls
  pub refused : Setting
  pub denied : AreCallsNth true 0 (one_command (zeroes 1))
      (Posted (denial_outcome 7 status.reservation_conflict)) refused []

abbrev pub NoCallOfAnyCommand : Type 0
NoCallOfAnyCommand =
    (tells : Bool) → (i : ℕ) → (old new : Setting) → (outcome : Outcome) → (calls : List MediumCall)
    → AreCallsNth tells i old (Posted outcome) new calls → calls ≡ []
