-- Statements of `queues.rt`: example runs on fetched commands, posted completions and windows. Also theorems that lack
-- one premise, and so are false.
use Rattle.std.specs.Prelude.{Bool, List, None, Some, [], slice_get, true, ℕ, ◌∷◌, ◌≡◌, ◌⊎◌}
use Rattle.nvme_spec.specs.Queues.{completion_room, empty_completion_tail, empty_submission_head}
use Rattle.nvme_spec.specs.Statuses.{successful_completion}
use Rattle.nvme_machine.specs.declared.event.Event.{Event}
use Rattle.nvme_machine.specs.declared.event.Event.TheVariants.{Execute, Fetch, PowerCycle, Read32, Write32}
use Rattle.nvme_machine.specs.declared.fetched.FetchedCommand.{FetchedCommand}
use Rattle.nvme_machine.specs.declared.seen.Seen.{Seen}
use Rattle.nvme_machine.specs.declared.seen.Seen.TheVariants.{Cycled, Outside, Stored, Value, Wrote}
use Rattle.nvme_machine.specs.Controllers.{
  CompletionQueue,
  Controller,
  QueuePair,
  SubmissionQueue,
  completion_at,
  completion_of,
  open_pair,
  submission_at,
}
use Rattle.nvme_machine.specs.FaultFree.{fault_free_left, fault_free_seen, fault_free_step}
use Rattle.nvme_machine.specs.Posted.{PostedEntry, RunSparing, StandsUnread}
use Rattle.nvme_machine.specs.Preempted.{RunKeeping}
use Rattle.nvme_machine.specs.Runs.{StandsIn, TakesOut}
use Rattle.nvme_machine.specs.Subsystems.{Run, Step, Subsystem, controller_at, opening}
use Rattle.nvme_machine.specs.Windows.{AllHaveTheirWindows}
use Rattle.nvme_machine.specs.Wiring.{IsWired}
use Rattle.nvme_theorem_runs.specs.Cluster.{
  blocks,
  cluster,
  fetched_of,
  flush,
  held_by_a1,
  pair,
  ready,
  stores,
  zeroes,
  zeros,
}
use Rattle.nvme_spec.specs.Memory as memory
use Rattle.nvme_spec.specs.Statuses as status

-- Host b2h has fetched a write of each namespace.
abbrev pub waiting : Subsystem
waiting = cluster (held_by_a1 1) [] (zeroes 1 ∷ zeroes 2 ∷ [])

abbrev pub waiting_controller : Controller
waiting_controller = ready 2 zeros (zeroes 1 ∷ zeroes 2 ∷ [])

-- It stores, rings, reads, and there is nothing more to fetch; the first write is executed.
unfoldable pub waiting_events : List Event
waiting_events =
    stores 2 0 (1 ∷ []) ∷ Write32 2 0x100c 0 ∷ Read32 2 0x1c ∷ Fetch 2 1 ∷ Execute 2 0 ∷ []

-- FetchedStays and CommandsAreFollowed: the second write moves from place 1 to place 0. An execution, a reset and a
-- power cycle remove the first one; a store, another register write, a read, a fetch and events of host a1h don't.
pub record StayingAtWork : Type 0 where
  pub run : RunKeeping true 2 waiting 1 waiting_events (fault_free_seen waiting waiting_events)
      (fault_free_left waiting waiting_events) 0
  pub moved : fetched_of (fault_free_left waiting waiting_events) 2 ≡ zeroes 2 ∷ []
  pub executed : TakesOut waiting waiting_controller 2 0 (zeroes 1) (Execute 2 0)
  pub reset : TakesOut waiting waiting_controller 2 0 (zeroes 1) (Write32 2 0x14 0)
  pub emptied : fetched_of (fault_free_step waiting (Write32 2 0x14 0)).left 2 ≡ []
  pub power : TakesOut waiting waiting_controller 2 0 (zeroes 1) PowerCycle
  pub lost : fetched_of (fault_free_step waiting PowerCycle).left 2 ≡ []
  pub store : TakesOut waiting waiting_controller 2 0 (zeroes 1) (stores 2 0 (1 ∷ [])) → ⊥
  pub doorbell : TakesOut waiting waiting_controller 2 0 (zeroes 1) (Write32 2 0x1008 1) → ⊥
  pub read : TakesOut waiting waiting_controller 2 0 (zeroes 1) (Read32 2 0x1c) → ⊥
  pub fetch : TakesOut waiting waiting_controller 2 0 (zeroes 1) (Fetch 2 1) → ⊥
  pub others : TakesOut waiting waiting_controller 2 0 (zeroes 1) (Execute 1 0) → ⊥
  pub another_reset : TakesOut waiting waiting_controller 2 0 (zeroes 1) (Write32 1 0x14 0) → ⊥

-- FetchedStays for a command that was not fetched, and without the events that remove one.
abbrev pub StayingOfAnyCommand : Type 0
StayingOfAnyCommand =
    (tells : Bool) → (old new : Subsystem) → (event : Event) → (seen : Seen) → Step tells old event seen new
    → (j m : ℕ) → (c : Controller) → (t : FetchedCommand) → controller_at old j ≡ Some c
    → ((d : Controller) × (controller_at new j ≡ Some d) × StandsIn t d) ⊎ TakesOut old c j m t event

abbrev pub StayingOverAnyEvent : Type 0
StayingOverAnyEvent =
    (tells : Bool) → (old new : Subsystem) → (event : Event) → (seen : Seen) → Step tells old event seen new
    → (j m : ℕ) → (c : Controller) → (t : FetchedCommand) → controller_at old j ≡ Some c
    → slice_get c.fetched m ≡ Some t
    → (d : Controller) × (controller_at new j ≡ Some d) × StandsIn t d

-- Controllers with their whole windows, that have fetched a Flush of namespace 1 each.
abbrev pub whole : ℕ → Controller
whole k = record (ready k memory.zeros (flush 1 ∷ [])) {
  submission = None ∷ Some (record { base = 4096; cqid = 1; head = empty_submission_head 4 }) ∷ None ∷ None ∷ None
      ∷ [];
  completion = None ∷ Some (record { base = 8192; tail = empty_completion_tail 4 }) ∷ None ∷ None ∷ None ∷ [];
}

unfoldable pub whole_pair : Subsystem
whole_pair = record (cluster (held_by_a1 1) [] []) { controllers = whole 1 ∷ whole 2 ∷ [] }

-- The Flush of host a1h was executed.
abbrev pub posted : Subsystem
posted = (fault_free_step whole_pair (Execute 1 0)).left

abbrev pub whole_queues : QueuePair
whole_queues = record {
  submission = record { base = 4096; cqid = 1; head = empty_submission_head 4 };
  completion = record { base = 8192; tail = empty_completion_tail 4 };
}

abbrev pub entry : PostedEntry
entry = record {
  queue = 1;
  base = 8192;
  slot = 0;
  bytes = completion_of (flush 1) whole_queues status.successful_completion 0;
}

-- Host b2h stores in its own window at the address of the entry, its Flush is executed, and it resets; host a1h reads
-- its status, and there is nothing more to fetch.
unfoldable pub sparing_events : List Event
sparing_events =
    stores 2 8192 (1 ∷ []) ∷ Execute 2 0 ∷ Write32 2 0x14 0 ∷ Read32 1 0x1c ∷ Fetch 1 1 ∷ []

-- PostedIsUnread and UnreadStandsOverRuns.
pub record PostedAtWork : Type 0 where
  pub windows : AllHaveTheirWindows posted
  pub controller : Controller
  pub at : controller_at posted 1 ≡ Some controller
  pub stands : StandsUnread entry controller
  pub run : RunSparing true 1 entry posted sparing_events (fault_free_seen posted sparing_events)
      (fault_free_left posted sparing_events)
  pub holds : (d : Controller) × (controller_at (fault_free_left posted sparing_events) 1 ≡ Some d)
      × StandsUnread entry d

-- UnreadStandsOverRuns over any run, and of any entry.
abbrev pub UnreadOverAnyRun : Type 0
UnreadOverAnyRun =
    (tells : Bool) → (old new : Subsystem) → (events : List Event) → (seen : List Seen) → (j : ℕ) → (e : PostedEntry)
    → Run tells old events seen new → AllHaveTheirWindows old
    → (c : Controller) → controller_at old j ≡ Some c → StandsUnread e c
    → (d : Controller) × (controller_at new j ≡ Some d) × StandsUnread e d

-- WindowsKeepTheirLength: from an opening, stores at both ends of a window and past it.
abbrev pub opened : Subsystem
opened = opening pair blocks

unfoldable pub window_events : List Event
window_events =
    stores 1 4194303 (7 ∷ []) ∷ stores 1 4194303 (7 ∷ 8 ∷ []) ∷ Write32 1 0x24 0x00030003 ∷ Read32 1 0x24 ∷ PowerCycle
    ∷ []

pub record WindowsAtWork : Type 0 where
  pub opening : AllHaveTheirWindows opened
  pub seen : fault_free_seen opened window_events ≡ Stored ∷ Outside ∷ Wrote ∷ Value 0x00030003 ∷ Cycled ∷ []
  pub run : Run true opened window_events (Stored ∷ Outside ∷ Wrote ∷ Value 0x00030003 ∷ Cycled ∷ [])
      (fault_free_left opened window_events)
  pub holds : AllHaveTheirWindows (fault_free_left opened window_events)

-- The theorem for windows of any length.
abbrev pub WindowsOfAnyLength : Type 0
WindowsOfAnyLength =
    (tells : Bool) → (old new : Subsystem) → (events : List Event) → (seen : List Seen)
    → Run tells old events seen new → AllHaveTheirWindows new

-- WaitsWhereFull for a controller whose fetched commands need not have their queues.
abbrev pub WaitingOfAnyController : Type 0
WaitingOfAnyController =
    (c : Controller) → (i : ℕ) → (t : FetchedCommand) → slice_get c.fetched i ≡ Some t
    → open_pair c t ≡ None
    → (s : SubmissionQueue) × (submission_at c t.queue ≡ Some s)

-- With three unread completions a fourth command waits.
abbrev pub full : Controller
full = record (ready 2 zeros (zeroes 2 ∷ [])) {
  completion = None ∷ Some (record { base = 768; tail = record { size = 4; posted = 3; unread = 3 } }) ∷ None ∷ None
      ∷ None ∷ [];
}

pub record WaitingAtWork : Type 0 where
  pub wired : IsWired full
  pub waits : open_pair full (zeroes 2) ≡ None
  pub room : (p : QueuePair) × (open_pair (ready 2 zeros (zeroes 2 ∷ [])) (zeroes 2) ≡ Some p)
  pub holds : (s : SubmissionQueue) × (x : CompletionQueue) × (submission_at full 1 ≡ Some s)
      × (completion_at full s.cqid ≡ Some x) × (completion_room x.tail ≡ 0)
