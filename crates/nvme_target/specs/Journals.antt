-- The journal of a run: what is kept of each event, in order, and what a subsystem that starts again gets by executing
-- it (NVM Express Base Specification 2.0, Reservations, Persist Through Power Loss, Namespace Write Protection).
use Rattle.std.specs.Prelude.{◌≡◌, ◌≢◌, ◌++◌, ◌==◌, ℕ, Bool, true, false, List, [], ◌∷◌, Option, Some, None, slice_get}
use Rattle.nvme_wire.specs.declared.status.Status.{Status}
use Rattle.nvme_spec.specs.AdminRules as admin
use Rattle.nvme_spec.specs.IoData as io
use Rattle.nvme_spec.specs.Power.{cycled_world}
use Rattle.nvme_machine.specs.declared.event.Event.{Event}
use Rattle.nvme_machine.specs.declared.event.Event.TheVariants.{Store, Write32, Read32, Fetch, Execute, PowerCycle}
use Rattle.nvme_machine.specs.declared.fetched.FetchedCommand.{FetchedCommand}
use Rattle.nvme_machine.specs.declared.seen.Executed.TheVariants.{Posted}
use Rattle.nvme_machine.specs.declared.seen.Seen.{Seen}
use Rattle.nvme_machine.specs.declared.seen.Seen.TheVariants.{Executed}
use Rattle.nvme_machine.specs.Controllers.{Controller, QueuePair}
use Rattle.nvme_machine.specs.Runs.{Waits}
use Rattle.nvme_machine.specs.Subsystems.{Subsystem, Run, Step, controller_at}
use Rattle.nvme_journal.specs.Records.{Record, Cycle, carried_all, kept}
use Rattle.nvme_journal.specs.Laws.{AllMatch, IsSameCommand, ReachesData, ReadsTheSame}

-- the data of a command in its host's memory
abbrev pub data_of : Bool → List ℕ → List ℕ → List ℕ
data_of true window e = admin.data_of window e
data_of false window e = io.data_of window e

abbrev pub kept_of : Option FetchedCommand → Controller → ℕ → Status → List Record
kept_of None c k answer = []
kept_of (Some t) c k answer = kept answer k (t.queue == 0) t.entry (data_of (t.queue == 0) c.window t.entry)

abbrev pub kept_at : Option Controller → ℕ → ℕ → Status → List Record
kept_at None k i answer = []
kept_at (Some c) k i answer = kept_of (slice_get c.fetched i) c k answer

-- what is kept of the execution of the i-th command of a controller, by its result
abbrev pub kept_if : Seen → Option Controller → ℕ → ℕ → List Record
kept_if (Executed (Posted outcome)) o k i = kept_at o k i outcome.status
kept_if seen o k i = []

-- what is kept of an event: of a power cycle always, of an execution by its command, and nothing of the others
abbrev pub kept_by : Subsystem → Event → Seen → List Record
kept_by s (Execute k i) seen = kept_if seen (controller_at s k) k i
kept_by s PowerCycle seen = Cycle ∷ []
kept_by s (Store k address bytes) seen = []
kept_by s (Write32 k offset v) seen = []
kept_by s (Read32 k offset) seen = []
kept_by s (Fetch k q) seen = []

-- the journal of a run, the oldest record first
abbrev pub journal : (tells : Bool) (old : Subsystem) (events : List Event) (seen : List Seen) (new : Subsystem)
    → Run tells old events seen new → List Record
journal tells old [] [] new run = []
journal tells old (event ∷ events) (seen ∷ later) new run =
    kept_by old event seen ++ journal tells run.0 events later new run.2
journal tells old [] (seen ∷ later) new run = []
journal tells old (event ∷ events) [] new run = []

-- The access state is that of the journal, in any run, whatever faults its medium has.
abbrev pub JournalHoldsTheAccessState : Type 0
JournalHoldsTheAccessState =
    (tells : Bool) (old new : Subsystem) (events : List Event) (seen : List Seen) (run : Run tells old events seen new)
    → new.world ≡ carried_all (journal tells old events seen new run) old.world

-- Two runs begin with the same access state, and their journals hold the same commands with the same data, and the same
-- power cycles. Then they end with the same access state, and also with the same after a power cycle. So a subsystem
-- that starts again, and executes the journal, has what the last one would have after a power loss.
pub record EndsAlike (new left : Subsystem) : Type 0 where
  pub now : left.world ≡ new.world
  pub cycled : cycled_world left.world ≡ cycled_world new.world

abbrev pub JournalRestoresTheAccessState : Type 0
JournalRestoresTheAccessState =
    (tells tells_again : Bool) (old new again left : Subsystem) (events others : List Event)
    (seen seen_again : List Seen) (run : Run tells old events seen new)
    (rerun : Run tells_again again others seen_again left) → again.world ≡ old.world
    → AllMatch (journal tells old events seen new run) (journal tells_again again others seen_again left rerun)
    → EndsAlike new left

-- An execution whose command was kept, and another one of the same command of that controller, with the same data, in a
-- subsystem with the same access state. It is not marked, and its data pointer has no fault.
pub record IsReplay (old : Subsystem) (k i : ℕ) (again : Subsystem) (j : ℕ) : Type 0 where
  pub controller : Controller
  pub command : FetchedCommand
  pub queues : QueuePair
  pub waits : Waits old k i controller command queues
  pub same_controller : Controller
  pub same_command : FetchedCommand
  pub same_queues : QueuePair
  pub waits_again : Waits again k j same_controller same_command same_queues
  pub world : again.world ≡ old.world
  pub queue : (same_command.queue == 0) ≡ (command.queue == 0)
  pub entry : IsSameCommand command.entry same_command.entry
  pub reads : ReadsTheSame (command.queue == 0) (data_of (command.queue == 0) controller.window command.entry)
      (data_of (command.queue == 0) same_controller.window same_command.entry)
  pub reaches : ReachesData (command.queue == 0) same_controller.window same_command.entry
  pub unmarked : same_command.marked ≡ false

-- Then it succeeds too: the same is kept of it, and the access state is the same again.
abbrev pub KeptCommandsSucceedAgain : Type 0
KeptCommandsSucceedAgain =
    (tells tells_again : Bool) (old new again left : Subsystem) (k i j : ℕ) (seen seen_again : Seen)
    → Step tells old (Execute k i) seen new → kept_by old (Execute k i) seen ≢ [] → IsReplay old k i again j
    → Step tells_again again (Execute k j) seen_again left
    → AllMatch (kept_by old (Execute k i) seen) (kept_by again (Execute k j) seen_again)
    × (left.world ≡ new.world)
