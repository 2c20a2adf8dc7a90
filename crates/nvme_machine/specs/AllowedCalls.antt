-- Statements of laws on the calls that events make of the medium, for any behaviour of the medium and whether or not it
-- reveals its content: each call is made for a command that all rules let pass, on blocks of its namespace; and fenced
-- commands make no calls.
use Rattle.std.specs.Prelude.{
  ◌≡◌,
  ◌≢◌,
  ◌⊎◌,
  ◌<◌,
  ◌≤◌,
  ℕ,
  ◌+◌,
  ◌*◌,
  ◌==◌,
  Bool,
  true,
  false,
  List,
  [],
  ◌∷◌,
  ◌++◌,
  Some,
  Ok,
  replicate,
  slice_get,
}
use Rattle.std.specs.List.{AllByRecursion}
use Rattle.nvme_spec.specs.declared.command.Command.{Command}
use Rattle.nvme_spec.specs.declared.command.Command.TheVariants.{Flush, Write, WriteZeroes}
use Rattle.nvme_spec.specs.declared.outcome.Outcome.{Outcome}
use Rattle.nvme_spec.specs.declared.verdict.Plan.{Plan}
use Rattle.nvme_spec.specs.declared.verdict.Verdict.TheVariants.{Allowed}
use Rattle.nvme_spec.specs.Blocks.{block_at}
use Rattle.nvme_spec.specs.BlockCommands.{answer_of}
use Rattle.nvme_spec.specs.Commands.{altering, readers, block_count, starting_lba}
use Rattle.nvme_spec.specs.IoData.{data_of, io_verdict}
use Rattle.nvme_spec.specs.Layout.{Extent, AreApart, extent_of, may_read, may_write}
use Rattle.nvme_spec.specs.MediumCalls.{MediumAnswer, MediumCall, Reads, Writes, Flushes}
use Rattle.nvme_spec.specs.Statuses as status
use Rattle.nvme_spec.specs.World.{World, Namespace, namespace_of}
use Rattle.nvme_machine.specs.declared.event.Event.{Event}
use Rattle.nvme_machine.specs.declared.event.Event.TheVariants.{Store, Write32, Read32, Fetch, Execute, PowerCycle}
use Rattle.nvme_machine.specs.declared.fetched.FetchedCommand.{FetchedCommand}
use Rattle.nvme_machine.specs.declared.seen.Executed.TheVariants.{Posted}
use Rattle.nvme_machine.specs.declared.seen.Seen.{Seen}
use Rattle.nvme_machine.specs.declared.seen.Seen.TheVariants.{Executed}
use Rattle.nvme_machine.specs.Controllers.{Controller, QueuePair, names}
use Rattle.nvme_machine.specs.Subsystems.{Subsystem, Run, controller_at, OfItsController}
use Rattle.nvme_machine.specs.EventCalls.{AreCallsOfStep, AreCallsOfRun}
use Rattle.nvme_machine.specs.Fencing.{IsAllowedAt, LeavesReservation}
use Rattle.nvme_machine.specs.Runs.{Waits}

-- the bytes that a Write or a Write Zeroes writes, by host memory and its entry
abbrev pub written_by : Command → List ℕ → List ℕ → List ℕ
written_by Write memory e = data_of memory e
written_by WriteZeroes memory e = replicate (512 * block_count e) 0
written_by command memory e = []

-- The i-th command of controller k is one of these I/O commands on namespace n, and all rules let it pass now; and
-- block b of the medium is one that it names, and belongs to that namespace.
pub record NamesBlock (commands : List Command) (s : Subsystem) (k i n b : ℕ) : Type 0 where
  pub is : IsAllowedAt commands s k i n
  pub space : Namespace
  pub there : namespace_of s.world n ≡ Some space
  pub nth : ℕ
  pub below : nth < block_count is.command.entry
  pub inside : starting_lba is.command.entry + nth < space.blocks
  pub place : b ≡ space.first + (starting_lba is.command.entry + nth)

-- It is a Write or Write Zeroes, the reservation lets its host write, and these are its bytes for this block.
pub record WritesBlock (s : Subsystem) (k i n b : ℕ) (bytes : List ℕ) : Type 0 where
  pub block : NamesBlock altering s k i n b
  pub permitted : may_write s.world k n ≡ true
  pub has : bytes ≡ block_at (written_by block.is.allowed.plan.kind block.is.controller.window block.is.command.entry)
      block.nth

-- It is a Read or a Compare, and the reservation lets its host read.
pub record ReadsBlock (s : Subsystem) (k i n b : ℕ) : Type 0 where
  pub block : NamesBlock readers s k i n b
  pub permitted : may_read s.world k n ≡ true

-- It is a Flush, and the reservation lets its host write.
pub record FlushesFor (s : Subsystem) (k i n : ℕ) : Type 0 where
  pub is : IsAllowedAt (Flush ∷ []) s k i n
  pub permitted : may_write s.world k n ≡ true

-- what a call must be, if the i-th command of controller k makes it
abbrev pub IsCallOf : Subsystem → ℕ → ℕ → MediumCall → Type 0
IsCallOf s k i (Writes b bytes answer) = (n : ℕ) × WritesBlock s k i n b bytes
IsCallOf s k i (Reads b answer) = (n : ℕ) × ReadsBlock s k i n b
IsCallOf s k i (Flushes answer) = (n : ℕ) × FlushesFor s k i n

-- only executions make calls
abbrev pub MayCall : Subsystem → Event → MediumCall → Type 0
MayCall s (Execute k i) call = IsCallOf s k i call
MayCall s (Store k address bytes) call = ⊥
MayCall s (Write32 k offset v) call = ⊥
MayCall s (Read32 k offset) call = ⊥
MayCall s (Fetch k q) call = ⊥
MayCall s PowerCycle call = ⊥

-- A block is written only by a Write or Write Zeroes that all rules let pass, on a namespace that has the block and
-- that the reservation lets its host write, with that command's bytes. A block is read only by such a Read or Compare,
-- and the medium is flushed only by such a Flush.
abbrev pub CallsAreAllowed : Type 0
CallsAreAllowed =
    (tells : Bool) → (old new : Subsystem) → (event : Event) → (seen : Seen) → (calls : List MediumCall)
    → AreCallsOfStep tells old event seen new calls → AllByRecursion (MayCall old event) calls

-- A call is made by one of the events, and is allowed in the state before that event.
pub record ComesFrom (tells : Bool) (old : Subsystem) (events : List Event) (call : MediumCall) : Type 0 where
  pub front : List Event
  pub event : Event
  pub later : List Event
  pub split : events ≡ front ++ event ∷ later
  pub given : List Seen
  pub now : Subsystem
  pub reached : Run tells old front given now
  pub may : MayCall now event call

-- Each call in every run is allowed.
abbrev pub CallsOfRunsAreAllowed : Type 0
CallsOfRunsAreAllowed =
    (tells : Bool) → (old new : Subsystem) → (events : List Event) → (seen : List Seen) → (calls : List MediumCall)
    → AreCallsOfRun tells old events seen new calls → AllByRecursion (ComesFrom tells old events) calls

-- a call reads
abbrev pub IsReading : MediumCall → Type 0
IsReading (Reads b answer) = Unit {0}
IsReading (Writes b bytes answer) = ⊥
IsReading (Flushes answer) = ⊥

-- If the reservation of a namespace does not let a host write, the host's commands on it make no write or flush call.
-- If it does not let the host read either, they make no call.
abbrev pub FencedCommandsCallNothing : Type 0
FencedCommandsCallNothing =
    (tells : Bool) → (old new : Subsystem) → (k i n : ℕ) → (c : Controller) → (t : FetchedCommand) → (seen : Seen)
    → (calls : List MediumCall) → AreCallsOfStep tells old (Execute k i) seen new calls
    → controller_at old k ≡ Some c → slice_get c.fetched i ≡ Some t → names n t ≡ true
    → may_write old.world k n ≡ false
    → AllByRecursion IsReading calls × (may_read old.world k n ≡ false → calls ≡ [])

-- no two namespaces share a block
abbrev pub HaveTheirOwn : World → Type 0
HaveTheirOwn w =
    (n m : ℕ) → (x y : Extent) → n ≢ m → extent_of w n ≡ Some x → extent_of w m ≡ Some y → AreApart x y

-- a call writes none of these blocks
abbrev pub KeepsOff : Extent → MediumCall → Type 0
KeepsOff x (Writes b bytes answer) = (b < x.first) ⊎ (x.first + x.blocks ≤ b)
KeepsOff x (Reads b answer) = Unit {0}
KeepsOff x (Flushes answer) = Unit {0}

-- a run with its calls, in which each event has a property in the state before it
abbrev pub CallsWhere : (Subsystem → Event → Type 0) → Bool → Subsystem → List Event → List Seen → Subsystem
    → List MediumCall → Type 0
CallsWhere P tells old [] [] new calls = (new ≡ old) × (calls ≡ [])
CallsWhere P tells old (event ∷ events) (seen ∷ later) new calls =
    (mid : Subsystem) × (here : List MediumCall) × (behind : List MediumCall) × P old event
    × AreCallsOfStep tells old event seen mid here × CallsWhere P tells mid events later new behind
    × (calls ≡ here ++ behind)
CallsWhere P tells old [] (seen ∷ later) new calls = ⊥
CallsWhere P tells old (event ∷ events) [] new calls = ⊥

-- Fencing holds for calls. Suppose that every reservation command on a namespace is denied, and power is not lost or
-- the reservation persists. Then in any list of events of hosts that may not write the namespace, no call writes any of
-- its blocks.
abbrev pub FencedHostsWriteNoBlock : Type 0
FencedHostsWriteNoBlock =
    (tells : Bool) → (old new : Subsystem) → (events : List Event) → (seen : List Seen) → (calls : List MediumCall)
    → (n : ℕ) → (x : Extent) → HaveTheirOwn old.world → extent_of old.world n ≡ Some x
    → CallsWhere (LeavesReservation n) tells old events seen new calls
    → AllByRecursion (OfItsController (λ k. may_write old.world k n ≡ false)) events
    → AllByRecursion (KeepsOff x) calls

-- A Flush that all rules let pass is one flush call, and its status is that of the call.
pub record IsOneFlush (outcome : Outcome) (calls : List MediumCall) : Type 0 where
  pub answer : MediumAnswer
  pub alone : calls ≡ Flushes answer ∷ []
  pub answered : outcome.status ≡ answer_of answer status.write_fault
  pub passed : outcome.status ≡ status.successful_completion → answer ≡ Ok tt

abbrev pub FlushReachesTheMedium : Type 0
FlushReachesTheMedium =
    (tells : Bool) → (old new : Subsystem) → (k i : ℕ) → (c : Controller) → (t : FetchedCommand) → (p : QueuePair)
    → (plan : Plan) → (outcome : Outcome) → (calls : List MediumCall)
    → AreCallsOfStep tells old (Execute k i) (Executed (Posted outcome)) new calls → Waits old k i c t p
    → (t.queue == 0) ≡ false → io_verdict old.world k t.entry t.marked c.window ≡ Allowed plan → plan.kind ≡ Flush
    → IsOneFlush outcome calls

-- The calls of the events before an event come before its own, and those of the later events after them.
pub record IsCutAt (tells : Bool) (old : Subsystem) (front : List Event) (event : Event) (later : List Event)
    (seen : List Seen) (new : Subsystem) (calls : List MediumCall) : Type 0 where
  pub given : List Seen
  pub gives : Seen
  pub rest : List Seen
  pub told : seen ≡ given ++ gives ∷ rest
  pub now : Subsystem
  pub next : Subsystem
  pub before : List MediumCall
  pub own : List MediumCall
  pub behind : List MediumCall
  pub first : AreCallsOfRun tells old front given now before
  pub then_this : AreCallsOfStep tells now event gives next own
  pub then_those : AreCallsOfRun tells next later rest new behind
  pub joined : calls ≡ before ++ (own ++ behind)

abbrev pub CallsAreInOrder : Type 0
CallsAreInOrder =
    (tells : Bool) → (old new : Subsystem) → (front later : List Event) → (event : Event) → (seen : List Seen)
    → (calls : List MediumCall) → AreCallsOfRun tells old (front ++ event ∷ later) seen new calls
    → IsCutAt tells old front event later seen new calls
