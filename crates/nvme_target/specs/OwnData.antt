-- A command of a target at its execution: its data were stored before, and it moves exactly these (NVM Express Base
-- Specification 2.0, Command Processing, Physical Region Page Entry and List).
use Rattle.std.specs.Prelude.{
  ◌≡◌,
  ℕ,
  ◌+◌,
  ◌≤◌,
  Bool,
  true,
  false,
  ◌==◌,
  List,
  length,
  take,
  Some,
  Ok,
  slice_get,
  slice_range,
}
use Rattle.std.specs.List.{AllByRecursion}
use Rattle.std.specs.Borrow.{Bor}
use Rattle.nvme_wire.specs.Submission.{opcode}
use Rattle.nvme_spec.specs.declared.command.AdminCommand.{AdminCommand}
use Rattle.nvme_spec.specs.declared.outcome.Outcome.{Outcome}
use Rattle.nvme_spec.specs.declared.queues.QueueChange.TheVariants.{Keep}
use Rattle.nvme_spec.specs.declared.verdict.Plan.{Plan}
use Rattle.nvme_spec.specs.declared.verdict.Verdict.TheVariants.{Allowed}
use Rattle.nvme_spec.specs.AdminCommands.{command_of}
use Rattle.nvme_spec.specs.AdminEffects.{admin_execution}
use Rattle.nvme_spec.specs.AdminRules.{admin_judgement}
use Rattle.nvme_spec.specs.Bytes.{with_bytes}
use Rattle.nvme_spec.specs.Execution.{Scene}
use Rattle.nvme_spec.specs.IoData.{io_verdict}
use Rattle.nvme_spec.specs.Memory.{window_size}
use Rattle.nvme_machine.specs.declared.event.Event.TheVariants.{Store as Stores, Execute}
use Rattle.nvme_machine.specs.declared.fetched.FetchedCommand.{FetchedCommand}
use Rattle.nvme_machine.specs.declared.seen.Executed.TheVariants.{Posted}
use Rattle.nvme_machine.specs.declared.seen.Seen.TheVariants.{Executed, Stored}
use Rattle.nvme_machine.specs.CommandExecutions.{admin_command_execution}
use Rattle.nvme_machine.specs.Controllers.{Controller, QueuePair, completion_of, completion_slot, open_pair, queues_of}
use Rattle.nvme_machine.specs.Subsystems.{Step, Subsystem, after_execution, controller_at, scene_of}
use Rattle.nvme_data_buffers.specs.Areas.{Completions}
use Rattle.nvme_capsules.specs.DataPlaces.{most_data}
use Rattle.nvme_data_buffers.specs.Buffers.{HasList, capacity, start}
use Rattle.nvme_data_buffers.specs.Entries.{moved, placed}
use Rattle.nvme_data_buffers.specs.Executions.{AdminMovesOwnData, MovesOwnData}
use Rattle.nvme_data_buffers.specs.Laws.{IsEntry, IsWithin}
use Rattle.nvme_data_buffers.specs.Stores.{IsElsewhere, Store, after_stores}
use Rattle.nvme_data_buffers.specs.declared.buffer.DataBuffer.{DataBuffer}
use Rattle.nvme_data_buffers.specs.declared.buffer.DataBuffer.TheVariants.{AtOnce}

-- The host memory of a controller has the data of a command: they were stored in its buffer, and since then bytes only
-- in other places.
pub record HasData (c : Controller) (b : DataBuffer) (sent : List ℕ) : Type 0 where
  pub before : List ℕ
  pub stores : List Store
  pub whole : length before ≡ window_size
  pub list : HasList before
  pub elsewhere : AllByRecursion (IsElsewhere b) stores
  pub is : c.window ≡ after_stores (with_bytes before (start b (length sent)) sent) stores

-- A store of the data gives them to the memory, and leaves the fetched commands.
pub record GetsData (new : Subsystem) (k : ℕ) (c : Controller) (b : DataBuffer) (sent : List ℕ) : Type 0 where
  pub controller : Controller
  pub is : controller_at new k ≡ Some controller
  pub has : HasData controller b sent
  pub fetched : controller.fetched ≡ c.fetched

abbrev pub StoresGiveData : Type 0
StoresGiveData =
    (tells : Bool) → (old new : Subsystem) → (k : ℕ) → (c : Controller) → (b : DataBuffer) → (bytes : Bor (List ℕ))
    → controller_at old k ≡ Some c → length c.window ≡ window_size → HasList c.window
    → Step tells old (Stores k (start b (length bytes.now)) bytes) Stored new → GetsData new k c b bytes.now

-- a fetched command that a target has placed for a host's command with this entry, from the Admin Queue or an I/O queue
pub record IsPlaced (is_admin : Bool) (t : FetchedCommand) (e : List ℕ) (b : DataBuffer) (size : ℕ) : Type 0 where
  pub queue : (t.queue == 0) ≡ is_admin
  pub whole : IsEntry e
  pub entry : t.entry ≡ placed is_admin e b size
  pub within : IsWithin b size (moved is_admin e)

-- A command that a controller fetches as it was placed is so.
abbrev pub FetchedCommandsArePlaced : Type 0
FetchedCommandsArePlaced =
    (e : List ℕ) → (b : DataBuffer) → (size queue : ℕ) → (marked : Bool) → IsEntry e
    → IsWithin b size (moved (queue == 0) e)
    → IsPlaced (queue == 0) (record { entry = placed (queue == 0) e b size; queue = queue; marked = marked }) e b size

-- The data of a command that a target has admitted fit the buffer of commands that are executed at once.
abbrev pub AdmittedDataFit : Type 0
AdmittedDataFit = (size : ℕ) → size ≤ most_data → size ≤ capacity AtOnce

-- Its execution has its effect with its own data, and of the memory only its buffer gets what is returned. Then its
-- completion is posted, in the completion queue of its own submission queue.
pub record MovesItsOwn (tells : Bool) (old new : Subsystem) (k i : ℕ) (c : Controller) (t : FetchedCommand)
    (b : DataBuffer) (sent : List ℕ) (plan : Plan) (outcome : Outcome) : Type 0 where
  pub left : Scene
  pub pair : QueuePair
  pub room : open_pair c t ≡ Some pair
  pub moves : MovesOwnData tells plan k t.entry sent b (scene_of old c) left outcome
  pub leaves : new
      ≡ after_execution old k c i t pair (record { outcome = outcome; change = Keep; left = left })

-- A command that all rules let pass moves its own data, if the memory has them when it is executed.
abbrev pub ExecutedCommandsMoveTheirOwn : Type 0
ExecutedCommandsMoveTheirOwn =
    (tells : Bool) → (old new : Subsystem) → (k i : ℕ) → (c : Controller) → (t : FetchedCommand) → (e sent : List ℕ)
    → (b : DataBuffer) → (plan : Plan) → (outcome : Outcome) → controller_at old k ≡ Some c
    → slice_get c.fetched i ≡ Some t → IsPlaced false t e b (length sent) → HasData c b sent
    → io_verdict old.world k t.entry t.marked c.window ≡ Allowed plan
    → Step tells old (Execute k i) (Executed (Posted outcome)) new
    → MovesItsOwn tells old new k i c t b sent plan outcome

-- The same of an admin command, whose execution is a function of the state.
pub record AdminMovesItsOwn (old new : Subsystem) (k i : ℕ) (c : Controller) (t : FetchedCommand) (b : DataBuffer)
    (sent : List ℕ) (command : AdminCommand) : Type 0 where
  pub pair : QueuePair
  pub room : open_pair c t ≡ Some pair
  pub moves : AdminMovesOwnData old.world (queues_of c) k command t.entry c.window sent b
  pub leaves : new
      ≡ after_execution old k c i t pair
      (admin_command_execution (scene_of old c) (admin_execution old.world (queues_of c) k t.entry c.window))

abbrev pub ExecutedAdminCommandsMoveTheirOwn : Type 0
ExecutedAdminCommandsMoveTheirOwn =
    (tells : Bool) → (old new : Subsystem) → (k i : ℕ) → (c : Controller) → (t : FetchedCommand) → (e sent : List ℕ)
    → (b : DataBuffer) → (command : AdminCommand) → (outcome : Outcome) → controller_at old k ≡ Some c
    → slice_get c.fetched i ≡ Some t → IsPlaced true t e b (length sent) → HasData c b sent
    → admin_judgement old.world (queues_of c) k t.entry c.window ≡ Ok tt
    → command_of (opcode t.entry) ≡ Some command
    → Step tells old (Execute k i) (Executed (Posted outcome)) new
    → AdminMovesItsOwn old new k i c t b sent command

-- ---- what an answer returns

-- the completion of a command, as a store in the pages of a completion queue
abbrev pub completion_store : QueuePair → FetchedCommand → Outcome → ℕ → Store
completion_store p t outcome qid = record {
  area = Completions qid;
  at = completion_slot p.completion;
  part = completion_of t p outcome.status outcome.dw0;
}

-- the host memory of a controller has these bytes from an address on
pub record Holds (s : Subsystem) (k at : ℕ) (bytes : List ℕ) : Type 0 where
  pub controller : Controller
  pub is : controller_at s k ≡ Some controller
  pub has : slice_range controller.window at (at + length bytes) ≡ bytes

-- After the execution its buffer has exactly what it returned, if its completion was posted in a completion queue.
abbrev pub BuffersHoldWhatWasReturned : Type 0
BuffersHoldWhatWasReturned =
    (tells : Bool) → (old new : Subsystem) → (k i : ℕ) → (c : Controller) → (t : FetchedCommand) → (e sent : List ℕ)
    → (b : DataBuffer) → (plan : Plan) → (outcome : Outcome) → (qid : ℕ) → controller_at old k ≡ Some c
    → length c.window ≡ window_size → IsPlaced false t e b (length sent)
    → (m : MovesItsOwn tells old new k i c t b sent plan outcome)
    → IsElsewhere b (completion_store m.pair t outcome qid)
    → Holds new k (start b (length sent)) (take (moved false t.entry) m.moves.returned)
