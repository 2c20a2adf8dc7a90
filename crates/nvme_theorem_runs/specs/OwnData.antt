-- Statements of `own_data.rt`: an example run in which a command moves its own data. Also the theorem without its
-- premise: it is false.
use Rattle.std.specs.Prelude.{◌≡◌, ℕ, ◌+◌, Bool, true, false, List, [], ◌∷◌, length, replicate, slice_get, None, Some}
use Rattle.nvme_spec.specs.declared.command.Command.{Command}
use Rattle.nvme_spec.specs.declared.command.Command.TheVariants.{Read, Write}
use Rattle.nvme_spec.specs.declared.outcome.Outcome.{Outcome}
use Rattle.nvme_spec.specs.declared.verdict.Plan.{Plan}
use Rattle.nvme_spec.specs.declared.verdict.Verdict.TheVariants.{Allowed}
use Rattle.nvme_spec.specs.Bytes.{with_bytes}
use Rattle.nvme_spec.specs.Entries.{transfer_entry}
use Rattle.nvme_spec.specs.IoData.{io_verdict}
use Rattle.nvme_spec.specs.Queues as ring
use Rattle.nvme_machine.specs.declared.event.Event.{Event}
use Rattle.nvme_machine.specs.declared.event.Event.TheVariants.{Execute, Fetch, Read32, Write32}
use Rattle.nvme_machine.specs.declared.fetched.FetchedCommand.{FetchedCommand}
use Rattle.nvme_machine.specs.declared.seen.Executed.TheVariants.{Posted}
use Rattle.nvme_machine.specs.declared.seen.Seen.TheVariants.{Executed}
use Rattle.nvme_machine.specs.Controllers.{Controller}
use Rattle.nvme_machine.specs.Examples.{of_queue_1}
use Rattle.nvme_machine.specs.FaultFree.{fault_free_left, fault_free_seen, fault_free_step}
use Rattle.nvme_machine.specs.Subsystems.{Run, Step, Subsystem, controller_at}
use Rattle.nvme_data_buffers.specs.Buffers.{start}
use Rattle.nvme_data_buffers.specs.Entries.{placed}
use Rattle.nvme_data_buffers.specs.Queues.{completion_queue, submission_queue}
use Rattle.nvme_data_buffers.specs.declared.buffer.DataBuffer.{DataBuffer}
use Rattle.nvme_data_buffers.specs.declared.buffer.DataBuffer.TheVariants.{AtOnce}
use Rattle.nvme_data_buffers.specs.Stores.{IsElsewhere}
use Rattle.nvme_target.specs.OwnData.{HasData, Holds, IsPlaced, MovesItsOwn, completion_store}
use Rattle.nvme_theorem_runs.specs.Cluster.{blocks, cluster, done, held_by_a1, ready, stores, zeros}

-- Write and Read of the block of namespace 1, and a command as a target places it for data of this size.
unfoldable pub write : List ℕ
write = transfer_entry 1 1 0 1

unfoldable pub read : List ℕ
read = transfer_entry 2 1 0 1

abbrev pub for_a_block : List ℕ → FetchedCommand
for_a_block e = of_queue_1 (placed false e AtOnce 512)

abbrev pub plan_of : Command → Plan
plan_of command = record { kind = command; first = 0; blocks = 1; bytes = 512 }

-- The controller of host a1h has the queues of a target, and has fetched a command; a number of others waits after it.
-- This is the host's memory.
abbrev pub connected : List ℕ → List ℕ → ℕ → Controller
connected e window count = record (ready 1 window (for_a_block e ∷ [])) {
  submission = None
      ∷ Some (record { base = submission_queue 1; cqid = 1; head = record { size = 4; fetched = 1; waiting = count } })
      ∷ None ∷ None ∷ None ∷ [];
  completion = None ∷ Some (record { base = completion_queue 1; tail = ring.empty_completion_tail 4 }) ∷ None ∷ None
      ∷ None ∷ [];
}

unfoldable pub served : List ℕ → List ℕ → Subsystem
served e window = record (cluster (held_by_a1 1) [] []) {
  controllers = connected e window 0 ∷ ready 2 zeros [] ∷ [];
}

-- a block of such bytes
abbrev pub block_of : ℕ → List ℕ
block_of byte = replicate 512 byte

-- The data are stored. Before the command is executed, the next entry is stored and the doorbell written, host a1h
-- reads its status, and the other controller has nothing to fetch.
unfoldable pub meantime : ℕ → List Event
meantime byte =
    stores 1 (start AtOnce 512) (block_of byte) ∷ stores 1 (submission_queue 1 + 64) write ∷ Write32 1 0x1008 2
    ∷ Read32 1 0x1c ∷ Fetch 2 1 ∷ []

abbrev pub stored : List ℕ → List ℕ → ℕ → Subsystem
stored e window byte = fault_free_left (served e window) (meantime byte)

abbrev pub executed : List ℕ → List ℕ → ℕ → Subsystem
executed e window byte = (fault_free_step (stored e window byte) (Execute 1 0)).left

-- ExecutedCommandsMoveTheirOwn: the premises hold after these events, over any host memory.
pub record OwnDataAtWork (command : Command) (e window : List ℕ) (byte : ℕ) : Type 0 where
  pub run : Run true (served e window) (meantime byte) (fault_free_seen (served e window) (meantime byte))
      (stored e window byte)
  pub controller : Controller
  pub at : controller_at (stored e window byte) 1 ≡ Some controller
  pub found : slice_get controller.fetched 0 ≡ Some (for_a_block e)
  pub placed : IsPlaced false (for_a_block e) e AtOnce 512
  pub has : HasData controller AtOnce (block_of byte)
  pub allowed : io_verdict (stored e window byte).world 1 (for_a_block e).entry false controller.window
      ≡ Allowed (plan_of command)
  pub step : Step true (stored e window byte) (Execute 1 0) (Executed (Posted done)) (executed e window byte)
  pub moves : MovesItsOwn true (stored e window byte) (executed e window byte) 1 0 controller (for_a_block e) AtOnce
      (block_of byte) (plan_of command) done

-- The block has the data of a Write.
pub record OwnWriteAtWork (window : List ℕ) (byte : ℕ) : Type 0 where
  pub moving : OwnDataAtWork Write write window byte
  pub block : (executed write window byte).device.content ≡ with_bytes blocks.content 0 (block_of byte)

-- BuffersHoldWhatWasReturned: the buffer of a Read has the block, which is 1 in each byte.
pub record OwnReadAtWork (window : List ℕ) (byte : ℕ) : Type 0 where
  pub moving : OwnDataAtWork Read read window byte
  pub elsewhere : IsElsewhere AtOnce (completion_store moving.moves.pair (for_a_block read) done 1)
  pub block : Holds (executed read window byte) 1 (start AtOnce 512) (block_of 1)

-- The theorem for a command whose data need not have been stored.
abbrev pub OwnDataOfAnyMemory : Type 0
OwnDataOfAnyMemory =
    (tells : Bool) → (old new : Subsystem) → (k i : ℕ) → (c : Controller) → (t : FetchedCommand) → (e sent : List ℕ)
    → (b : DataBuffer) → (plan : Plan) → (outcome : Outcome) → controller_at old k ≡ Some c
    → slice_get c.fetched i ≡ Some t → IsPlaced false t e b (length sent)
    → io_verdict old.world k t.entry t.marked c.window ≡ Allowed plan
    → Step tells old (Execute k i) (Executed (Posted outcome)) new
    → MovesItsOwn tells old new k i c t b sent plan outcome
