-- What an I/O command does that was placed with its data: it takes these, and returns data to its own buffer.
use Rattle.std.specs.Prelude.{ℕ, ◌≡◌, Bool, true, false, List, length, take, Some, Ok}
use Rattle.nvme_wire.specs.Submission.{opcode}
use Rattle.nvme_spec.specs.declared.command.AdminCommand.{AdminCommand}
use Rattle.nvme_spec.specs.declared.queues.Queues.{Queues}
use Rattle.std.specs.List.{AllByRecursion}
use Rattle.nvme_spec.specs.declared.outcome.Outcome.{Outcome}
use Rattle.nvme_spec.specs.declared.verdict.Plan.{Plan}
use Rattle.nvme_spec.specs.declared.verdict.Verdict.TheVariants.{Allowed}
use Rattle.nvme_spec.specs.AdminCommands.{command_of}
use Rattle.nvme_spec.specs.AdminEffects.{admin_execution, data_out, world_after}
use Rattle.nvme_spec.specs.AdminRules.{admin_judgement}
use Rattle.nvme_spec.specs.Bytes.{with_bytes}
use Rattle.nvme_spec.specs.Execution.{Scene, Performs, Executes}
use Rattle.nvme_spec.specs.IoData.{io_verdict}
use Rattle.nvme_spec.specs.Memory.{window_size}
use Rattle.nvme_spec.specs.World.{World}
use Rattle.nvme_data_buffers.specs.Buffers.{start, HasList}
use Rattle.nvme_data_buffers.specs.Entries.{moved, placed}
use Rattle.nvme_data_buffers.specs.Laws.{IsWithin, IsEntry}
use Rattle.nvme_data_buffers.specs.Stores.{Store, after_stores, IsElsewhere}
use Rattle.nvme_data_buffers.specs.declared.buffer.DataBuffer.{DataBuffer}

-- Its effect is that of its command with these data, and of the memory only its buffer changes: it has what was
-- returned, as far as the command moves data.
pub record MovesOwnData (tells : Bool) (plan : Plan) (cntlid : ℕ) (e sent : List ℕ) (b : DataBuffer) (old new : Scene)
    (outcome : Outcome) : Type 0 where
  pub returned : List ℕ
  pub effect : Performs tells plan.kind cntlid e (take (moved false e) sent) old new outcome.status returned
  pub window : new.window ≡ with_bytes old.window (start b (length sent)) (take (moved false e) returned)

-- An I/O command was placed with its data, and bytes were stored elsewhere since. If all rules let it pass, it moves
-- its own data.
abbrev pub ExecutionsMoveOwnData : Type 0
ExecutionsMoveOwnData =
    (tells : Bool) (cntlid : ℕ) (marked : Bool) (old new : Scene) (outcome : Outcome) (plan : Plan)
    (window e sent : List ℕ) (b : DataBuffer) (stores : List Store) → length window ≡ window_size → HasList window
    → IsEntry e → IsWithin b (length sent) (moved false e) → AllByRecursion (IsElsewhere b) stores
    → old.window ≡ after_stores (with_bytes window (start b (length sent)) sent) stores
    → io_verdict old.world cntlid (placed false e b (length sent)) marked old.window ≡ Allowed plan
    → Executes tells cntlid (placed false e b (length sent)) marked old new outcome
    → MovesOwnData tells plan cntlid (placed false e b (length sent)) sent b old new outcome

-- An admin command that was placed with its data: it is executed with these, and returns to its own buffer.
pub record AdminMovesOwnData (w : World) (queues : Queues) (cntlid : ℕ) (command : AdminCommand) (e now sent : List ℕ)
    (b : DataBuffer) : Type 0 where
  pub world : (admin_execution w queues cntlid e now).world ≡ world_after w command e (take (moved true e) sent)
  pub window : (admin_execution w queues cntlid e now).window
      ≡ with_bytes now (start b (length sent)) (take (moved true e) (data_out w cntlid command e))

abbrev pub AdminExecutionsMoveOwnData : Type 0
AdminExecutionsMoveOwnData =
    (w : World) (queues : Queues) (cntlid : ℕ) (command : AdminCommand) (window now e sent : List ℕ) (b : DataBuffer)
    (stores : List Store) → length window ≡ window_size → HasList window → IsEntry e
    → IsWithin b (length sent) (moved true e) → AllByRecursion (IsElsewhere b) stores
    → now ≡ after_stores (with_bytes window (start b (length sent)) sent) stores
    → admin_judgement w queues cntlid (placed true e b (length sent)) now ≡ Ok tt
    → command_of (opcode (placed true e b (length sent))) ≡ Some command
    → AdminMovesOwnData w queues cntlid command (placed true e b (length sent)) now sent b
