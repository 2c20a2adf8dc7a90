-- The statuses that commands are answered with, each of which fits its field: the status code type has three bits and
-- the status code eight (Base Specification: Completion Queue Entry, Status Field).
use Rattle.std.specs.Prelude.{◌≡◌, ◌<◌, ◌==◌, ◌&&◌, ℕ, Bool, true, List, [], ◌∷◌}
use Rattle.std.specs.List.{list_any}
use Rattle.nvme_wire.specs.declared.status.Status.{Status}
use Rattle.nvme_spec.specs.declared.outcome.Outcome.{Outcome}
use Rattle.nvme_spec.specs.declared.queues.Queues.{Queues}
use Rattle.nvme_spec.specs.World.{World}
use Rattle.nvme_spec.specs.Execution.{Scene, Executes}
use Rattle.nvme_spec.specs.AdminEffects.{admin_execution}
use Rattle.nvme_spec.specs.Statuses as status

-- the statuses with which rules deny a command
abbrev pub denials : List Status
denials =
    status.invalid_command_opcode
    ∷ status.invalid_field_in_command
    ∷ status.data_transfer_error
    ∷ status.invalid_namespace_or_format
    ∷ status.command_sequence_error
    ∷ status.prp_offset_invalid
    ∷ status.host_identifier_inconsistent_format
    ∷ status.command_aborted_due_to_preempt_and_abort
    ∷ status.namespace_is_write_protected
    ∷ status.lba_out_of_range
    ∷ status.reservation_conflict
    ∷ status.completion_queue_invalid
    ∷ status.invalid_queue_identifier
    ∷ status.invalid_queue_size
    ∷ status.invalid_queue_deletion
    ∷ status.feature_identifier_not_saveable
    ∷ status.feature_not_changeable
    ∷ status.namespace_already_attached
    ∷ status.namespace_is_private
    ∷ status.namespace_not_attached
    ∷ status.controller_list_invalid
    ∷ []

-- these, and those of commands that all rules let pass
abbrev pub answers : List Status
answers = status.successful_completion ∷ status.write_fault ∷ status.unrecovered_read_error
    ∷ status.compare_failure ∷ denials

abbrev pub is_same : Status → Status → Bool
is_same x y = (x.sct == y.sct) && (x.sc == y.sc)

abbrev pub IsAmong : List Status → Status → Type 0
IsAmong statuses s = list_any (λ x. is_same x s) statuses ≡ true

abbrev pub Fits : Status → Type 0
Fits s = (s.sct < 8) × (s.sc < 256)

abbrev pub AnswersFit : Type 0
AnswersFit = (s : Status) → IsAmong answers s → Fits s

-- P holds of the status of every I/O command
abbrev pub ExecutionAnswers : (Status → Type 0) → Type 0
ExecutionAnswers P =
    (tells : Bool) → (cntlid : ℕ) → (e : List ℕ) → (marked : Bool) → (old new : Scene) → (outcome : Outcome)
    → Executes tells cntlid e marked old new outcome → P outcome.status

-- P holds of the status of every admin command
abbrev pub AdminExecutionAnswers : (Status → Type 0) → Type 0
AdminExecutionAnswers P =
    (w : World) → (queues : Queues) → (cntlid : ℕ) → (e window : List ℕ)
    → P (admin_execution w queues cntlid e window).status
