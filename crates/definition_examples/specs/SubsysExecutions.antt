-- Statements of worked examples: the blocks and the reservation of an admitted I/O command.
use Rattle.std.specs.Prelude.{◌≡◌, ◌≤◌, ◌%◌, ℕ, true, List, None, Some, Result, Ok}
use Rattle.nvme_wire.specs.declared.status.Status.{Status}
use Rattle.nvme_spec.specs.declared.pointer.Piece.{Piece}
use Rattle.nvme_spec.specs.Commands.{data_length}
use Rattle.nvme_spec.specs.FaultFreeCalls.{content_step}
use Rattle.nvme_spec.specs.Reservation as resv
use Rattle.nvme_spec.specs.World.{World}
use Rattle.nvme_resv.specs.declared.change.Change.{Change}
use Rattle.nvme_resv.specs.Answers.{Follows}
use Rattle.nvme_exec.specs.declared.admission.Admission.{Admission}
use Rattle.nvme_exec.specs.Admitted.{IsAdmitted}
use Rattle.nvme_exec.specs.Carrying.{FollowsSome, Settles}
use Rattle.nvme_exec.specs.Reading.{ReadsAsMany}
use Rattle.nvme_exec.specs.Runs.{IsRun}

-- A run of at most two blocks has one or two whole blocks, and a read of at most two reads one or two. The data of an
-- admitted command are at most 131072 bytes.
pub record RunsHaveSizes : Type 0 where
  pub of_a_run : (ps : List Piece) (j : ℕ) (run : Piece) → IsRun ps j 2 run
      → (run.len % 512 ≡ 0) × (512 ≤ run.len) × (run.len ≤ 1024)
  pub of_a_read : (content addresses old new before after : List ℕ) (i j count : ℕ)
      → ReadsAsMany content_step true i j 2 content addresses old (Ok count) new before after
      → (1 ≤ count) × (count ≤ 2)
  pub of_data : (w : World) (cntlid : ℕ) (window e : List ℕ) (a : Admission) → IsAdmitted w cntlid window e a
      → data_length a.plan.kind e ≤ 131072

-- An action on a reservation has an outcome, and the reservation follows it.
pub record ReservationsFollow : Type 0 where
  pub outcome : (o : resv.ActionOutcome) (old new : resv.Reservation) (result : Result Change Status)
      → FollowsSome (Some o) old result new → Follows o old result new
  pub no_outcome : (n : ℕ) (old new : World) (result : Result Change Status) → Settles None n old result new → ⊥
