-- The execution of one I/O command without faults of the medium, as a function: the state after it, and its answer (NVM
-- Command Set Specification: I/O commands; Base Specification: Reservations).
use Rattle.std.specs.Prelude.{ℕ, Bool, List, [], length, take}
use Rattle.nvme_wire.specs.Submission.{nsid}
use Rattle.nvme_wire.specs.declared.status.Status.{Status}
use Rattle.nvme_spec.specs.declared.command.Command.{Command}
use Rattle.nvme_spec.specs.declared.command.Command.TheVariants.{ReservationReport}
use Rattle.nvme_spec.specs.declared.command.CommandKind.{CommandKind}
use Rattle.nvme_spec.specs.declared.command.CommandKind.TheVariants.{OnBlocks, OnReservation, OnReport}
use Rattle.nvme_spec.specs.declared.outcome.Outcome.{Outcome}
use Rattle.nvme_spec.specs.declared.verdict.Verdict.{Verdict}
use Rattle.nvme_spec.specs.declared.verdict.Verdict.TheVariants.{Allowed, Denied}
use Rattle.nvme_spec.specs.BlockCommands.{content_after, status_after, data_read}
use Rattle.nvme_spec.specs.World.{World, namespace_of}
use Rattle.nvme_spec.specs.Commands.{block_count, data_length, kind_of}
use Rattle.nvme_spec.specs.Transfers.{with_scattered}
use Rattle.nvme_spec.specs.DataRules.{data_addresses}
use Rattle.nvme_spec.specs.IoData.{data_of, reservation_outcome, io_verdict}
use Rattle.nvme_spec.specs.Execution.{Scene, medium_block, report_of, world_after, marks_of, denial_outcome}
use Rattle.nvme_spec.specs.Statuses as status

-- the result of an allowed command: its status, the data for the host, the access state, the medium's content
pub record Performance : Type 0 where
  pub status : Status
  pub returned : List ℕ
  pub world : World
  pub content : List ℕ

abbrev pub performance_as : CommandKind → Command → ℕ → List ℕ → List ℕ → Scene → Performance
performance_as OnBlocks command cntlid e sent s = record {
  status = status_after command (medium_block s.world e) sent s.device.content;
  returned = data_read command (medium_block s.world e) (block_count e) s.device.content;
  world = s.world;
  content = content_after command (medium_block s.world e) (block_count e) sent s.device.content;
}
performance_as OnReservation command cntlid e sent s = record {
  status = status.successful_completion;
  returned = [];
  world = world_after s.world (nsid e) (reservation_outcome s.world cntlid e sent);
  content = s.device.content;
}
performance_as OnReport command cntlid e sent s = record {
  status = status.successful_completion;
  returned = report_of (namespace_of s.world (nsid e)) s.world.controllers (data_length ReservationReport e);
  world = s.world;
  content = s.device.content;
}

-- an executed command: the state after it, and its answer
pub record Execution : Type 0 where
  pub left : Scene
  pub outcome : Outcome

-- its data are in host memory then, and no call of the medium has failed
abbrev pub performed : Command → ℕ → List ℕ → Scene → Performance → Execution
performed command cntlid e s p = record {
  left = record {
    world = p.world;
    window = with_scattered s.window (take (length p.returned) (data_addresses (data_length command e) s.window e))
        p.returned;
    device = record { content = p.content; failures = s.device.failures };
  };
  outcome = record {
    status = p.status;
    dw0 = 0;
    rule = 0;
    marks = marks_of command e (reservation_outcome s.world cntlid e (data_of s.window e));
  };
}

abbrev pub performance_of : Command → ℕ → List ℕ → Scene → Performance
performance_of command cntlid e s = performance_as (kind_of command) command cntlid e (data_of s.window e) s

-- by the verdict of the rules
abbrev pub fault_free_by : Verdict → ℕ → List ℕ → Scene → Execution
fault_free_by (Denied number why) cntlid e s = record { left = s; outcome = denial_outcome number why }
fault_free_by (Allowed plan) cntlid e s = performed plan.kind cntlid e s (performance_of plan.kind cntlid e s)

-- an I/O command of a controller, marked or not
unfoldable pub fault_free_execution : ℕ → List ℕ → Bool → Scene → Execution
fault_free_execution cntlid e marked s = fault_free_by (io_verdict s.world cntlid e marked s.window) cntlid e s
