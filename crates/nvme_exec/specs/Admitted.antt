-- A command that the rules on access and on its data pointer have let pass, for the contract of `admit`.
use Rattle.std.specs.Prelude.{◌≡◌, ◌+◌, ◌≤◌, ℕ, List, length, Some, IsSome}
use Rattle.nvme_wire.specs.Submission.{opcode, nsid}
use Rattle.nvme_spec.specs.Limits.{most_bytes}
use Rattle.nvme_spec.specs.declared.command.Command.TheVariants.{ReservationAcquire}
use Rattle.nvme_spec.specs.Commands.{command_of, plan_of, data_length, rtype}
use Rattle.nvme_spec.specs.Transfers.{addresses}
use Rattle.nvme_spec.specs.World.{World, host_of, namespace_of}
use Rattle.nvme_spec.specs.DataRules.{data_addresses}
use Rattle.nvme_spec.specs.Execution.{start_of}
use Rattle.nvme_exec.specs.declared.admission.Admission.{Admission}

-- What is known of it: its plan, its host, its blocks on the medium and its data in host memory.
pub record IsAdmitted (w : World) (cntlid : ℕ) (window e : List ℕ) (a : Admission) : Type 0 where
  pub command : command_of (opcode e) ≡ Some a.plan.kind
  pub planned : a.plan ≡ plan_of a.plan.kind e
  pub host : host_of w cntlid ≡ Some a.host
  pub known : length w.controllers ≤ 16
  pub named : IsSome (namespace_of w (nsid e))
  pub first : a.extent.first ≡ start_of (namespace_of w (nsid e)) + a.plan.first
  pub blocks : a.extent.blocks ≡ a.plan.blocks
  pub placed : addresses a.pieces.now.parts.items ≡ data_addresses (data_length a.plan.kind e) window e
  pub bytes : length (addresses a.pieces.now.parts.items) ≡ data_length a.plan.kind e
  pub few : data_length a.plan.kind e ≤ most_bytes
  pub typed : a.plan.kind ≡ ReservationAcquire → (1 ≤ rtype e) × (rtype e ≤ 6)
