-- The records of a journal: the commands that may have changed the access state of a subsystem, and its power cycles
-- (NVM Express Base Specification 2.0, Reservations, Namespace Write Protection, Namespace Attachment command, Persist
-- Through Power Loss).
use Rattle.std.specs.Prelude.{
  ℕ,
  ◌+◌,
  ◌*◌,
  ◌==◌,
  Bool,
  true,
  false,
  ◌&&◌,
  ◌||◌,
  if◌then◌else◌,
  List,
  [],
  ◌∷◌,
  Option,
  None,
  Some,
  take,
}
use Rattle.nvme_wire.specs.Submission.{opcode, nsid}
use Rattle.nvme_wire.specs.declared.status.Status.{Status}
use Rattle.nvme_spec.specs.declared.command.AdminCommand.{AdminCommand}
use Rattle.nvme_spec.specs.declared.command.AdminCommand.TheVariants.{SetFeatures, NamespaceAttachment}
use Rattle.nvme_spec.specs.AdminCommands as admin
use Rattle.nvme_spec.specs.AdminEffects as effects
use Rattle.nvme_spec.specs.AdminRules.{list_count}
use Rattle.nvme_spec.specs.Commands as io
use Rattle.nvme_spec.specs.Execution.{world_after}
use Rattle.nvme_spec.specs.IoData.{reservation_outcome}
use Rattle.nvme_spec.specs.Power.{cycled_world}
use Rattle.nvme_spec.specs.StatusLaws.{is_same}
use Rattle.nvme_spec.specs.Statuses as status
use Rattle.nvme_spec.specs.World.{World}

-- A command of a controller that succeeded, from its Admin Queue or an I/O queue, with its entry and its data; or a
-- power cycle.
pub data Record : Type 0 where
  Command : ℕ → Bool → List ℕ → List ℕ → Record
  Cycle : Record

-- Set Features of the write protection, and Namespace Attachment
abbrev pub lasts_by : Option AdminCommand → List ℕ → Bool
lasts_by command e =
    admin.is_one_of command (NamespaceAttachment ∷ [])
    || (admin.is_one_of command (SetFeatures ∷ []) && admin.fid e == admin.write_protection)

-- A command may change the access state: an admin command is one of these, an I/O command acts on a reservation.
unfoldable pub lasts : Bool → List ℕ → Bool
lasts is_admin e =
    if is_admin then lasts_by (admin.command_of (opcode e)) e
    else io.is_one_of (io.command_of (opcode e)) io.reserving

-- the access state after an admin command with these data, which succeeded
abbrev pub carried_by : Option AdminCommand → World → List ℕ → List ℕ → World
carried_by None w e sent = w
carried_by (Some command) w e sent = effects.world_after w command e sent

-- the access state after what a record holds
abbrev pub carried : Record → World → World
carried (Command k true e sent) w = carried_by (admin.command_of (opcode e)) w e sent
carried (Command k false e sent) w = world_after w (nsid e) (reservation_outcome w k e sent)
carried Cycle w = cycled_world w

-- after all of them, the oldest first
abbrev pub carried_all : List Record → World → World
carried_all [] w = w
carried_all (r ∷ later) w = carried_all later (carried r w)

abbrev pub is_success : Status → Bool
is_success answer = is_same answer status.successful_completion

-- what a journal keeps of a command that was answered with a status: nothing, unless it succeeded and lasts
abbrev pub kept : Status → ℕ → Bool → List ℕ → List ℕ → List Record
kept answer k is_admin e sent =
    if is_success answer && lasts is_admin e then Command k is_admin e sent ∷ [] else []

-- how many bytes of its data a command that lasts may read: two keys, or a list of controllers with its count
unfoldable pub kept_length : Bool → List ℕ → ℕ
kept_length is_admin sent = if is_admin then 2 + 2 * list_count sent else 16

-- the data that a journal needs
abbrev pub kept_data : Bool → List ℕ → List ℕ
kept_data is_admin sent = take (kept_length is_admin sent) sent
