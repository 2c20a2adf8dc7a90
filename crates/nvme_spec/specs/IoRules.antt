-- The rules for an I/O command that do not look at its data, in order. A rule passes for a command that it doesn't
-- name. The order of the rules is this subsystem's; each rule is the standard's (Base Specification: Command Format,
-- Namespace Identifier Usage, Reservations, Namespace Write Protection; NVM Command Set Specification: LBA Out of
-- Range).
use Rattle.std.specs.Prelude.{
  ℕ,
  ◌+◌,
  ◌≤◌,
  ◌==◌,
  nat_lt,
  nat_le,
  Bool,
  true,
  false,
  not,
  ◌&&◌,
  ◌||◌,
  List,
  [],
  ◌∷◌,
  Option,
  None,
  Some,
  is_none,
  is_some,
  IsSomeAnd,
  Ok,
  Err,
}
use Rattle.nvme_wire.specs.Submission.{opcode, fuse, psdt, nsid}
use Rattle.nvme_spec.specs.declared.access.Role.{Role}
use Rattle.nvme_spec.specs.declared.access.Role.TheVariants.{Outsider}
use Rattle.nvme_spec.specs.declared.access.Group.{Group}
use Rattle.nvme_spec.specs.declared.access.Group.TheVariants.{Read as Reading, Write as Writing}
use Rattle.nvme_spec.specs.declared.command.Command.{Command}
use Rattle.nvme_spec.specs.declared.command.Command.TheVariants.{
  ReservationRegister,
  ReservationReport,
  ReservationAcquire,
  ReservationRelease,
}
use Rattle.nvme_spec.specs.declared.verdict.Plan.{Plan}
use Rattle.nvme_spec.specs.declared.verdict.Verdict.{Verdict}
use Rattle.nvme_spec.specs.declared.verdict.Verdict.TheVariants.{Allowed, Denied}
use Rattle.nvme_spec.specs.Reservation.{role_of}
use Rattle.nvme_spec.specs.Access.{is_permitted}
use Rattle.nvme_spec.specs.World.{World, Namespace, forbids_writing, host_of, namespace_of, is_attached}
use Rattle.nvme_spec.specs.Commands.{
  command_of,
  is_one_of,
  starting_lba,
  block_count,
  action,
  iekey,
  cptpl,
  rtype,
  eds,
  report_length,
  readers,
  writers,
  moving,
  altering,
  ranged,
  plan_of,
}
use Rattle.nvme_spec.specs.Rules.{Rule, Judgement, rule, test, first_failing}
use Rattle.nvme_spec.specs.Limits.{highest_nsid, most_blocks, most_bytes}
use Rattle.nvme_spec.specs.Statuses as status

-- 1: a Preempt and Abort has marked the command
unfoldable pub mark_rule : Bool → Rule
mark_rule marked = rule 1 marked status.command_aborted_due_to_preempt_and_abort

-- 2: the opcode is not one of the command set
unfoldable pub opcode_rule : {C : Type 0} → Option C → Rule
opcode_rule command = rule 2 (is_none command) status.invalid_command_opcode

-- 3: the command is fused, or its data pointer is not PRP entries
unfoldable pub form_rule : List ℕ → Rule
form_rule e = rule 3 (not (fuse e == 0) || not (psdt e == 0)) status.invalid_field_in_command

-- no namespace can have this identifier
abbrev pub is_no_nsid : ℕ → Bool
is_no_nsid n = (n == 0) || nat_lt highest_nsid n

-- 4: the identifier is not one of a namespace
unfoldable pub nsid_rule : ℕ → Rule
nsid_rule n = rule 4 (is_no_nsid n) status.invalid_namespace_or_format

-- 5: the identifier names no namespace that is attached to the controller
unfoldable pub attachment_rule : World → ℕ → ℕ → Rule
attachment_rule w cntlid n =
    rule 5 (not (is_some (namespace_of w n) && is_attached w cntlid n)) status.invalid_field_in_command

-- 6: a field has a value that the command does not take
unfoldable pub field_rule : Option Command → List ℕ → Rule
field_rule command e = record {
  number = 6;
  tests =
      test (is_one_of command moving && nat_lt most_blocks (block_count e)) status.invalid_field_in_command
      ∷ test (is_one_of command (ReservationRegister ∷ []) && (nat_lt 2 (action e) || (cptpl e == 1)))
      status.invalid_field_in_command
      ∷ test (is_one_of command (ReservationAcquire ∷ [])
      && (nat_lt 2 (action e) || iekey e || (rtype e == 0) || nat_lt 6 (rtype e)))
      status.invalid_field_in_command
      ∷ test (is_one_of command (ReservationRelease ∷ [])
      && (nat_lt 1 (action e) || iekey e)) status.invalid_field_in_command
      ∷ test (is_one_of command (ReservationReport ∷ [])
      && not (eds e)) status.host_identifier_inconsistent_format
      ∷ test (is_one_of command (ReservationReport ∷ [])
      && nat_lt most_bytes (report_length e)) status.invalid_field_in_command
      ∷ [];
}

-- the role of a controller's host for a namespace; a controller that isn't configured has no host
abbrev pub role_in : Namespace → Option ℕ → Role
role_in n None = Outsider
role_in n (Some host) = role_of n.reservation host

-- the reservation of the namespace permits this group to the host
abbrev pub permits_group : Option Namespace → Option ℕ → Group → Bool
permits_group None host group = true
permits_group (Some n) host group = is_permitted n.reservation.hold (role_in n host) group

-- 7: the reservation does not permit the command to the host
unfoldable pub reservation_rule : Option Command → Option Namespace → Option ℕ → Rule
reservation_rule command namespace host =
    rule 7 ((is_one_of command readers && not (permits_group namespace host Reading))
    || (is_one_of command writers && not (permits_group namespace host Writing))) status.reservation_conflict

abbrev pub is_protected : Option Namespace → Bool
is_protected None = false
is_protected (Some n) = forbids_writing n.protection

-- 8: the command would change a namespace that is write protected
unfoldable pub protection_rule : Option Command → Option Namespace → Rule
protection_rule command namespace =
    rule 8 (is_one_of command altering && is_protected namespace) status.namespace_is_write_protected

abbrev pub has_blocks_below : Option Namespace → ℕ → Bool
has_blocks_below None end = true
has_blocks_below (Some n) end = nat_le end n.blocks

-- 9: the range ends after the end of the namespace
unfoldable pub range_rule : Option Command → Option Namespace → List ℕ → Rule
range_rule command namespace e =
    rule 9 (is_one_of command ranged
    && not (has_blocks_below namespace (starting_lba e + block_count e))) status.lba_out_of_range

abbrev pub access_rules : World → ℕ → List ℕ → Bool → List Rule
access_rules w cntlid e marked =
    let command = command_of (opcode e) in
    let namespace = namespace_of w (nsid e) in
    mark_rule marked
    ∷ opcode_rule command
    ∷ form_rule e
    ∷ nsid_rule (nsid e)
    ∷ attachment_rule w cntlid (nsid e)
    ∷ field_rule command e
    ∷ reservation_rule command namespace (host_of w cntlid)
    ∷ protection_rule command namespace
    ∷ range_rule command namespace e
    ∷ []

-- the denial by the first rule that fails, else the plan of the command. If there is no command, rule 2 has failed
abbrev pub conclusion : Judgement → Option Command → List ℕ → Verdict
conclusion (Err denial) command e = Denied denial.rule denial.status
conclusion (Ok u) None e = Denied 2 status.invalid_command_opcode
conclusion (Ok u) (Some command) e = Allowed (plan_of command e)

-- a property of an allowed plan, and of a denial
abbrev pub IfAllowed : Verdict → (Plan → Type 0) → Type 0
IfAllowed (Allowed plan) P = P plan
IfAllowed (Denied number why) P = Unit {0}

abbrev pub IfDenied : Verdict → Type 0 → Type 0
IfDenied (Allowed plan) P = Unit {0}
IfDenied (Denied number why) P = P

-- the verdict of the rules on access on a command of a controller
unfoldable pub verdict : World → ℕ → List ℕ → Bool → Verdict
verdict w cntlid e marked = conclusion (first_failing (access_rules w cntlid e marked)) (command_of (opcode e)) e

-- the blocks of a plan are in the namespace that an entry names
abbrev pub FitsNamespace : World → ℕ → Plan → Type 0
FitsNamespace w n plan = IsSomeAnd (namespace_of w n) (λ (space : Namespace). plan.first + plan.blocks ≤ space.blocks)
