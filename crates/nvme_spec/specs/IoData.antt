-- The rules on the data of an I/O command, after those on access: its data pointer, and the keys of a reservation
-- command (Base Specification: Reservation Register, Acquire, Release, and their data structures).
use Rattle.std.specs.Prelude.{ℕ, ◌==◌, Bool, if◌then◌else◌, List, [], ◌∷◌, ◌++◌, Option, None, Some}
use Rattle.nvme_wire.specs.Submission.{opcode, nsid}
use Rattle.nvme_spec.specs.declared.command.Command.{Command}
use Rattle.nvme_spec.specs.declared.command.Command.TheVariants.{
  ReservationRegister,
  ReservationAcquire,
  ReservationRelease,
}
use Rattle.nvme_spec.specs.declared.verdict.Verdict.{Verdict}
use Rattle.nvme_spec.specs.Memory.{qword}
use Rattle.nvme_spec.specs.Reservation as resv
use Rattle.nvme_spec.specs.World.{World, Namespace, host_of, namespace_of}
use Rattle.nvme_spec.specs.Commands.{command_of, data_length_of, action, iekey, cptpl, rtype}
use Rattle.nvme_spec.specs.Rules.{Rule, Test, Judgement, refusal_tests, first_failing}
use Rattle.nvme_spec.specs.IoRules.{access_rules, conclusion}
use Rattle.nvme_spec.specs.DataRules.{data_in, pointer_rule}

-- The data of a reservation command are two keys: the current one (CRKEY), and the one to register (NRKEY) or preempt
-- (PRKEY).
abbrev pub current_key : List ℕ → ℕ
current_key keys = qword keys 0

abbrev pub other_key : List ℕ → ℕ
other_key keys = qword keys 8

-- the outcome of a Reservation Register for the key of a host, by its action
abbrev pub key_outcome : resv.Reservation → ℕ → List ℕ → List ℕ → resv.ActionOutcome
key_outcome r host e keys =
    if action e == 0 then resv.register r host (other_key keys)
    else (if action e == 1 then resv.unregister r host (iekey e) (current_key keys)
    else resv.replace r host (iekey e) (current_key keys) (other_key keys))

-- the outcome of a host's reservation command, by its keys; other commands have none
unfoldable pub action_outcome : Command → resv.Reservation → ℕ → List ℕ → List ℕ → Option resv.ActionOutcome
action_outcome ReservationRegister r host e keys =
    Some (resv.persisting (cptpl e) (key_outcome r host e keys))
action_outcome ReservationAcquire r host e keys = Some (
    if action e == 0 then resv.acquire r host (rtype e) (current_key keys)
    else resv.preempt r host (rtype e) (current_key keys) (other_key keys))
action_outcome ReservationRelease r host e keys = Some (
    if action e == 0 then resv.release r host (rtype e) (current_key keys)
    else resv.clear r host (current_key keys))
action_outcome command r host e keys = None

-- the outcome of a command for the reservation of the namespace that it names, and for its host
abbrev pub outcome_in : Option Command → Option Namespace → Option ℕ → List ℕ → List ℕ → Option resv.ActionOutcome
outcome_in (Some command) (Some n) (Some host) e keys = action_outcome command n.reservation host e keys
outcome_in (Some command) (Some n) None e keys = None
outcome_in (Some command) None host e keys = None
outcome_in None n host e keys = None

-- the same for a command of a controller, by the data in its host's memory
unfoldable pub reservation_outcome : World → ℕ → List ℕ → List ℕ → Option resv.ActionOutcome
reservation_outcome w cntlid e brought =
    outcome_in (command_of (opcode e)) (namespace_of w (nsid e)) (host_of w cntlid) e brought

abbrev pub outcome_tests : Option resv.ActionOutcome → List Test
outcome_tests None = []
outcome_tests (Some outcome) = refusal_tests outcome

-- 11: the reservation refuses the action
unfoldable pub action_rule : Option resv.ActionOutcome → Rule
action_rule outcome = record { number = 11; tests = outcome_tests outcome }

-- the data of a command in its host's memory
abbrev pub data_of : List ℕ → List ℕ → List ℕ
data_of window e = data_in (data_length_of (command_of (opcode e)) e) window e

-- all rules for an I/O command, in order
abbrev pub io_rules : World → ℕ → List ℕ → Bool → List ℕ → List Rule
io_rules w cntlid e marked window =
    access_rules w cntlid e marked
    ++ pointer_rule (data_length_of (command_of (opcode e)) e) window e
    ∷ action_rule (reservation_outcome w cntlid e (data_of window e))
    ∷ []

unfoldable pub io_judgement : World → ℕ → List ℕ → Bool → List ℕ → Judgement
io_judgement w cntlid e marked window = first_failing (io_rules w cntlid e marked window)

-- the verdict of all rules on an I/O command of a controller, by its host's memory
abbrev pub io_verdict : World → ℕ → List ℕ → Bool → List ℕ → Verdict
io_verdict w cntlid e marked window = conclusion (io_judgement w cntlid e marked window) (command_of (opcode e)) e
