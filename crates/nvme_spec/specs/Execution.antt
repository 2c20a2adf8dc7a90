-- The execution of one I/O command: whether it is allowed, its effect, and its answer (NVM Command Set Specification:
-- I/O commands; Base Specification: Reservations).
use Rattle.std.specs.Prelude.{
  ◌≡◌,
  ◌==◌,
  ℕ,
  ◌+◌,
  Bool,
  ◌&&◌,
  if◌then◌else◌,
  List,
  [],
  ◌∷◌,
  length,
  take,
  Option,
  None,
  Some,
  Ok,
  Err,
  IsTrue,
}
use Rattle.std.specs.List.{list_any, AllByRecursion}
use Rattle.nvme_wire.specs.Submission.{nsid}
use Rattle.nvme_wire.specs.declared.status.Status.{Status}
use Rattle.nvme_spec.specs.declared.command.Command.{Command}
use Rattle.nvme_spec.specs.declared.command.Command.TheVariants.{ReservationReport, ReservationAcquire}
use Rattle.nvme_spec.specs.declared.command.CommandKind.{CommandKind}
use Rattle.nvme_spec.specs.declared.command.CommandKind.TheVariants.{OnBlocks, OnReservation, OnReport}
use Rattle.nvme_spec.specs.declared.outcome.Marks.{Marks}
use Rattle.nvme_spec.specs.declared.outcome.Outcome.{Outcome}
use Rattle.nvme_spec.specs.declared.verdict.Verdict.{Verdict}
use Rattle.nvme_spec.specs.declared.verdict.Verdict.TheVariants.{Allowed, Denied}
use Rattle.nvme_spec.specs.Blocks.{Device}
use Rattle.nvme_spec.specs.Reservation as resv
use Rattle.nvme_spec.specs.Report.{ControllerHost, report_data}
use Rattle.nvme_spec.specs.World.{World, Namespace, namespace_of, with_reservation}
use Rattle.nvme_spec.specs.Commands.{starting_lba, block_count, data_length, kind_of, is_one_of, action}
use Rattle.nvme_spec.specs.Transfers.{with_scattered}
use Rattle.nvme_spec.specs.BlockCommands.{BlockEffect}
use Rattle.nvme_spec.specs.DataRules.{data_addresses}
use Rattle.nvme_spec.specs.IoData.{data_of, reservation_outcome, io_verdict}
use Rattle.nvme_spec.specs.Statuses as status

-- What a command may change: the access state, its host's memory, and the medium.
pub record Scene : Type 0 where
  pub world : World
  pub window : List ℕ
  pub device : Device

-- the same, by its parts
abbrev pub scene : World → List ℕ → Device → Scene
scene w memory medium = record { world = w; window = memory; device = medium }

-- the first block of a namespace on the medium. The rules refuse a command that names none
abbrev pub start_of : Option Namespace → ℕ
start_of None = 0
start_of (Some n) = n.first

-- the first block of a command, on the medium
abbrev pub medium_block : World → List ℕ → ℕ
medium_block w e = start_of (namespace_of w (nsid e)) + starting_lba e

-- the world after an action on the reservation of a namespace
abbrev pub world_after : World → ℕ → Option resv.ActionOutcome → World
world_after w n None = w
world_after w n (Some (Err refusal)) = w
world_after w n (Some (Ok transition)) = with_reservation w n transition.next

-- a namespace's report of this length. The rules refuse a command that names none
abbrev pub report_of : Option Namespace → List ControllerHost → ℕ → List ℕ
report_of None controllers size = []
report_of (Some n) controllers size = report_data n.reservation controllers size

-- A command on blocks changes only the medium.
pub record ActsOnBlocks (tells : Bool) (command : Command) (e sent : List ℕ) (old new : Scene) (answer : Status)
    (returned : List ℕ) : Type 0 where
  pub world : new.world ≡ old.world
  pub effect : BlockEffect tells command (medium_block old.world e) (block_count e) sent old.device new.device
      answer returned

-- A reservation command changes only the reservation of its namespace.
pub record ActsOnReservation (cntlid : ℕ) (e sent : List ℕ) (old new : Scene) (answer : Status)
    (returned : List ℕ) : Type 0 where
  pub answered : answer ≡ status.successful_completion
  pub world : new.world ≡ world_after old.world (nsid e) (reservation_outcome old.world cntlid e sent)
  pub device : new.device ≡ old.device
  pub data_back : returned ≡ []

-- A report changes nothing.
pub record Reports (e : List ℕ) (old new : Scene) (answer : Status) (returned : List ℕ) : Type 0 where
  pub answered : answer ≡ status.successful_completion
  pub world : new.world ≡ old.world
  pub device : new.device ≡ old.device
  pub data_back : returned
      ≡ report_of (namespace_of old.world (nsid e)) old.world.controllers (data_length ReservationReport e)

abbrev pub PerformsAs : CommandKind → Bool → Command → ℕ → List ℕ → List ℕ → Scene → Scene → Status → List ℕ → Type 0
PerformsAs OnBlocks tells command cntlid e sent old new answer returned =
    ActsOnBlocks tells command e sent old new answer returned
PerformsAs OnReservation tells command cntlid e sent old new answer returned =
    ActsOnReservation cntlid e sent old new answer returned
PerformsAs OnReport tells command cntlid e sent old new answer returned = Reports e old new answer returned

-- The effect of an allowed command of a controller on the access state and the medium, by the data from its host; its
-- status; and the data for the host.
abbrev pub Performs : Bool → Command → ℕ → List ℕ → List ℕ → Scene → Scene → Status → List ℕ → Type 0
Performs tells command cntlid e sent old new answer returned =
    PerformsAs (kind_of command) tells command cntlid e sent old new answer returned

abbrev pub no_marks : Marks
no_marks = record { nsid = 0; hosts = record { items = [] } }

-- Preempt and Abort is the action 2 of Reservation Acquire
abbrev pub is_preempt_and_abort : Command → List ℕ → Bool
is_preempt_and_abort command e = is_one_of (Some command) (ReservationAcquire ∷ []) && action e == 2

-- the fetched commands of these hosts on a namespace have to be marked
abbrev pub marks_on : ℕ → List ℕ → Marks
marks_on n [] = no_marks
marks_on n (host ∷ rest) = record { nsid = n; hosts = record { items = host ∷ rest } }

-- the hosts that an action removed
abbrev pub removed_by : Option resv.ActionOutcome → List ℕ
removed_by None = []
removed_by (Some (Err refusal)) = []
removed_by (Some (Ok transition)) = transition.removed

-- a Preempt and Abort marks the fetched commands of the hosts that it removed; other commands mark nothing
abbrev pub marks_for : Command → List ℕ → List ℕ → Marks
marks_for command e removed = if is_preempt_and_abort command e then marks_on (nsid e) removed else no_marks

abbrev pub marks_of : Command → List ℕ → Option resv.ActionOutcome → Marks
marks_of command e outcome = marks_for command e (removed_by outcome)

-- a denied command is answered with the rule and its status
abbrev pub denial_outcome : ℕ → Status → Outcome
denial_outcome number why = record { status = why; dw0 = 0; rule = number; marks = no_marks }

-- An allowed command is performed. Then its data are in host memory, the first byte at the first address, and no other
-- byte of it has changed.
pub record IsPerformed (tells : Bool) (command : Command) (cntlid : ℕ) (e : List ℕ) (old new : Scene)
    (outcome : Outcome) : Type 0 where
  pub returned : List ℕ
  pub effect : Performs tells command cntlid e (data_of old.window e) old new outcome.status returned
  pub window : new.window
      ≡ with_scattered old.window (take (length returned) (data_addresses (data_length command e) old.window e))
      returned
  pub dw0 : outcome.dw0 ≡ 0
  pub rule : outcome.rule ≡ 0
  pub marks : outcome.marks ≡ marks_of command e (reservation_outcome old.world cntlid e (data_of old.window e))

-- by the verdict of the rules: a denied command changes nothing
abbrev pub ExecutesBy : Verdict → Bool → ℕ → List ℕ → Scene → Scene → Outcome → Type 0
ExecutesBy (Denied number why) tells cntlid e old new outcome = (new ≡ old) × (outcome ≡ denial_outcome number why)
ExecutesBy (Allowed plan) tells cntlid e old new outcome = IsPerformed tells plan.kind cntlid e old new outcome

-- an I/O command of a controller is executed, marked or not
abbrev pub Executes : Bool → ℕ → List ℕ → Bool → Scene → Scene → Outcome → Type 0
Executes tells cntlid e marked old new outcome =
    ExecutesBy (io_verdict old.world cntlid e marked old.window) tells cntlid e old new outcome

-- every registrant of every namespace is the host of a controller
abbrev pub HasKnownRegistrants : World → Type 0
HasKnownRegistrants w =
    AllByRecursion (λ (n : Namespace).
    AllByRecursion (λ r. IsTrue (list_any (λ (k : ControllerHost). r.host == k.1) w.controllers))
    n.reservation.registrants) w.namespaces
