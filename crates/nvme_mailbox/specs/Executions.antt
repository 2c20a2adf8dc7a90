-- The execution of a fetched request, in the world as it is then. All rules judge it except that of the data pointer,
-- which passes: the data for the controller are the request's. The answer to an allowed I/O command depends on faults
-- of the medium; every other answer is a function.
use Rattle.std.specs.Prelude.{
  ◌≡◌,
  ℕ,
  Bool,
  true,
  false,
  if◌then◌else◌,
  List,
  [],
  ◌∷◌,
  ◌++◌,
  Option,
  None,
  Some,
  Ok,
  Err,
}
use Rattle.nvme_wire.specs.Submission.{submission_entry, opcode}
use Rattle.nvme_wire.specs.declared.sqe.fields.SqeFields.{SqeFields}
use Rattle.nvme_wire.specs.declared.status.Status.{Status}
use Rattle.nvme_spec.specs.declared.command.Command.{Command}
use Rattle.nvme_spec.specs.declared.command.AdminCommand.{AdminCommand}
use Rattle.nvme_spec.specs.declared.queues.Queues.{Queues}
use Rattle.nvme_spec.specs.declared.outcome.Outcome.{Outcome}
use Rattle.nvme_spec.specs.declared.verdict.Verdict.{Verdict}
use Rattle.nvme_spec.specs.declared.verdict.Verdict.TheVariants.{Allowed, Denied}
use Rattle.nvme_spec.specs.Blocks.{Device}
use Rattle.nvme_spec.specs.Reservation as resv
use Rattle.nvme_spec.specs.World.{World}
use Rattle.nvme_spec.specs.Commands as io_commands
use Rattle.nvme_spec.specs.AdminCommands as admin_commands
use Rattle.nvme_spec.specs.Rules.{Judgement, first_failing}
use Rattle.nvme_spec.specs.IoRules.{access_rules, conclusion}
use Rattle.nvme_spec.specs.IoData.{reservation_outcome, action_rule}
use Rattle.nvme_spec.specs.AdminRules.{admin_access_rules, list_rule}
use Rattle.nvme_spec.specs.AdminEffects.{double_word_0, data_out, world_after}
use Rattle.nvme_spec.specs.Execution.{Scene, scene, Performs, marks_of, no_marks, denial_outcome}
use Rattle.nvme_spec.specs.Statuses as status
use Rattle.nvme_driver.specs.declared.lane.Lane.{Lane}
use Rattle.nvme_driver.specs.declared.lane.Lane.TheVariants.{Admin, Io}
use Rattle.nvme_driver.specs.Requests.{Asked}
use Rattle.nvme_driver.specs.Polls.{is_success}
use Rattle.nvme_mailbox.specs.Mailboxes.{FetchedItem, lane_of}

-- What an execution may change besides its mailbox: the access state and the medium.
pub record Site : Type 0 where
  pub world : World
  pub device : Device

-- a `Site` as a scene of the definitions, without host memory
abbrev pub scene_at : Site → Scene
scene_at s = scene s.world [] s.device

-- The execution of a request: the outcome of its command, the data of the answer, and the state that is left.
pub record RequestExecution : Type 0 where
  pub outcome : Outcome
  pub bytes : List ℕ
  pub left : Site

-- the fields of a request's command that its rules and its effect read; its identifier and its data pointer do not
-- matter
abbrev pub command_fields : Asked → SqeFields
command_fields a = record {
  opcode = a.command.opcode;
  cid = 0;
  nsid = a.command.nsid;
  prp1 = 0;
  prp2 = 0;
  cdw10 = a.command.cdw10;
  cdw11 = a.command.cdw11;
  cdw12 = a.command.cdw12;
  cdw13 = 0;
  cdw14 = 0;
  cdw15 = 0;
}

unfoldable pub command_entry : Asked → List ℕ
command_entry a = submission_entry (command_fields a)

-- a command that was denied changes nothing
abbrev pub denied_request_execution : Site → ℕ → Status → RequestExecution
denied_request_execution s number why = record { outcome = denial_outcome number why; bytes = []; left = s }

-- an answer has data if the command succeeded
abbrev pub bytes_with : Status → List ℕ → List ℕ
bytes_with why returned = if is_success why then returned else []

-- Of the I/O lane.

-- the outcome of the command for the reservation of its namespace, if it acts on one
abbrev pub action_of : World → ℕ → Asked → Option resv.ActionOutcome
action_of w cntlid a = reservation_outcome w cntlid (command_entry a) a.sent

unfoldable pub io_judgement : World → ℕ → Asked → Bool → Judgement
io_judgement w cntlid a marked =
    first_failing (access_rules w cntlid (command_entry a) marked ++ action_rule (action_of w cntlid a) ∷ [])

abbrev pub io_verdict : World → ℕ → Asked → Bool → Verdict
io_verdict w cntlid a marked =
    conclusion (io_judgement w cntlid a marked) (io_commands.command_of (opcode (command_entry a))) (command_entry a)

-- an allowed command has had its effect in the world, by its own data
pub record IsServed (tells : Bool) (command : Command) (cntlid : ℕ) (a : Asked) (s : Site) (r : RequestExecution)
    : Type 0 where
  pub returned : List ℕ
  pub effect :
      Performs tells command cntlid (command_entry a) a.sent (scene_at s) (scene_at r.left) r.outcome.status returned
  pub dw0 : r.outcome.dw0 ≡ 0
  pub rule : r.outcome.rule ≡ 0
  pub marks : r.outcome.marks ≡ marks_of command (command_entry a) (action_of s.world cntlid a)
  pub data_back : r.bytes ≡ bytes_with r.outcome.status returned

abbrev pub IoRequestComesTo : Verdict → Bool → ℕ → Asked → Site → RequestExecution → Type 0
IoRequestComesTo (Denied number why) tells cntlid a s r = r ≡ denied_request_execution s number why
IoRequestComesTo (Allowed plan) tells cntlid a s r = IsServed tells plan.kind cntlid a s r

-- Of the admin lane.

-- the queues that exist while a driver is up: the admin pair, and one pair for I/O
abbrev pub queue_pairs : Queues
queue_pairs = record {
  cq = true ∷ true ∷ false ∷ false ∷ false ∷ [];
  sq = Some 0 ∷ Some 1 ∷ None ∷ None ∷ None ∷ [];
}

unfoldable pub admin_judgement : World → ℕ → Asked → Judgement
admin_judgement w cntlid a =
    let entry = command_entry a in
    first_failing
    (admin_access_rules w queue_pairs cntlid entry
    ++ list_rule (admin_commands.command_of (opcode entry)) w entry a.sent ∷ [])

abbrev pub admin_served : Site → ℕ → Asked → AdminCommand → RequestExecution
admin_served s cntlid a command = record {
  outcome = record {
    status = status.successful_completion;
    dw0 = double_word_0 s.world command (command_entry a);
    rule = 0;
    marks = no_marks;
  };
  bytes = data_out s.world cntlid command (command_entry a);
  left = record { world = world_after s.world command (command_entry a) a.sent; device = s.device };
}

abbrev pub admin_request_execution_by : Judgement → Option AdminCommand → Site → ℕ → Asked → RequestExecution
admin_request_execution_by (Err d) command s cntlid a = denied_request_execution s d.rule d.status
admin_request_execution_by (Ok u) None s cntlid a = denied_request_execution s 2 status.invalid_command_opcode
admin_request_execution_by (Ok u) (Some command) s cntlid a = admin_served s cntlid a command

unfoldable pub admin_request_execution : Site → ℕ → Asked → RequestExecution
admin_request_execution s cntlid a =
    admin_request_execution_by (admin_judgement s.world cntlid a)
    (admin_commands.command_of (opcode (command_entry a))) s cntlid a

-- the execution of a controller's fetched request, now
abbrev pub RequestComesToAs : Lane → Bool → ℕ → Asked → Bool → Site → RequestExecution → Type 0
RequestComesToAs Admin tells cntlid a marked s r = r ≡ admin_request_execution s cntlid a
RequestComesToAs Io tells cntlid a marked s r = IoRequestComesTo (io_verdict s.world cntlid a marked) tells cntlid a s r

unfoldable pub RequestComesTo : Bool → ℕ → FetchedItem → Site → RequestExecution → Type 0
RequestComesTo tells cntlid f s r = RequestComesToAs (lane_of f.item) tells cntlid f.item.asked f.marked s r
