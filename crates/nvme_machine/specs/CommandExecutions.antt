-- The answer of a fetched command at its controller, in the world as it is then. It is determined for an admin command
-- and a denied one; for an allowed I/O command it depends on faults of the medium.
use Rattle.std.specs.Prelude.{◌≡◌, ◌==◌, ℕ, Bool, true, false, if◌then◌else◌}
use Rattle.nvme_spec.specs.declared.outcome.Outcome.{Outcome}
use Rattle.nvme_spec.specs.declared.queues.Queues.{Queues}
use Rattle.nvme_spec.specs.declared.queues.QueueChange.{QueueChange}
use Rattle.nvme_spec.specs.declared.queues.QueueChange.TheVariants.{Keep}
use Rattle.nvme_spec.specs.declared.verdict.Denial.{Denial}
use Rattle.nvme_spec.specs.Rules.{Judgement}
use Rattle.nvme_spec.specs.IoData.{io_judgement}
use Rattle.nvme_spec.specs.Execution.{Scene, Executes, no_marks, denial_outcome}
use Rattle.nvme_spec.specs.AdminRules.{admin_judgement}
use Rattle.nvme_spec.specs.AdminEffects.{AdminExecution, admin_execution}
use Rattle.nvme_machine.specs.declared.fetched.FetchedCommand.{FetchedCommand}

-- The answer of an executed command: its outcome, the change of the queues, and the state that it leaves.
pub record CommandExecution : Type 0 where
  pub outcome : Outcome
  pub change : QueueChange
  pub left : Scene

-- the answer of an admin command
abbrev pub admin_command_execution : Scene → AdminExecution → CommandExecution
admin_command_execution s x = record {
  outcome = record { status = x.status; dw0 = x.dw0; rule = x.rule; marks = no_marks };
  change = x.change;
  left = record { world = x.world; window = x.window; device = s.device };
}

-- an I/O command changes no queue
abbrev pub IoCommandComesTo : Bool → ℕ → FetchedCommand → Scene → CommandExecution → Type 0
IoCommandComesTo tells cntlid t s a = (a.change ≡ Keep) × Executes tells cntlid t.entry t.marked s a.left a.outcome

-- by whether it came from the admin queue
abbrev pub CommandComesToAs : Bool → Bool → Queues → ℕ → FetchedCommand → Scene → CommandExecution → Type 0
CommandComesToAs true tells queues cntlid t s a =
    a ≡ admin_command_execution s (admin_execution s.world queues cntlid t.entry s.window)
CommandComesToAs false tells queues cntlid t s a = IoCommandComesTo tells cntlid t s a

-- the answer of a fetched command of a controller that is executed now
unfoldable pub CommandComesTo : Bool → Queues → ℕ → FetchedCommand → Scene → CommandExecution → Type 0
CommandComesTo tells queues cntlid t s a = CommandComesToAs (t.queue == 0) tells queues cntlid t s a

-- the verdict of the rules on it now
unfoldable pub judgement : Queues → ℕ → FetchedCommand → Scene → Judgement
judgement queues cntlid t s =
    if t.queue == 0
    then admin_judgement s.world queues cntlid t.entry s.window
    else io_judgement s.world cntlid t.entry t.marked s.window

-- the answer of a denied command
abbrev pub denied_command_execution : Scene → Denial → CommandExecution
denied_command_execution s d = record { outcome = denial_outcome d.rule d.status; change = Keep; left = s }
