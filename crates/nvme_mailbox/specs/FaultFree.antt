-- Steps and runs without faults of the medium, as functions: the replies to a list of events, and the fleet after it.
use Rattle.std.specs.Prelude.{ℕ, Bool, List, [], ◌∷◌, Option, None, Some, slice_get}
use Rattle.nvme_spec.specs.declared.command.Command.{Command}
use Rattle.nvme_spec.specs.declared.verdict.Verdict.{Verdict}
use Rattle.nvme_spec.specs.declared.verdict.Verdict.TheVariants.{Allowed, Denied}
use Rattle.nvme_spec.specs.Commands.{kind_of}
use Rattle.nvme_spec.specs.Execution.{marks_of}
use Rattle.nvme_spec.specs.FaultFree.{Performance, performance_as}
use Rattle.nvme_driver.specs.declared.lane.Lane.{Lane}
use Rattle.nvme_driver.specs.declared.lane.Lane.TheVariants.{Admin, Io}
use Rattle.nvme_driver.specs.Requests.{Asked}
use Rattle.nvme_machine.specs.declared.fetched.FetchedCommand.{FetchedCommand}
use Rattle.nvme_machine.specs.declared.seen.Executed.{Executed}
use Rattle.nvme_machine.specs.declared.seen.Executed.TheVariants.{Posted, NoSuch, CqFull}
use Rattle.nvme_machine.specs.Controllers.{QueuePair, queues_of, open_pair}
use Rattle.nvme_machine.specs.Subsystems.{after_completion}
use Rattle.nvme_machine.specs.Executing.{Setting, setting, scene_in}
use Rattle.nvme_machine.specs.CommandExecutions.{CommandExecution}
use Rattle.nvme_machine.specs.FaultFree.{fault_free_command_execution}
use Rattle.nvme_event.specs.declared.event.FleetEvent.{FleetEvent}
use Rattle.nvme_event.specs.declared.event.FleetEvent.TheVariants.{
  BringUp,
  Place,
  Ring,
  Fetch,
  Execute,
  Poll,
  Reset,
  RawStore,
  RawWrite32,
  PowerCycle,
}
use Rattle.nvme_event.specs.declared.seen.FleetSeen.TheVariants.{Executed as ExecutedSeen, NoController, Cycled}
use Rattle.nvme_event.specs.Replies.{Reply}
use Rattle.nvme_mailbox.specs.Mailboxes.{FetchedItem, Mailbox, lane_of}
use Rattle.nvme_mailbox.specs.Deliveries.{plain, brought_up, placed, rung, polled, reset}
use Rattle.nvme_mailbox.specs.Executions.{
  Site,
  RequestExecution,
  scene_at,
  command_entry,
  denied_request_execution,
  bytes_with,
  action_of,
  io_verdict,
  admin_request_execution,
}
use Rattle.nvme_mailbox.specs.Fleets.{
  Host,
  WithDriver,
  Raw,
  Fleet,
  Moment,
  moment,
  host_at,
  called,
  raw_stored,
  raw_wrote,
  fetched_at,
  after_execution,
  setting_of,
  after_raw,
  power_cycled,
}

-- an allowed I/O command, by its definitions
abbrev pub served : Command → ℕ → Asked → Site → Performance → RequestExecution
served command cntlid a s p = record {
  outcome = record {
    status = p.status;
    dw0 = 0;
    rule = 0;
    marks = marks_of command (command_entry a) (action_of s.world cntlid a);
  };
  bytes = bytes_with p.status p.returned;
  left = record { world = p.world; device = record { content = p.content; failures = s.device.failures } };
}

abbrev pub performance_of : Command → ℕ → Asked → Site → Performance
performance_of command cntlid a s = performance_as (kind_of command) command cntlid (command_entry a) a.sent
    (scene_at s)

abbrev pub io_request_execution : Verdict → ℕ → Asked → Site → RequestExecution
io_request_execution (Denied number why) cntlid a s = denied_request_execution s number why
io_request_execution (Allowed plan) cntlid a s = served plan.kind cntlid a s (performance_of plan.kind cntlid a s)

abbrev pub request_execution_as : Lane → ℕ → Asked → Bool → Site → RequestExecution
request_execution_as Admin cntlid a marked s = admin_request_execution s cntlid a
request_execution_as Io cntlid a marked s = io_request_execution (io_verdict s.world cntlid a marked) cntlid a s

unfoldable pub request_execution : ℕ → FetchedItem → Site → RequestExecution
request_execution cntlid f s = request_execution_as (lane_of f.item) cntlid f.item.asked f.marked s

abbrev pub answered : Fleet → ℕ → Mailbox → ℕ → FetchedItem → RequestExecution → Moment
answered f k m i x r =
    record { fleet = after_execution f k m i x r; reply = plain (ExecutedSeen (Posted r.outcome)) }

abbrev pub executing_item : Option FetchedItem → Fleet → ℕ → Mailbox → ℕ → Moment
executing_item None f k m i = moment f (ExecutedSeen NoSuch)
executing_item (Some x) f k m i = answered f k m i x (request_execution k x f.site)

-- the result of an execution of a raw host's controller, and the state that it leaves
pub record RawExecution : Type 0 where
  pub executed : Executed
  pub left : Setting

abbrev pub raw_answered : ℕ → FetchedCommand → QueuePair → Setting → CommandExecution → RawExecution
raw_answered i t p s a = record {
  executed = Posted a.outcome;
  left = setting (after_completion i t p a s.controller) a.left.world a.left.device;
}

abbrev pub raw_over : Option QueuePair → ℕ → FetchedCommand → Setting → RawExecution
raw_over None i t s = record { executed = CqFull; left = s }
raw_over (Some p) i t s =
    raw_answered i t p s (fault_free_command_execution (queues_of s.controller) s.controller.cntlid t (scene_in s))

abbrev pub raw_one : Option FetchedCommand → ℕ → Setting → RawExecution
raw_one None i s = record { executed = NoSuch; left = s }
raw_one (Some t) i s = raw_over (open_pair s.controller t) i t s

abbrev pub raw_execution : ℕ → Setting → RawExecution
raw_execution i s = raw_one (slice_get s.controller.fetched i) i s

abbrev pub raw_executed : Fleet → ℕ → RawExecution → Moment
raw_executed f k x = record { fleet = after_raw f k x.executed x.left; reply = plain (ExecutedSeen x.executed) }

abbrev pub executing : Option Host → Fleet → ℕ → ℕ → Moment
executing None f k i = moment f NoController
executing (Some (WithDriver m)) f k i = executing_item (slice_get m.fetched i) f k m i
executing (Some (Raw c)) f k i = raw_executed f k (raw_execution i (setting_of f c))

abbrev pub fault_free_step : Fleet → FleetEvent → Moment
fault_free_step f (BringUp k) = called f k brought_up
fault_free_step f (Place k request) = called f k (λ m. placed m request)
fault_free_step f (Ring k) = called f k rung
fault_free_step f (Fetch k q) = fetched_at (host_at f k) f k q
fault_free_step f (Execute k i) = executing (host_at f k) f k i
fault_free_step f (Poll k) = called f k polled
fault_free_step f (Reset k) = called f k reset
fault_free_step f (RawStore k address bytes) = raw_stored f k address bytes.now
fault_free_step f (RawWrite32 k offset v) = raw_wrote f k offset v
fault_free_step f PowerCycle = moment (power_cycled f) Cycled

-- the replies to the events, in order
abbrev pub fault_free_replies : Fleet → List FleetEvent → List Reply
fault_free_replies f [] = []
fault_free_replies f (event ∷ events) =
    (fault_free_step f event).reply ∷ fault_free_replies (fault_free_step f event).fleet events

-- the fleet after them
abbrev pub fault_free_left : Fleet → List FleetEvent → Fleet
fault_free_left f [] = f
fault_free_left f (event ∷ events) = fault_free_left (fault_free_step f event).fleet events
