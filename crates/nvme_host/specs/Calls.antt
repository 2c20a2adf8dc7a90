-- The effect of each call on what a handle owns: it is the call of the driver of that name, over the port that records
-- its calls, or it is refused and nothing changes.
use Rattle.std.specs.Prelude.{
  ◌≡◌,
  ◌≤◌,
  ◌<◌,
  ℕ,
  ◌==◌,
  ◌&&◌,
  nat_lt,
  Bool,
  true,
  false,
  if◌then◌else◌,
  List,
  [],
  ◌∷◌,
  length,
  take,
  drop,
  Option,
  Some,
  None,
  Result,
  Ok,
  Err,
  OnOk,
  OnErr,
  IfOk,
  IfErr,
  replicate,
}
use Rattle.std.specs.List.{list_any}
use Rattle.nvme_device.specs.declared.capabilities.Capabilities.{Capabilities}
use Rattle.nvme_device.specs.declared.capabilities.CapabilityFault.{CapabilityFault}
use Rattle.nvme_device.specs.declared.status.Awaited.{Awaited}
use Rattle.nvme_device.specs.declared.status.Awaited.TheVariants.{Ready}
use Rattle.nvme_device.specs.declared.status.Progress.{Progress}
use Rattle.nvme_device.specs.declared.status.Progress.TheVariants.{Reached}
use Rattle.nvme_device.specs.Capabilities.{judged_capabilities}
use Rattle.nvme_device.specs.Status.{progress_of}
use Rattle.nvme_driver.specs.declared.answer.Answer.{Answer}
use Rattle.nvme_driver.specs.declared.faults.PollFault.{PollFault}
use Rattle.nvme_driver.specs.declared.faults.PlaceRefusal.{PlaceRefusal}
use Rattle.nvme_driver.specs.declared.faults.UpFault.{UpFault}
use Rattle.nvme_driver.specs.declared.faults.UpFault.TheVariants.{AlreadyUp}
use Rattle.nvme_driver.specs.declared.request.Request.{Request}
use Rattle.nvme_driver.specs.declared.request.Request.TheVariants.{Identify}
use Rattle.nvme_driver.specs.declared.slots.Waiting.{Waiting}
use Rattle.nvme_driver.specs.declared.ticket.Ticket.{Ticket}
use Rattle.nvme_driver.specs.Calls.{Writes, Calls}
use Rattle.nvme_driver.specs.Drivers.{
  new_driver,
  is_up,
  is_down,
  cc,
  ring_calls,
  reset_calls,
  after_reset,
  place_refusal,
  IsPlaced,
  HoldsItsRequest,
}
use Rattle.nvme_driver.specs.HostCommands.{command_refusal, IsCommandPlaced, HoldsItsCommand}
use Rattle.nvme_driver.specs.Requests.{Asked}
use Rattle.nvme_driver.specs.Polls.{IsPolledOver, handed_len}
use Rattle.nvme_driver.specs.Rises.{Rises as RisesOver}
use Rattle.nvme_host.specs.declared.devices.Limits.{Limits}
use Rattle.nvme_host.specs.declared.outcome.Outcome.{Outcome}
use Rattle.nvme_host.specs.declared.outcome.Placed.{Placed}
use Rattle.nvme_host.specs.declared.open_driver.OpenDriver.{OpenDriver}
use Rattle.nvme_host.specs.declared.recording_port.Action.{Action}
use Rattle.nvme_host.specs.declared.recording_port.RecordingPort.{RecordingPort}
use Rattle.nvme_host.specs.declared.recording_port.Report.{Report}
use Rattle.nvme_host.specs.declared.recording_port.Need.{Need}
use Rattle.nvme_host.specs.declared.recording_port.Need.TheVariants.{Nothing, Status, Completion}
use Rattle.nvme_host.specs.declared.stage.Stage.{Stage}
use Rattle.nvme_host.specs.declared.stage.Stage.TheVariants as at
use Rattle.nvme_host.specs.Outcomes.{with_code, outcome_of, bring_up_outcome, refused, placed_of}
use Rattle.nvme_host.specs.Devices.{limits_of}
use Rattle.nvme_host.specs.Refusals.{blocked_by, stopped_by, bring_up_refusal}
use Rattle.nvme_host.specs.Facts.{no_facts, learned, with_command, with_question}
use Rattle.nvme_host.specs.Recording.{
  Records,
  IsSamePort,
  new_port,
  with_actions,
  with_reports,
  more_reports,
  without_reports,
  rewound,
  left_out,
}
use Rattle.nvme_host.specs.Stages.{awaited_in, after_progress, progress_code}

-- a driver that is down, of whose device nothing is known
pub record IsNew (bytes : List ℕ) (first : ℕ) (h : OpenDriver) : Type 0 where
  pub driver : h.driver ≡ new_driver first
  pub port : IsSamePort (new_port bytes) h.port
  pub stage : h.stage ≡ at.Unknown
  pub capabilities : h.capabilities ≡ None
  pub facts : h.facts ≡ no_facts

-- A poll of the driver, over the bytes of its own window. It learns from the answer to a question.
pub record Polled (old : OpenDriver) (before : List ℕ) (outcome : Outcome) (new : OpenDriver)
    (buffer : List ℕ) : Type 0 where
  pub answer : Result (Option Answer) PollFault
  pub gives : outcome ≡ outcome_of answer
  pub polled : IsPolledOver Records old.driver old.port.window old.port answer new.driver new.port buffer
  pub behind : drop (handed_len answer) buffer ≡ drop (handed_len answer) before
  pub facts : new.facts ≡ learned old.facts outcome buffer
  pub stage : new.stage ≡ old.stage
  pub capabilities : new.capabilities ≡ old.capabilities

abbrev pub PollingUnless : Option ℕ → OpenDriver → List ℕ → Outcome → OpenDriver → List ℕ → Type 0
PollingUnless (Some code) old before outcome new buffer = (outcome ≡ with_code code) × (new ≡ old) × (buffer ≡ before)
PollingUnless None old before outcome new buffer = Polled old before outcome new buffer

abbrev pub Polling : OpenDriver → List ℕ → Outcome → OpenDriver → List ℕ → Type 0
Polling old before outcome new buffer = PollingUnless (blocked_by old) old before outcome new buffer

-- a placing by the driver, unless there is a reason against it
pub record PlacedBy (old : OpenDriver) (request : Request) (outcome : Placed) (new : OpenDriver) : Type 0 where
  pub result : Result Ticket PlaceRefusal
  pub gives : outcome ≡ placed_of result
  pub refused : IfErr result (λ refusal. place_refusal old.driver request ≡ Some refusal)
  pub unchanged : OnErr result ((new.driver ≡ old.driver) × (new.port ≡ old.port))
  pub issued : IfOk result (λ ticket. (place_refusal old.driver request ≡ None)
      × (ticket ≡ record { 0 = old.driver.next }))
  pub placed : OnOk result (IsPlaced Records old.driver request old.port new.driver new.port)
  pub holds : OnOk result (HoldsItsRequest old.driver old.port.window new.port.window request)
  pub stage : new.stage ≡ old.stage
  pub capabilities : new.capabilities ≡ old.capabilities
  pub facts : new.facts ≡ old.facts

abbrev pub Placing : Option ℕ → OpenDriver → Request → Placed → OpenDriver → Type 0
Placing (Some code) old request outcome new = (outcome ≡ refused code) × (new ≡ old)
Placing None old request outcome new = PlacedBy old request outcome new

-- A command that is no request is placed by the driver, unless there is a reason against it. `identifies` if it sets
-- the identifier of this host.
pub record PlacedCommandBy (old : OpenDriver) (identifies : Bool) (a : Asked) (outcome : Placed)
    (new : OpenDriver) : Type 0 where
  pub result : Result Ticket PlaceRefusal
  pub gives : outcome ≡ placed_of result
  pub refused : IfErr result (λ refusal. command_refusal old.driver a ≡ Some refusal)
  pub unchanged : OnErr result ((new.driver ≡ old.driver) × (new.port ≡ old.port))
  pub issued : IfOk result (λ given. (command_refusal old.driver a ≡ None) × (given ≡ record { 0 = old.driver.next }))
  pub placed : OnOk result (IsCommandPlaced Records old.driver a old.port new.driver new.port)
  pub holds : OnOk result (HoldsItsCommand old.driver old.port.window new.port.window a)
  pub stage : new.stage ≡ old.stage
  pub capabilities : new.capabilities ≡ old.capabilities
  pub facts : new.facts ≡ with_command old.facts identifies outcome

abbrev pub Commanding : Option ℕ → OpenDriver → Bool → Asked → Placed → OpenDriver → Type 0
Commanding (Some code) old identifies a outcome new = (outcome ≡ refused code) × (new ≡ old)
Commanding None old identifies a outcome new = PlacedCommandBy old identifies a outcome new

-- A question is placed: about the controller, 0, or about a namespace.
abbrev pub question : ℕ → Request
question nsid = Identify (if nsid == 0 then 1 else 0) nsid

pub record AskedOf (old : OpenDriver) (nsid : ℕ) (outcome : Placed) (new : OpenDriver) : Type 0 where
  pub mid : OpenDriver
  pub placed : Placing (stopped_by old) old (question nsid) outcome mid
  pub driver : new.driver ≡ mid.driver
  pub port : new.port ≡ mid.port
  pub stage : new.stage ≡ mid.stage
  pub capabilities : new.capabilities ≡ mid.capabilities
  pub facts : new.facts ≡ with_question mid.facts outcome nsid

abbrev pub AskingIf : Bool → OpenDriver → ℕ → Placed → OpenDriver → Type 0
AskingIf true old nsid outcome new = (outcome ≡ refused 64) × (new ≡ old)
AskingIf false old nsid outcome new = AskedOf old nsid outcome new

abbrev pub Asking : OpenDriver → ℕ → Placed → OpenDriver → Type 0
Asking old nsid outcome new = AskingIf (nat_lt 64 nsid) old nsid outcome new

-- a ringing
pub record Rung (old : OpenDriver) (code : ℕ) (new : OpenDriver) : Type 0 where
  pub gives : code ≡ (if is_up old.driver.state then 0 else 26)
  pub driver : new.driver ≡ old.driver
  pub calls : Calls Records old.port (ring_calls old.driver) new.port
  pub stage : new.stage ≡ old.stage
  pub capabilities : new.capabilities ≡ old.capabilities
  pub facts : new.facts ≡ old.facts

abbrev pub RingingUnless : Option ℕ → OpenDriver → ℕ → OpenDriver → Type 0
RingingUnless (Some reason) old code new = (code ≡ reason) × (new ≡ old)
RingingUnless None old code new = Rung old code new

abbrev pub Ringing : OpenDriver → ℕ → OpenDriver → Type 0
Ringing old code new = RingingUnless (stopped_by old) old code new

-- a reset: nothing is known any more, and the controller must be seen disabled
pub record Reset (old : OpenDriver) (code : ℕ) (new : OpenDriver) : Type 0 where
  pub gives : code ≡ 0
  pub driver : new.driver ≡ after_reset old.driver
  pub mid : RecordingPort
  pub calls : Calls Records old.port reset_calls mid
  pub port : IsSamePort (without_reports mid) new.port
  pub stage : new.stage ≡ at.Disabling
  pub capabilities : new.capabilities ≡ old.capabilities
  pub facts : new.facts ≡ no_facts

abbrev pub ResettingUnless : Option ℕ → OpenDriver → ℕ → OpenDriver → Type 0
ResettingUnless (Some reason) old code new = (code ≡ reason) × (new ≡ old)
ResettingUnless None old code new = Reset old code new

abbrev pub Resetting : OpenDriver → ℕ → OpenDriver → Type 0
Resetting old code new = ResettingUnless (blocked_by old) old code new

-- a shutdown: SHN is 01b
abbrev pub shutting_down : ℕ
shutting_down = 0x464001

pub record Shut (old : OpenDriver) (code : ℕ) (new : OpenDriver) : Type 0 where
  pub gives : code ≡ 0
  pub driver : new.driver ≡ old.driver
  pub calls : Calls Records old.port (Writes cc shutting_down ∷ []) new.port
  pub stage : new.stage ≡ at.ShuttingDown
  pub capabilities : new.capabilities ≡ old.capabilities
  pub facts : new.facts ≡ old.facts

abbrev pub ShuttingUnless : Option ℕ → OpenDriver → ℕ → OpenDriver → Type 0
ShuttingUnless (Some reason) old code new = (code ≡ reason) × (new ≡ old)
ShuttingUnless None old code new = Shut old code new

abbrev pub ShuttingDown : OpenDriver → ℕ → OpenDriver → Type 0
ShuttingDown old code new = ShuttingUnless (stopped_by old) old code new

-- The time of a request is over, if it waits and was not aborted. Then no request is sent before a reset.
abbrev pub bears_live : ℕ → Option Waiting → Bool
bears_live t None = false
bears_live t (Some w) = w.live && (w.ticket.0 == t)

abbrev pub waits : ℕ → List (Option Waiting) → Bool
waits t slots = list_any (λ x. bears_live t x) slots

abbrev pub ExpiringIf : Bool → OpenDriver → ℕ → OpenDriver → Type 0
ExpiringIf true old code new = (code ≡ 0) × (new ≡ record old { stage = at.Expired })
ExpiringIf false old code new = (code ≡ 34) × (new ≡ old)

abbrev pub ExpiringUnless : Option ℕ → OpenDriver → ℕ → ℕ → OpenDriver → Type 0
ExpiringUnless (Some reason) old t code new = (code ≡ reason) × (new ≡ old)
ExpiringUnless None old t code new = ExpiringIf (waits t old.driver.slots) old code new

abbrev pub Expiring : OpenDriver → ℕ → ℕ → OpenDriver → Type 0
Expiring old t code new = ExpiringUnless (stopped_by old) old t code new

-- the actions are handed out and gone, if there is room for all of them
pub record TakingActions (old : OpenDriver) (before : List Action) (count : ℕ) (after : List Action)
    (new : OpenDriver) : Type 0 where
  pub taken : length old.port.actions.items ≤ length before
      → (count ≡ length old.port.actions.items) × (take count after ≡ old.port.actions.items)
      × (drop count after ≡ drop count before) × IsSamePort (with_actions old.port []) new.port
  pub refused : length before < length old.port.actions.items
      → (count ≡ 0) × (after ≡ before) × IsSamePort old.port new.port
  pub kept : new ≡ record old { port = new.port }

-- Controller Capabilities are judged, and kept if they suit the driver
abbrev pub judged_to : Result Capabilities CapabilityFault → Option Capabilities → Option Capabilities
judged_to (Ok c) before = Some c
judged_to (Err fault) before = before

abbrev pub stride_to : Result Capabilities CapabilityFault → ℕ → ℕ
stride_to (Ok c) before = c.stride
stride_to (Err fault) before = before

pub record Judging (old : OpenDriver) (cap : ℕ) (limits : Limits) (new : OpenDriver) : Type 0 where
  pub gives : limits ≡ limits_of (judged_capabilities cap)
  pub capabilities : new.capabilities ≡ judged_to (judged_capabilities cap) old.capabilities
  pub port : new.port ≡ record old.port { stride = stride_to (judged_capabilities cap) old.port.stride }
  pub kept : new ≡ record old { port = new.port; capabilities = new.capabilities }

-- The status is judged by what is awaited and how long it may take. A bring-up reads the status that was ready.
abbrev pub ready_reports : Awaited → Progress → ℕ → List Report → List Report
ready_reports Ready Reached csts reports = more_reports reports (record { status = csts; entry = replicate 16 0 })
ready_reports awaited progress csts reports = reports

abbrev pub reported_ready : Awaited → Progress → ℕ → RecordingPort → RecordingPort
reported_ready a progress csts p = with_reports p (ready_reports a progress csts p.reports.items)

pub record CheckedStatus (old : OpenDriver) (a : Awaited) (c : Capabilities) (csts elapsed_ms code : ℕ)
    (new : OpenDriver) : Type 0 where
  pub gives : code ≡ progress_code (progress_of a csts elapsed_ms c.timeout_ms)
  pub stage : new.stage ≡ after_progress old.stage (progress_of a csts elapsed_ms c.timeout_ms)
  pub port : IsSamePort (reported_ready a (progress_of a csts elapsed_ms c.timeout_ms) csts old.port) new.port
  pub kept : new ≡ record old { port = new.port; stage = new.stage }

abbrev pub CheckingStatusBy : Option Awaited → Option Capabilities → OpenDriver → ℕ → ℕ → ℕ → OpenDriver → Type 0
CheckingStatusBy None c old csts elapsed_ms code new = (code ≡ 33) × (new ≡ old)
CheckingStatusBy (Some awaited) None old csts elapsed_ms code new = (code ≡ 20) × (new ≡ old)
CheckingStatusBy (Some awaited) (Some c) old csts elapsed_ms code new =
    CheckedStatus old awaited c csts elapsed_ms code new

abbrev pub CheckingStatus : OpenDriver → ℕ → ℕ → ℕ → OpenDriver → Type 0
CheckingStatus old csts elapsed_ms code new =
    CheckingStatusBy (awaited_in old.stage) old.capabilities old csts elapsed_ms code new

-- a completion of the admin queue is kept for a bring-up that needs it
abbrev pub report_code : Stage → Need → ℕ
report_code at.Enabled Completion = 0
report_code stage need = 33

abbrev pub completion_reports : Stage → Need → List ℕ → List Report → List Report
completion_reports at.Enabled Completion bytes reports = more_reports reports (record { status = 0; entry = bytes })
completion_reports stage need bytes reports = reports

abbrev pub reported_completion : Stage → Need → List ℕ → RecordingPort → RecordingPort
reported_completion stage need bytes p = with_reports p (completion_reports stage need bytes p.reports.items)

pub record ReportingCompletion (old : OpenDriver) (bytes : List ℕ) (code : ℕ) (new : OpenDriver) : Type 0 where
  pub gives : code ≡ report_code old.stage old.port.need
  pub port : IsSamePort (reported_completion old.stage old.port.need bytes old.port) new.port
  pub kept : new ≡ record old { port = new.port }

-- A bring-up over what the device reported, from the beginning.
pub record DriverBringsUp (old : OpenDriver) (result : Result (Unit {0}) UpFault) (new : OpenDriver) : Type 0 where
  pub start : RecordingPort
  pub begun : IsSamePort (rewound old.port) start
  pub already : is_down old.driver.state ≡ false
      → (result ≡ Err AlreadyUp) × (new.driver ≡ old.driver) × (new.port ≡ start)
  pub rises : is_down old.driver.state ≡ true
      → RisesOver Records old.driver start result new.driver new.port
  pub slots : new.driver.slots ≡ old.driver.slots
  pub next : new.driver.next ≡ old.driver.next
  pub stage : new.stage ≡ old.stage
  pub capabilities : new.capabilities ≡ old.capabilities
  pub facts : new.facts ≡ old.facts

-- the stage after a step of a bring-up
abbrev pub finished_stage : Result (Unit {0}) UpFault → Stage
finished_stage (Ok u) = at.Running
finished_stage (Err fault) = at.Unknown

abbrev pub stage_after : Need → Result (Unit {0}) UpFault → Stage
stage_after Nothing result = finished_stage result
stage_after Status result = at.Enabling
stage_after Completion result = at.Enabled

-- Its actions are those that the earlier steps did not hand out. What the device reported is forgotten at the end.
abbrev pub kept_reports : Need → List Report → List Report
kept_reports Nothing reports = []
kept_reports Status reports = reports
kept_reports Completion reports = reports

abbrev pub kept_count : Need → ℕ → ℕ
kept_count Nothing count = 0
kept_count Status count = count
kept_count Completion count = count

abbrev pub after_step : Need → RecordingPort → RecordingPort
after_step need p =
    record (with_reports p (kept_reports need p.reports.items)) { handed_out = kept_count need p.handed_out }

pub record BroughtUp (old : OpenDriver) (outcome : Outcome) (new : OpenDriver) : Type 0 where
  pub result : Result (Unit {0}) UpFault
  pub mid : OpenDriver
  pub bring_up : DriverBringsUp old result mid
  pub gives : outcome ≡ bring_up_outcome mid.port.need result
  pub driver : new.driver ≡ mid.driver
  pub port : IsSamePort (after_step mid.port.need (left_out mid.port old.port.handed_out)) new.port
  pub stage : new.stage ≡ stage_after mid.port.need result
  pub capabilities : new.capabilities ≡ old.capabilities
  pub facts : new.facts ≡ old.facts

abbrev pub BringingUpUnless : Option ℕ → OpenDriver → Outcome → OpenDriver → Type 0
BringingUpUnless (Some code) old outcome new = (outcome ≡ with_code code) × (new ≡ old)
BringingUpUnless None old outcome new = BroughtUp old outcome new

abbrev pub BringingUp : OpenDriver → Outcome → OpenDriver → Type 0
BringingUp old outcome new = BringingUpUnless (bring_up_refusal old) old outcome new
