-- For `examples/made_calls.rt`: refused calls, and what calls leave as it is.
use Rattle.std.proofs.Common.{◌≡◌, ℕ, List, Result, [], ◌∷◌, None, Some, true, false, length, ap, arith, refl}
use Rattle.nvme_device.specs.declared.status.Awaited.TheVariants as awaited
use Rattle.nvme_driver.specs.declared.faults.UpFault.{UpFault}
use Rattle.nvme_driver.specs.declared.lane.Lane.TheVariants.{Io}
use Rattle.nvme_driver.specs.declared.request.Request.TheVariants.{Flush}
use Rattle.nvme_driver.specs.Calls.{Reads}
use Rattle.nvme_driver.specs.Polls.{waiting_at, live_in}
use Rattle.nvme_driver.specs.Requests.{Asked}
use Rattle.nvme_wire.specs.Completion.{cid}
use Rattle.nvme_host.specs.declared.completions.CompletionData.{CompletionData}
use Rattle.nvme_host.specs.declared.open_driver.OpenDriver.{OpenDriver}
use Rattle.nvme_host.specs.declared.outcome.Outcome.{Outcome}
use Rattle.nvme_host.specs.declared.outcome.Placed.{Placed}
use Rattle.nvme_host.specs.declared.recording_port.RecordingPort.{RecordingPort}
use Rattle.nvme_host.specs.declared.stage.Stage.TheVariants as at
use Rattle.nvme_host.specs.Calls.{
  AskedOf,
  AskingIf,
  BringingUpUnless,
  BroughtUp,
  CheckedStatus,
  CheckingStatusBy,
  Commanding,
  DriverBringsUp,
  ExpiringIf,
  PlacedBy,
  PlacedCommandBy,
  Placing,
  Polled,
  PollingUnless,
  Reset,
  ResettingUnless,
  RingingUnless,
  Rung,
  Shut,
  ShuttingUnless,
}
use Rattle.nvme_host.specs.Completions.{
  StoredCompletion,
  StoredData,
  StoringCompletion,
  StoringCompletionUnless,
  StoringDataUnless,
  data_of,
  no_data,
}
use Rattle.nvme_host.specs.DeviceCommands.{awaiting_event}
use Rattle.nvme_host.specs.Examples.{overdue, port, waiting_for_ready}
use Rattle.nvme_host.specs.Facts.{with_command, with_question}
use Rattle.nvme_host.specs.Outcomes.{placed_of, refused, with_code}
use Rattle.nvme_host.specs.declared.recording_port.Need.TheVariants.{Status}
use Rattle.nvme_host.specs.Recording.{IsSamePort, Records, after_look, next_report}
use Rattle.nvme_host.specs.RunExamples.{idle}

-- two codes are equal
abbrev codes-are : ℕ → ℕ → Type 0
codes-are m n = m ≡ n

-- the codes of two results that are equal
same-codes : (m n : ℕ) → refused m ≡ refused n → m ≡ n
same-codes m n same = ap (λ (p : Placed). p.code) same

pub poll_refused : PollingUnless (Some 19) idle [] (with_code 19) idle []
poll_refused = (refl, refl, refl)

pub refused_poll_keeps_bytes : PollingUnless (Some 19) idle [] (with_code 19) idle (7 ∷ []) → ⊥
refused_poll_keeps_bytes x =
    let y : (with_code 19 ≡ with_code 19) × (idle ≡ idle) × (7 ∷ [] ≡ []) = x in
    let size : 1 ≡ 0 = ap length y.2 in
    omega (arith, size)

pub request_refused : Placing (Some 27) idle (Flush 1) (refused 27) idle
request_refused = (refl, refl)

pub request_reason : Placing (Some 27) idle (Flush 1) (refused 28) idle → ⊥
request_reason x =
    let y : (refused 28 ≡ refused 27) × (idle ≡ idle) = x in
    omega (arith, same-codes 28 27 y.0)

pub command_reason : Commanding (Some 27) idle false awaiting_event (refused 28) idle → ⊥
command_reason x =
    let y : (refused 28 ≡ refused 27) × (idle ≡ idle) = x in
    omega (arith, same-codes 28 27 y.0)

pub question_refused : AskingIf true idle 65 (refused 64) idle
question_refused = (refl, refl)

pub question_reason : AskingIf true idle 65 (refused 65) idle → ⊥
question_reason x =
    let y : (refused 65 ≡ refused 64) × (idle ≡ idle) = x in
    omega (arith, same-codes 65 64 y.0)

pub reset_refused : ResettingUnless (Some 19) idle 19 idle
reset_refused = (refl, refl)

pub reset_reason : ResettingUnless (Some 19) idle 20 idle → ⊥
reset_reason x = let y : codes-are 20 19 × (idle ≡ idle) = x in omega (arith, y.0)

pub shutdown_refused : ShuttingUnless (Some 19) idle 19 idle
shutdown_refused = (refl, refl)

pub shutdown_reason : ShuttingUnless (Some 19) idle 20 idle → ⊥
shutdown_reason x = let y : codes-are 20 19 × (idle ≡ idle) = x in omega (arith, y.0)

pub request_expires : ExpiringIf true idle 0 overdue
request_expires = (refl, refl)

pub expiry_reason : ExpiringIf true idle 1 overdue → ⊥
expiry_reason x = let y : codes-are 1 0 × (overdue ≡ overdue) = x in omega (arith, y.0)

pub no_request_expires : ExpiringIf false idle 34 idle
no_request_expires = (refl, refl)

pub no_expiry_reason : ExpiringIf false idle 35 idle → ⊥
no_expiry_reason x = let y : codes-are 35 34 × (idle ≡ idle) = x in omega (arith, y.0)

pub bytes_refused : StoringDataUnless (Some 19) idle 0 [] 19 idle
bytes_refused = (refl, refl)

pub bytes_reason : StoringDataUnless (Some 19) idle 0 [] 20 idle → ⊥
bytes_reason x = let y : codes-are 20 19 × (idle ≡ idle) = x in omega (arith, y.0)

pub no_lane_reason : StoringCompletion None idle [] (no_data 31) idle → ⊥
no_lane_reason x =
    let y : (no_data 31 ≡ no_data 32) × (idle ≡ idle) = x in
    let code : 31 ≡ 32 = ap (λ (d : CompletionData). d.code) y.0 in
    omega (arith, code)

pub poll_stage : (outcome : Outcome) → (old after : OpenDriver) → (before buffer : List ℕ)
    → PollingUnless None old before outcome after buffer → after.stage ≡ old.stage
poll_stage outcome old after before buffer x = let y : Polled old before outcome after buffer = x in y.stage

pub request_stage : (outcome : Placed) → (old after : OpenDriver) → Placing None old (Flush 1) outcome after
    → after.stage ≡ old.stage
request_stage outcome old after x = let y : PlacedBy old (Flush 1) outcome after = x in y.stage

pub commanding_stage : (outcome : Placed) → (old after : OpenDriver)
    → Commanding None old true awaiting_event outcome after → after.stage ≡ old.stage
commanding_stage outcome old after x =
    let y : PlacedCommandBy old true awaiting_event outcome after = x in
    y.stage

pub question_facts : (outcome : Placed) → (old after : OpenDriver) → AskingIf false old 1 outcome after
    → (mid : OpenDriver) × (after.facts ≡ with_question mid.facts outcome 1)
question_facts outcome old after x = let y : AskedOf old 1 outcome after = x in (y.mid, y.facts)

pub command_gives : (outcome : Placed) → (old after : OpenDriver) → (asked : Asked)
    → (x : PlacedCommandBy old true asked outcome after) → outcome ≡ placed_of x.result
command_gives outcome old after asked x = x.gives

pub command_stage : (outcome : Placed) → (old after : OpenDriver) → (asked : Asked)
    → PlacedCommandBy old true asked outcome after → after.stage ≡ old.stage
command_stage outcome old after asked x = x.stage

pub command_capabilities : (outcome : Placed) → (old after : OpenDriver) → (asked : Asked)
    → PlacedCommandBy old true asked outcome after → after.capabilities ≡ old.capabilities
command_capabilities outcome old after asked x = x.capabilities

pub command_facts : (outcome : Placed) → (old after : OpenDriver) → (asked : Asked)
    → PlacedCommandBy old true asked outcome after → after.facts ≡ with_command old.facts true outcome
command_facts outcome old after asked x = x.facts

pub asked_stage : (outcome : Placed) → (old after : OpenDriver) → (x : AskedOf old 1 outcome after)
    → after.stage ≡ x.mid.stage
asked_stage outcome old after x = x.stage

pub asked_capabilities : (outcome : Placed) → (old after : OpenDriver) → (x : AskedOf old 1 outcome after)
    → after.capabilities ≡ x.mid.capabilities
asked_capabilities outcome old after x = x.capabilities

pub asked_facts : (outcome : Placed) → (old after : OpenDriver) → (x : AskedOf old 1 outcome after)
    → after.facts ≡ with_question x.mid.facts outcome 1
asked_facts outcome old after x = x.facts

pub rung_gives : (code : ℕ) → (after : OpenDriver) → Rung idle code after → code ≡ 0
rung_gives code after x = x.gives

pub rung_stage : (code : ℕ) → (old after : OpenDriver) → Rung old code after → after.stage ≡ old.stage
rung_stage code old after x = x.stage

pub rung_capabilities : (code : ℕ) → (old after : OpenDriver) → Rung old code after
    → after.capabilities ≡ old.capabilities
rung_capabilities code old after x = x.capabilities

pub rung_facts : (code : ℕ) → (old after : OpenDriver) → Rung old code after → after.facts ≡ old.facts
rung_facts code old after x = x.facts

pub ringing_driver : (code : ℕ) → (old after : OpenDriver) → RingingUnless None old code after
    → after.driver ≡ old.driver
ringing_driver code old after x = let y : Rung old code after = x in y.driver

pub shut_gives : (code : ℕ) → (old after : OpenDriver) → Shut old code after → code ≡ 0
shut_gives code old after x = x.gives

pub shut_stage : (code : ℕ) → (old after : OpenDriver) → Shut old code after → after.stage ≡ at.ShuttingDown
shut_stage code old after x = x.stage

pub shut_capabilities : (code : ℕ) → (old after : OpenDriver) → Shut old code after
    → after.capabilities ≡ old.capabilities
shut_capabilities code old after x = x.capabilities

pub shut_facts : (code : ℕ) → (old after : OpenDriver) → Shut old code after → after.facts ≡ old.facts
shut_facts code old after x = x.facts

pub shutting_driver : (code : ℕ) → (old after : OpenDriver) → ShuttingUnless None old code after
    → after.driver ≡ old.driver
shutting_driver code old after x = let y : Shut old code after = x in y.driver

pub resetting_gives : (code : ℕ) → (old after : OpenDriver) → ResettingUnless None old code after → code ≡ 0
resetting_gives code old after x = let y : Reset old code after = x in y.gives

pub checked_gives : (code : ℕ) → (after : OpenDriver)
    → CheckedStatus waiting_for_ready awaited.Ready (record { timeout_ms = 500; stride = 4 }) 1 9 code after
    → code ≡ 0
checked_gives code after x = x.gives

pub checked_stage : (code : ℕ) → (after : OpenDriver)
    → CheckedStatus waiting_for_ready awaited.Ready (record { timeout_ms = 500; stride = 4 }) 1 9 code after
    → after.stage ≡ at.Enabled
checked_stage code after x = x.stage

pub checking_gives : (code : ℕ) → (after : OpenDriver)
    → CheckingStatusBy (Some awaited.Ready) (Some (record { timeout_ms = 500; stride = 4 })) waiting_for_ready 1 9
    code after
    → code ≡ 0
checking_gives code after x =
    let y :
    CheckedStatus waiting_for_ready awaited.Ready (record { timeout_ms = 500; stride = 4 }) 1 9 code after = x in
    y.gives

pub bring_up_stage : (result : Result (Unit {0}) UpFault) → (old after : OpenDriver)
    → DriverBringsUp old result after → after.stage ≡ old.stage
bring_up_stage result old after x = x.stage

pub bring_up_capabilities : (result : Result (Unit {0}) UpFault) → (old after : OpenDriver)
    → DriverBringsUp old result after → after.capabilities ≡ old.capabilities
bring_up_capabilities result old after x = x.capabilities

pub bring_up_facts : (result : Result (Unit {0}) UpFault) → (old after : OpenDriver)
    → DriverBringsUp old result after → after.facts ≡ old.facts
bring_up_facts result old after x = x.facts

pub brought_up_facts : (outcome : Outcome) → (old after : OpenDriver) → BringingUpUnless None old outcome after
    → after.facts ≡ old.facts
brought_up_facts outcome old after x = let y : BroughtUp old outcome after = x in y.facts

pub next_status_is_read : (after : RecordingPort) → Records port (Reads 0x1c 1) after → ⊥
next_status_is_read after x =
    let y : codes-are 1 2 × IsSamePort (after_look (next_report port) Status port) after = x in
    omega (arith, y.0)

pub stored_gives : (entry : List ℕ) → (outcome : CompletionData) → (old after : OpenDriver)
    → StoredCompletion Io old entry outcome after
    → outcome ≡ data_of (live_in Io (waiting_at old.driver.slots (cid entry))) entry
stored_gives entry outcome old after x = x.gives

pub stored_kept : (entry : List ℕ) → (outcome : CompletionData) → (old after : OpenDriver)
    → StoringCompletionUnless None Io old entry outcome after → after ≡ record old { port = after.port }
stored_kept entry outcome old after x = let y : StoredCompletion Io old entry outcome after = x in y.kept

pub bytes_kept : (part : List ℕ) → (at code : ℕ) → (old after : OpenDriver)
    → StoringDataUnless None old at part code after → after ≡ record old { port = after.port }
bytes_kept part at code old after x = let y : StoredData old at part code after = x in y.kept
