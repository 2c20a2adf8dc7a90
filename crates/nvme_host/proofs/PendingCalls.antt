-- For `examples/pending_calls.rt`: calls of a driver whose actions are pending, and what laws say of runs.
use Rattle.std.proofs.Common.{◌≡◌, ◌+◌, ℕ, List, [], ◌∷◌, None, Some, false, ◌∙◌}
use Rattle.nvme_spec.specs.declared.command.Command.TheVariants as command
use Rattle.nvme_driver.specs.declared.lane.Lane.TheVariants.{Io}
use Rattle.nvme_driver.specs.declared.request.Request.TheVariants.{Flush, Identify}
use Rattle.nvme_driver.specs.Once.{borne, times}
use Rattle.nvme_host.specs.declared.open_driver.OpenDriver.{OpenDriver}
use Rattle.nvme_host.specs.DeviceCommands.{awaiting_event}
use Rattle.nvme_host.specs.Examples.{busy}
use Rattle.nvme_host.specs.Exports.{zeroing}
use Rattle.nvme_host.specs.RunExamples.{idle}
use Rattle.nvme_host.specs.declared.completions.CompletionData.{CompletionData}
use Rattle.nvme_host.specs.declared.devices.Limits.{Limits}
use Rattle.nvme_host.specs.declared.outcome.Outcome.{Outcome}
use Rattle.nvme_host.specs.declared.outcome.Placed.{Placed}
use Rattle.nvme_host.specs.declared.recording_port.Action.{Action}
use Rattle.nvme_host.specs.Calls.{
  Asking,
  BringingUp,
  CheckingStatus,
  Commanding,
  Expiring,
  Judging,
  Placing,
  Polling,
  ReportingCompletion,
  Resetting,
  Ringing,
  ShuttingDown,
  TakingActions,
}
use Rattle.nvme_host.specs.Completions.{StoringCompletion, StoringData}
use Rattle.nvme_host.specs.Refusals.{request_refusal, stopped_by}
use Rattle.nvme_host.specs.Runs.{
  Asks,
  BringsUp,
  ChecksStatus,
  Commands,
  DeliversNoneAgain,
  Expires,
  Identifies,
  IsAborted,
  IsIdle,
  Judges,
  Places,
  Polls,
  Quietly,
  ReportsCompletion,
  Resets,
  Rings,
  ShutsDown,
  StoresCompletion,
  StoresData,
  TakesActions,
  Tickets,
  Use,
  Used,
  Uses,
  both,
  delivered_by,
  deliveries,
  given_by,
  live_borne,
  no_tickets,
}

pub places_shows : Quietly (Places 1 command.Flush (zeroing 0 0) (Flush 1)) idle idle → ⊥
places_shows x = x

pub identifies_shows : Quietly (Identifies 1 0) idle idle → ⊥
identifies_shows x = x

pub commands_shows : Quietly (Commands false awaiting_event) idle idle → ⊥
commands_shows x = x

pub asks_shows : Quietly (Asks 1) idle idle → ⊥
asks_shows x = x

pub polls_shows : Quietly Polls idle idle → ⊥
polls_shows x = x

pub no_ringing : (after : OpenDriver) → Quietly Rings busy after → after ≡ busy
no_ringing after x = let y : (code : ℕ) × Ringing busy code after = x in y.1.1

pub no_resetting : (after : OpenDriver) → Quietly Resets busy after → after ≡ busy
no_resetting after x = let y : (code : ℕ) × Resetting busy code after = x in y.1.1

pub no_shutting : (after : OpenDriver) → Quietly ShutsDown busy after → after ≡ busy
no_shutting after x = let y : (code : ℕ) × ShuttingDown busy code after = x in y.1.1

pub no_expiring : (after : OpenDriver) → Quietly (Expires 7) busy after → after ≡ busy
no_expiring after x = let y : (code : ℕ) × Expiring busy 7 code after = x in y.1.1

pub no_bringing : (after : OpenDriver) → Quietly BringsUp busy after → after ≡ busy
no_bringing after x = let y : (outcome : Outcome) × BringingUp busy outcome after = x in y.1.1

pub no_completion : (after : OpenDriver) → Quietly (StoresCompletion (Some Io) []) busy after → after ≡ busy
no_completion after x =
    let y : (outcome : CompletionData) × StoringCompletion (Some Io) busy [] outcome after = x in
    y.1.1

pub no_bytes : (after : OpenDriver) → Quietly (StoresData 0 []) busy after → after ≡ busy
no_bytes after x = let y : (code : ℕ) × StoringData busy 0 [] code after = x in y.1.1

pub judges_none : (after : OpenDriver) → Quietly (Judges 0) idle after → after.capabilities ≡ None
judges_none after x = let y : (limits : Limits) × Judging idle 0 limits after = x in y.1.capabilities

pub checks_none : (after : OpenDriver) → Quietly (ChecksStatus 1 9) idle after → after ≡ idle
checks_none after x = let y : (code : ℕ) × CheckingStatus idle 1 9 code after = x in y.1.1

pub reports_to_port : (after : OpenDriver) → (bytes : List ℕ) → Quietly (ReportsCompletion bytes) idle after
    → after ≡ record idle { port = after.port }
reports_to_port after bytes x = let y : (code : ℕ) × ReportingCompletion idle bytes code after = x in y.1.kept

pub takes_of_port : (after : OpenDriver) → Quietly TakesActions idle after → after ≡ record idle { port = after.port }
takes_of_port after x =
    let y :
    (before : List Action) × (count : ℕ) × (taken : List Action) × TakingActions idle before count taken after = x in
    y.3.kept

pub no_placing : (tickets : Tickets) → (after : OpenDriver)
    → Used (Places 1 command.Flush (zeroing 0 0) (Flush 1)) busy tickets after → after ≡ busy
no_placing tickets after x =
    let y :
    (placed : Placed)
    × Placing (request_refusal busy 1 command.Flush (zeroing 0 0)) busy (Flush 1) placed after
    × (tickets ≡ given_by placed) = x in
    y.1.1

pub no_identifying : (tickets : Tickets) → (after : OpenDriver) → Used (Identifies 1 0) busy tickets after
    → after ≡ busy
no_identifying tickets after x =
    let y :
    (placed : Placed) × Placing (stopped_by busy) busy (Identify 1 0) placed after
    × (tickets ≡ given_by placed) = x in
    y.1.1

pub no_commanding : (tickets : Tickets) → (after : OpenDriver)
    → Used (Commands false awaiting_event) busy tickets after → after ≡ busy
no_commanding tickets after x =
    let y :
    (placed : Placed) × Commanding (stopped_by busy) busy false awaiting_event placed after
    × (tickets ≡ given_by placed) = x in
    y.1.1

pub no_asking : (tickets : Tickets) → (after : OpenDriver) → Used (Asks 65) busy tickets after → after ≡ busy
no_asking tickets after x =
    let y : (placed : Placed) × Asking busy 65 placed after × (tickets ≡ given_by placed) = x in
    y.1.1

pub no_polling : (tickets : Tickets) → (after : OpenDriver) → Used Polls busy tickets after → after ≡ busy
no_polling tickets after x =
    let y :
    (before : List ℕ) × (outcome : Outcome) × (buffer : List ℕ) × Polling busy before outcome after buffer
    × (tickets ≡ delivered_by outcome) = x in
    y.3.1

pub no_ringing_used : (tickets : Tickets) → (after : OpenDriver) → Used Rings busy tickets after → after ≡ busy
no_ringing_used tickets after x = let y : Quietly Rings busy after × (tickets ≡ no_tickets) = x in y.0.1.1

pub no_ticket_shown : (tickets : Tickets) → (after : OpenDriver) → Used Rings busy tickets after
    → tickets ≡ no_tickets
no_ticket_shown tickets after x = let y : Quietly Rings busy after × (tickets ≡ no_tickets) = x in y.1

pub no_call_used : (tickets : Tickets) → (after : OpenDriver) → Uses [] busy tickets after → after ≡ busy
no_call_used tickets after x = let y : (tickets ≡ no_tickets) × (after ≡ busy) = x in y.1

pub one_call_used : (tickets : Tickets) → (after : OpenDriver) → Uses (Rings ∷ []) busy tickets after → after ≡ busy
one_call_used tickets after x =
    let y :
    (mid : OpenDriver) × (first : Tickets) × (rest : Tickets) × Used Rings busy first mid
    × (tickets ≡ both first rest) × Uses [] mid rest after = x in
    y.5.1 ∙ y.3.0.1.1

pub not_aborted_too : DeliversNoneAgain → (uses : List Use) → (tickets : Tickets) → (old after : OpenDriver)
    → IsIdle old → Uses uses old tickets after → tickets.done ≡ 7 ∷ [] → times 7 tickets.aborted ≡ 0
not_aborted_too law uses tickets old after fresh used done =
    let y : (times 7 [] ≡ 0) × (times 7 tickets.aborted ≡ 0) = law uses tickets old after 7 [] fresh used done in
    y.1

pub aborted_is_not_done : (before after : Tickets) → (h : OpenDriver) → IsAborted 7 before after h
    → times 7 after.done ≡ 0
aborted_is_not_done before after h x = x.done

pub aborted_once : (before after : Tickets) → (h : OpenDriver) → IsAborted 7 before after h
    → deliveries 7 before + times 7 after.aborted + borne 7 h.driver.slots ≡ 1
aborted_once before after h x = x.fate

pub aborted_is_not_live : (before after : Tickets) → (h : OpenDriver) → IsAborted 7 before after h
    → live_borne 7 h.driver.slots ≡ 0
aborted_is_not_live before after h x = x.waits
