-- The effect of each export on a handle: if a driver is open, it is the call of that name; otherwise nothing happens.
use Rattle.std.specs.Prelude.{◌≡◌, ℕ, ◌*◌, ◌/◌, Bool, List, Option, Some, None}
use Rattle.nvme_spec.specs.Limits.{block_size}
use Rattle.nvme_spec.specs.Memory.{zeros}
use Rattle.nvme_device.specs.declared.admission.Span.{Span}
use Rattle.nvme_driver.specs.declared.request.Request.{Request}
use Rattle.nvme_driver.specs.Requests.{Asked}
use Rattle.nvme_host.specs.declared.devices.Limits.{Limits}
use Rattle.nvme_host.specs.declared.devices.Controller.{Controller}
use Rattle.nvme_host.specs.declared.devices.Namespace.{Namespace}
use Rattle.nvme_host.specs.declared.outcome.Outcome.{Outcome}
use Rattle.nvme_host.specs.declared.outcome.Placed.{Placed}
use Rattle.nvme_host.specs.declared.open_driver.OpenDriver.{OpenDriver}
use Rattle.nvme_host.specs.declared.completions.NextCompletion.{NextCompletion}
use Rattle.nvme_host.specs.declared.completions.CompletionData.{CompletionData}
use Rattle.nvme_host.specs.declared.recording_port.Action.{Action}
use Rattle.nvme_host.specs.Outcomes.{with_code, refused}
use Rattle.nvme_host.specs.Calls.{IsNew, Polling, Placing, Commanding, Asking, TakingActions, Judging, BringingUp}
use Rattle.nvme_host.specs.Devices.{no_controller, controller_of, namespace_of}
use Rattle.nvme_host.specs.Holding.{Inside}
use Rattle.nvme_host.specs.Facts.{namespace_facts}
use Rattle.nvme_host.specs.Completions.{
  lane_of,
  no_next_completion,
  no_data,
  next_completion_in,
  StoringCompletion,
  Loads,
}

-- a driver is opened, unless memory is refused
abbrev pub OpensInto : ℕ → ℕ → Option Inside → Type 0
OpensInto first code None = code ≡ 18
OpensInto first code (Some h) = (code ≡ 0) × IsNew zeros first h

-- or one is open
abbrev pub Opens : Option Inside → ℕ → ℕ → Option Inside → Type 0
Opens None first code new = OpensInto first code new
Opens (Some old) first code new = (code ≡ 17) × (new ≡ Some old)

abbrev pub Polls : Option Inside → List ℕ → Outcome → Option Inside → List ℕ → Type 0
Polls None before outcome new buffer = (outcome ≡ with_code 16) × (new ≡ None) × (buffer ≡ before)
Polls (Some old) before outcome None buffer = ⊥
Polls (Some old) before outcome (Some new) buffer = Polling old before outcome new buffer

abbrev pub Places : (OpenDriver → Option ℕ) → Request → Option Inside → Placed → Option Inside → Type 0
Places request_refusal request None outcome new = (outcome ≡ refused 16) × (new ≡ None)
Places request_refusal request (Some old) outcome None = ⊥
Places request_refusal request (Some old) outcome (Some new) = Placing (request_refusal old) old request outcome new

abbrev pub Sends : (OpenDriver → Option ℕ) → Bool → (OpenDriver → Asked) → Option Inside → Placed → Option Inside
    → Type 0
Sends refusal identifies asked None outcome new = (outcome ≡ refused 16) × (new ≡ None)
Sends refusal identifies asked (Some old) outcome None = ⊥
Sends refusal identifies asked (Some old) outcome (Some new) =
    Commanding (refusal old) old identifies (asked old) outcome new

abbrev pub Asks : ℕ → Option Inside → Placed → Option Inside → Type 0
Asks nsid None outcome new = (outcome ≡ refused 16) × (new ≡ None)
Asks nsid (Some old) outcome None = ⊥
Asks nsid (Some old) outcome (Some new) = Asking old nsid outcome new

-- a call whose result is a number
abbrev pub Does : (OpenDriver → ℕ → OpenDriver → Type 0) → Option Inside → ℕ → Option Inside → Type 0
Does call None code new = (code ≡ 16) × (new ≡ None)
Does call (Some old) code None = ⊥
Does call (Some old) code (Some new) = call old code new

abbrev pub BringsUp : Option Inside → Outcome → Option Inside → Type 0
BringsUp None outcome new = (outcome ≡ with_code 16) × (new ≡ None)
BringsUp (Some old) outcome None = ⊥
BringsUp (Some old) outcome (Some new) = BringingUp old outcome new

abbrev pub Judges : ℕ → Option Inside → Limits → Option Inside → Type 0
Judges cap None limits new = (limits ≡ record { timeout_ms = 0; stride = 0; code = 16 }) × (new ≡ None)
Judges cap (Some old) limits None = ⊥
Judges cap (Some old) limits (Some new) = Judging old cap limits new

abbrev pub TakesActions : Option Inside → List Action → ℕ → List Action → Option Inside → Type 0
TakesActions None before count after new = (count ≡ 0) × (after ≡ before) × (new ≡ None)
TakesActions (Some old) before count after None = ⊥
TakesActions (Some old) before count after (Some new) = TakingActions old before count after new

abbrev pub StoresCompletion : ℕ → List ℕ → Option Inside → CompletionData → Option Inside → Type 0
StoresCompletion queue entry None outcome new = (outcome ≡ no_data 16) × (new ≡ None)
StoresCompletion queue entry (Some old) outcome None = ⊥
StoresCompletion queue entry (Some old) outcome (Some new) = StoringCompletion (lane_of queue) old entry outcome new

-- what is copied out; the handle stays as it is
abbrev pub LoadsFrom : Option Inside → ℕ → List ℕ → ℕ → List ℕ → Type 0
LoadsFrom None at before code after = (code ≡ 16) × (after ≡ before)
LoadsFrom (Some h) at before code after = Loads h.port.window at before code after

abbrev pub next_completion_of : Option Inside → ℕ → NextCompletion
next_completion_of None queue = no_next_completion 16
next_completion_of (Some h) queue = next_completion_in (lane_of queue) h.port.doorbells

abbrev pub controller_in : Option Inside → Controller
controller_in None = no_controller 16
controller_in (Some h) = controller_of h.facts.controller

abbrev pub namespace_in : Option Inside → ℕ → Namespace
namespace_in None nsid = record { blocks = 0; code = 16 }
namespace_in (Some h) nsid = namespace_of (namespace_facts h.facts nsid)

-- the blocks of a request that transfers them, and those of one that transfers nothing
abbrev pub moving : ℕ → ℕ → Span
moving first count = record { slba = first; blocks = count; bytes = block_size * count }

abbrev pub sending : ℕ → ℕ → Span
sending first len = record { slba = first; blocks = len / block_size; bytes = len }

abbrev pub zeroing : ℕ → ℕ → Span
zeroing first count = record { slba = first; blocks = count; bytes = 0 }

-- a Reservation Report of a number of double words
abbrev pub reporting : ℕ → Span
reporting dwords = record { slba = 0; blocks = 0; bytes = 4 * dwords }
