-- Why a call is not made: actions are pending, the controller does not run, or the device was not asked.
use Rattle.std.specs.Prelude.{ℕ, ◌&&◌, not, if◌then◌else◌, is_none, Option, None, Some}
use Rattle.nvme_spec.specs.declared.command.Command.{Command}
use Rattle.nvme_device.specs.declared.admission.Span.{Span}
use Rattle.nvme_host.specs.declared.open_driver.OpenDriver.{OpenDriver}
use Rattle.nvme_host.specs.declared.stage.Stage.{Stage}
use Rattle.nvme_host.specs.declared.stage.Stage.TheVariants.{
  Unknown,
  Disabling,
  Disabled,
  Enabling,
  Enabled,
  Running,
  Expired,
  ShuttingDown,
  ShutDown,
}
use Rattle.nvme_host.specs.Devices.{admission_code}
use Rattle.nvme_host.specs.declared.facts.DeviceFacts.{DeviceFacts}
use Rattle.nvme_host.specs.Facts.{admission_on, needs_identifier}
use Rattle.nvme_host.specs.Recording.{is_pending}
use Rattle.nvme_host.specs.Stages.{stage_refusal}

abbrev pub blocked_by : OpenDriver → Option ℕ
blocked_by h = if is_pending h.port.actions.items then Some 19 else None

abbrev pub stopped_by : OpenDriver → Option ℕ
stopped_by h = if is_pending h.port.actions.items then Some 19 else stage_refusal h.stage

-- the first reason of the two
abbrev pub first_of : Option ℕ → Option ℕ → Option ℕ
first_of None later = later
first_of (Some code) later = Some code

-- 66: the controller does not have the identifier of this host
abbrev pub identifier_refusal : DeviceFacts → Command → Option ℕ
identifier_refusal facts command = if needs_identifier command && not facts.host_identified then Some 66 else None

abbrev pub request_refusal : OpenDriver → ℕ → Command → Span → Option ℕ
request_refusal h nsid command span =
    first_of (stopped_by h)
    (first_of (admission_code (admission_on h.facts nsid command span)) (identifier_refusal h.facts command))

-- a bring-up needs a controller that is disabled, or continues with one that became ready
abbrev pub bring_up_stage_refusal : Stage → Option ℕ
bring_up_stage_refusal Unknown = Some 21
bring_up_stage_refusal Disabling = Some 21
bring_up_stage_refusal Disabled = None
bring_up_stage_refusal Enabling = Some 21
bring_up_stage_refusal Enabled = None
bring_up_stage_refusal Running = Some 22
bring_up_stage_refusal Expired = Some 21
bring_up_stage_refusal ShuttingDown = Some 21
bring_up_stage_refusal ShutDown = Some 21

abbrev pub bring_up_refusal : OpenDriver → Option ℕ
bring_up_refusal h =
    if is_pending h.port.actions.items then Some 19
    else (if is_none h.capabilities then Some 20 else bring_up_stage_refusal h.stage)
