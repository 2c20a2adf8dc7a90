-- How far a controller is, as its status showed (Base Specification: Controller Initialization, Controller Shutdown).
use Rattle.std.specs.Prelude.{ℕ, Option, None, Some}
use Rattle.nvme_device.specs.declared.status.Awaited.{Awaited}
use Rattle.nvme_device.specs.declared.status.Awaited.TheVariants as awaited
use Rattle.nvme_device.specs.declared.status.Progress.{Progress}
use Rattle.nvme_device.specs.declared.status.Progress.TheVariants.{Reached, Waits, Removed, Fatal, TimedOut}
use Rattle.nvme_host.specs.declared.stage.Stage.{Stage}
use Rattle.nvme_host.specs.declared.stage.Stage.TheVariants.{
  Unknown,
  Disabling,
  Disabled,
  Enabling,
  Enabled,
  Running,
  Expired,
  ShuttingDown,
  ShutDown,
}

-- what the host waits for
abbrev pub awaited_in : Stage → Option Awaited
awaited_in Unknown = None
awaited_in Disabling = Some awaited.Disabled
awaited_in Disabled = None
awaited_in Enabling = Some awaited.Ready
awaited_in Enabled = None
awaited_in Running = None
awaited_in Expired = None
awaited_in ShuttingDown = Some awaited.ShutDown
awaited_in ShutDown = None

-- the awaited status is there
abbrev pub reached_from : Stage → Stage
reached_from Unknown = Unknown
reached_from Disabling = Disabled
reached_from Disabled = Disabled
reached_from Enabling = Enabled
reached_from Enabled = Enabled
reached_from Running = Running
reached_from Expired = Expired
reached_from ShuttingDown = ShutDown
reached_from ShutDown = ShutDown

-- a fault leaves nothing known
abbrev pub after_progress : Stage → Progress → Stage
after_progress stage Reached = reached_from stage
after_progress stage Waits = stage
after_progress stage Removed = Unknown
after_progress stage Fatal = Unknown
after_progress stage TimedOut = Unknown

abbrev pub progress_code : Progress → ℕ
progress_code Reached = 0
progress_code Waits = 6
progress_code Removed = 48
progress_code Fatal = 49
progress_code TimedOut = 50

-- why no request is sent: the driver is not up, the controller was shut down, or the time of a request is over
abbrev pub stage_refusal : Stage → Option ℕ
stage_refusal Unknown = Some 26
stage_refusal Disabling = Some 26
stage_refusal Disabled = Some 26
stage_refusal Enabling = Some 26
stage_refusal Enabled = Some 26
stage_refusal Running = None
stage_refusal Expired = Some 65
stage_refusal ShuttingDown = Some 26
stage_refusal ShutDown = Some 26
