-- Example runs of the laws on posted completions, and on failed calls of the medium.
use Rattle.std.specs.Prelude.{◌≡◌, ◌≤◌, true, List, [], ◌∷◌, Some}
use Rattle.nvme_spec.specs.Blocks.{Device}
use Rattle.nvme_machine.specs.declared.seen.Seen.{Seen}
use Rattle.nvme_machine.specs.Controllers.{Controller}
use Rattle.nvme_machine.specs.Posted.{StandsUnread}
use Rattle.nvme_machine.specs.Secrecy as machine
use Rattle.nvme_machine.specs.Subsystems.{Run, Step, Subsystem, controller_at}
use Rattle.nvme_event.specs.Replies.{Reply}
use Rattle.nvme_mailbox.specs.Determined.{failures_in}
use Rattle.nvme_mailbox.specs.Fleets as mailboxes
use Rattle.nvme_mailbox.specs.Fleets.{Fleet}
use Rattle.nvme_mailbox.specs.Secrecy as mailbox
use Rattle.nvme_fleet.specs.FleetStates.{fleet_in}
use Rattle.nvme_theorem_runs.specs.Cluster.{blocks, stores}
use Rattle.nvme_theorem_runs.specs.Fencing.{fenced, fenced_events}
use Rattle.nvme_theorem_runs.specs.Queues.{entry, posted}
use Rattle.nvme_session_runs.specs.BothLayers.{raw_layers}
use Rattle.nvme_session_runs.specs.RunCalls.{execution}

-- UnreadStands: host b2h stores in its own window at the address of the unread completion of host a1h, which stays.
pub record UnreadAtWork : Type 0 where
  pub seen : Seen
  pub next : Subsystem
  pub step : Step true posted (stores 2 8192 (1 ∷ [])) seen next
  pub controller : Controller
  pub at : controller_at next 1 ≡ Some controller
  pub stands : StandsUnread entry controller

-- a medium, one call of which has failed
abbrev pub failed_once : Device
failed_once = record blocks { failures = 1 }

-- FailuresNeverFall, of a subsystem and of a fleet: over it the runs of FencingAtWork and LayersAtWork exist, and none
-- of them leaves it without a failed call.
pub record FailuresAtWork : Type 0 where
  pub given : List Seen
  pub left : Subsystem
  pub run : Run true (machine.over failed_once fenced) fenced_events given left
  pub never : (new : Subsystem) (seen : List Seen) → Run true (machine.over failed_once fenced) fenced_events seen new
      → 1 ≤ new.device.failures
  pub replies : List Reply
  pub fleet : Fleet
  pub fleet_run : mailboxes.Run true (mailbox.over failed_once (fleet_in raw_layers)) execution replies fleet
  pub fleet_never : (new : Fleet) (others : List Reply)
      → mailboxes.Run true (mailbox.over failed_once (fleet_in raw_layers)) execution others new → 1 ≤ failures_in new
