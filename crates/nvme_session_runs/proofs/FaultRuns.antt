-- For `outcomes.rt`: an unread completion, and runs over a medium, one call of which has failed.
use Rattle.std.proofs.Common.{◌≡◌, ℕ, true, [], ◌∷◌, inl, inr, Some}
use Rattle.nvme_spec.specs.Layout.{IsLaidOut}
use Rattle.nvme_machine.specs.Controllers.{Controller}
use Rattle.nvme_machine.specs.Posted.{StandsUnread}
use Rattle.nvme_machine.specs.Secrecy as machine
use Rattle.nvme_machine.specs.FaultFree as below
use Rattle.nvme_machine.specs.Subsystems.{controller_at}
use Rattle.nvme_machine.proofs.Determined as subsystem
use Rattle.nvme_machine.proofs.Posted.{unread_stands}
use Rattle.nvme_mailbox.specs.FaultFree.{fault_free_left, fault_free_replies}
use Rattle.nvme_mailbox.specs.Secrecy as mailbox
use Rattle.nvme_mailbox.proofs.Determined.{failures_never_fall}
use Rattle.nvme_mailbox.proofs.Existing.{run_exists}
use Rattle.nvme_fleet.specs.FleetStates.{fleet_in}
use Rattle.nvme_theorem_runs.specs.Cluster.{cluster, held_by_a1, stores}
use Rattle.nvme_theorem_runs.specs.Fencing.{fenced, fenced_events}
use Rattle.nvme_theorem_runs.specs.Queues.{entry, posted, sparing_events}
use Rattle.nvme_theorem_runs.proofs.Laying.{laid}
use Rattle.nvme_theorem_runs.proofs.QueueRuns.{posted_at_work}
use Rattle.nvme_session_runs.specs.BothLayers.{raw_layers}
use Rattle.nvme_session_runs.specs.RunCalls.{execution}
use Rattle.nvme_session_runs.specs.RunFaults.{FailuresAtWork, UnreadAtWork, failed_once}

-- An unread completion.

another : ◌≡◌ {A = ℕ} 2 1 → ⊥
another e = absurd (cc)

pub unread_at_work : UnreadAtWork
unfolding sparing_events
unread_at_work =
    let run = posted_at_work.run in
    let kept : (d : Controller) × (controller_at run.0 1 ≡ Some d) × StandsUnread entry d =
    elim (unread_stands true posted run.0 (stores 2 8192 (1 ∷ [])) _ run.1 posted_at_work.windows 1
    posted_at_work.controller entry posted_at_work.at posted_at_work.stands) [
      | inl stays ↦ stays
      | inr taken ↦ absurd (another taken.0)
    ] in
    record { seen = _; next = run.0; step = run.1; controller = kept.0; at = kept.1; stands = kept.2 }

-- A failed call.

fenced-laid : IsLaidOut (machine.over failed_once fenced).world (machine.over failed_once fenced).device.content
unfolding cluster
fenced-laid = laid (held_by_a1 1) [] []

site-laid : IsLaidOut (mailbox.over failed_once (fleet_in raw_layers)).site.world
    (mailbox.over failed_once (fleet_in raw_layers)).site.device.content
unfolding cluster fleet_in raw_layers
site-laid = laid (held_by_a1 1) [] []

pub failures_at_work : FailuresAtWork
failures_at_work = record {
  given = below.fault_free_seen (machine.over failed_once fenced) fenced_events;
  left = below.fault_free_left (machine.over failed_once fenced) fenced_events;
  run = (subsystem.run_exists (machine.over failed_once fenced) fenced_events fenced-laid).0;
  never = λ new seen h. subsystem.failures_never_fall true (machine.over failed_once fenced) new fenced_events seen h;
  replies = fault_free_replies (mailbox.over failed_once (fleet_in raw_layers)) execution;
  fleet = fault_free_left (mailbox.over failed_once (fleet_in raw_layers)) execution;
  fleet_run = (run_exists (mailbox.over failed_once (fleet_in raw_layers)) execution site-laid).0;
  fleet_never = λ new others h.
      failures_never_fall true (mailbox.over failed_once (fleet_in raw_layers)) new execution others h;
}
