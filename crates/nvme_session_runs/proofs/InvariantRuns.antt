-- For `invariants.rt`: what the runs of DriverRuns, ReplayRuns and LayerRuns keep.
use Rattle.std.proofs.Common.{
  ◌≡◌,
  ◌∙◌,
  ◌<◌,
  ◌≢◌,
  ◌-◌,
  ◌^◌,
  ℕ,
  true,
  false,
  [],
  length,
  None,
  Some,
  refl,
  sym,
  subst,
  arith,
}
use Rattle.std.specs.Prelude.{take}
use Rattle.nvme_spec.specs.Blocks.{Device}
use Rattle.nvme_spec.specs.Configuration.{Configuration, config_fault}
use Rattle.nvme_spec.specs.Layout.{may_write}
use Rattle.nvme_machine.specs.Controllers.{Controller, new_controller, power_cycled}
use Rattle.nvme_spec.specs.World.{World}
use Rattle.nvme_spec.specs.Power.{cycled_world}
use Rattle.nvme_machine.specs.declared.event.Event.TheVariants as below
use Rattle.nvme_machine.specs.Subsystems.{controller_at, opening}
use Rattle.nvme_machine.proofs.Windows.{opening_has_its_windows}
use Rattle.nvme_mailbox.specs.Fleets as mailboxes
use Rattle.nvme_mailbox.specs.Fleets.{Raw, host_at}
use Rattle.nvme_mailbox.specs.Determined.{failures_in}
use Rattle.nvme_mailbox.specs.FaultFree.{fault_free_left, fault_free_replies}
use Rattle.nvme_mailbox.specs.IoCommands.{AreNumbered}
use Rattle.nvme_mailbox.specs.Regular.{IsRegular}
use Rattle.nvme_mailbox.proofs.Determined.{run_is_unique}
use Rattle.nvme_mailbox.proofs.Existing.{run_exists}
use Rattle.nvme_mailbox.proofs.Numbered.{numbers_stay, opening_is_numbered}
use Rattle.nvme_mailbox.proofs.Regular.{opening_is_regular, regularity_stays}
use Rattle.nvme_fleet.specs.DriverEvents.{window_at}
use Rattle.nvme_fleet.specs.FleetStates.{fleet_in, opening_layers}
use Rattle.nvme_fleet.proofs.Bytes.{layout_stays, others_windows_stay, permissions_stay, runs_of_mailboxes}
use Rattle.nvme_fleet.proofs.FleetOpening.{opened-mailboxes}
use Rattle.nvme_fleet.proofs.Unique.{tickets_stay_once}
use Rattle.nvme_theorem_runs.specs.Cluster.{blocks, pair, zeros}
use Rattle.nvme_theorem_runs.proofs.Computing.{leaves, leaving}
use Rattle.nvme_theorem_runs.proofs.Unfolding.{computing}
use Rattle.nvme_session_runs.proofs.DriverRuns.{asked, at, begins, drivers_at_work, ended, fetched, off, run, world}
use Rattle.nvme_session_runs.proofs.DriverEvents.{under}
use Rattle.nvme_session_runs.proofs.LayerRuns.{layers_at_work}
use Rattle.nvme_session_runs.proofs.ReplayRuns.{played_at_work}
use Rattle.nvme_session_runs.specs.BothLayers.{executed_at, raw_layers, reply_at}
use Rattle.nvme_session_runs.specs.DriverLayers.{events, opened, replies}
use Rattle.nvme_session_runs.specs.Invariants.{DriversKeep, OpeningsAtWork, RawHostsKeep, two_blocks}
use Rattle.nvme_session_runs.specs.Replays as raw
use Rattle.nvme_event.specs.declared.event.FleetEvent.TheVariants.{Execute}

-- Openings.

pub mailboxes-of : (c : Configuration) (d : Device) → fleet_in (opening_layers c d) ≡ mailboxes.opening c d
mailboxes-of c d = opened-mailboxes c d (opening c d) _ [] refl refl

accepted : config_fault pair two_blocks ≡ None
unfolding config_fault
accepted = refl

raw-accepted : config_fault raw.set_up raw.one_block ≡ None
unfolding config_fault
raw-accepted = refl

long : length blocks.content ≡ 1024
long = refl

regular : IsRegular (fleet_in opened)
regular = subst IsRegular (sym (mailboxes-of pair blocks)) (opening_is_regular pair blocks two_blocks long accepted)

numbered : AreNumbered (fleet_in raw.opened)
numbered = subst AreNumbered (sym (mailboxes-of raw.set_up raw.disk))
    (opening_is_numbered raw.set_up raw.disk raw.one_block raw-accepted)

first-host : host_at (fleet_in raw.opened) 1 ≡ Some (Raw (new_controller 1))
unfolding host_at fleet_in opening
first-host = refl

size : length (window_at opened.subsystem 2) ≡ 4194304
unfolding controller_at opening
size = (opening_has_its_windows pair blocks 2 (new_controller 2) refl).window

pub openings_at_work : OpeningsAtWork
openings_at_work = record {
  accepted = accepted;
  regular = regular;
  windows = opening_has_its_windows pair blocks;
  size = size;
  raw_accepted = raw-accepted;
  numbered = numbered;
  raw_host = first-host;
}

-- Hosts with drivers.

above : mailboxes.Run true (fleet_in opened) events replies (fleet_in ended)
above = runs_of_mailboxes true opened ended events replies run

few : failures_in (fleet_in opened) < 2 ^ 64 - 1
unfolding fleet_in opening
few = omega arith

calm : failures_in (fleet_in ended) ≡ failures_in (fleet_in opened)
unfolding fleet_in opening
calm = refl

only : (replies ≡ fault_free_replies (fleet_in opened) events)
    × (fleet_in ended ≡ fault_free_left (fleet_in opened) events)
only = run_is_unique (fleet_in opened) (fleet_in ended) events replies above calm few

-- the memory of controller 2 before and after a power cycle
same-window : (w : World) (v : Device) (x c : Controller) → window_at (under w v (power_cycled x) c) 2 ≡ x.window
unfolding controller_at
same-window w v x c = refl

pub drivers_keep : DriversKeep
drivers_keep = record {
  between = at asked fetched;
  begins = begins;
  left = ended;
  run = run;
  regular = regularity_stays (fleet_in opened) (fleet_in (at asked fetched)) (take 4 events) (take 4 replies)
      (runs_of_mailboxes true opened (at asked fetched) (take 4 events) (take 4 replies) begins) regular;
  holder = asked;
  holds = refl;
  next = refl;
  held = refl;
  once = tickets_stay_once true opened (at asked fetched) (take 4 events) (take 4 replies) begins
      drivers_at_work.once 0 asked refl;
  window = same-window (cycled_world world) blocks (new_controller 2) (power_cycled off);
  exists = subst (λ given. mailboxes.Run true (fleet_in opened) events given (fault_free_left (fleet_in opened) events))
      (sym only.0) (run_exists (fleet_in opened) events regular.laid).0;
  computed = sym only.0;
  leaves = sym only.1;
}

-- Raw hosts.

raw-host : host_at (fleet_in raw.ended) 1 ≡ Some (Raw raw.cycled)
unfolding host_at fleet_in opening
raw-host = refl

was-zeros : window_at raw_layers.subsystem 1 ≡ zeros
unfolding computing raw_layers
was-zeros = refl

reserves-nothing : leaves 1 raw_layers.subsystem (below.Execute 2 1) ≡ true
unfolding computing raw_layers
reserves-nothing = refl

may-write : (may_write raw_layers.subsystem.world 1 1 ≡ true) × (may_write raw_layers.subsystem.world 2 1 ≡ false)
unfolding computing raw_layers
may-write = (refl, refl)

permits : (k : ℕ) → may_write (executed_at 2 1).subsystem.world k 1 ≡ may_write raw_layers.subsystem.world k 1
permits = permissions_stay true raw_layers (executed_at 2 1) (Execute 2 1) (reply_at 2 1) 1 layers_at_work.written
    (leaving 1 raw_layers.subsystem (below.Execute 2 1) reserves-nothing).0

others : ◌≢◌ {A = ℕ} 1 2
others e = absurd (cc)

pub raw_hosts_keep : RawHostsKeep
raw_hosts_keep = record {
  numbered = numbers_stay true (fleet_in raw.opened) (fleet_in raw.ended) raw.events raw.replies
      (runs_of_mailboxes true raw.opened raw.ended raw.events raw.replies played_at_work.run) numbered;
  raw_host = raw-host;
  laid = layout_stays raw_layers (executed_at 2 1) (Execute 2 1) (reply_at 2 1) layers_at_work.laid
      layers_at_work.written;
  window = others_windows_stay true raw_layers (executed_at 2 1) (Execute 2 1) (reply_at 2 1) layers_at_work.written 1
      others ∙ was-zeros;
  holder = permits 1 ∙ may-write.0;
  fenced = permits 2 ∙ may-write.1;
}
