-- Example runs of the laws on what holds at each opening of a fleet, and on what stays over each run.
use Rattle.std.specs.Prelude.{◌≡◌, true, false, [], ◌∷◌, None, Some, length, take}
use Rattle.nvme_spec.specs.Configuration.{Capacity, config_fault, script_capacity}
use Rattle.nvme_spec.specs.Layout.{may_write}
use Rattle.nvme_spec.specs.Memory as memory
use Rattle.nvme_driver.specs.Drivers.{Driver, new_driver}
use Rattle.nvme_driver.specs.Once.{borne}
use Rattle.nvme_machine.specs.Controllers.{new_controller}
use Rattle.nvme_machine.specs.Windows.{AllHaveTheirWindows}
use Rattle.nvme_mailbox.specs.FaultFree.{fault_free_left, fault_free_replies}
use Rattle.nvme_mailbox.specs.Fleets as mailboxes
use Rattle.nvme_mailbox.specs.Fleets.{Raw, host_at}
use Rattle.nvme_mailbox.specs.IoCommands.{AreNumbered}
use Rattle.nvme_mailbox.specs.Regular.{IsRegular}
use Rattle.nvme_fleet.specs.Bytes.{is_laid_out}
use Rattle.nvme_fleet.specs.DriverEvents.{window_at}
use Rattle.nvme_fleet.specs.FleetStates.{Layers, fleet_in}
use Rattle.nvme_fleet.specs.Layers.{Run}
use Rattle.nvme_fleet.specs.Unique.{HasTicketsOnce}
use Rattle.nvme_theorem_runs.specs.Cluster.{pair, zeros}
use Rattle.nvme_session_runs.specs.BothLayers.{executed_at}
use Rattle.nvme_session_runs.specs.DriverLayers.{events, opened, replies}
use Rattle.nvme_session_runs.specs.Replays as raw

abbrev pub two_blocks : Capacity
two_blocks = script_capacity 2

-- OpeningIsRegular, OpeningHasItsWindows and OpeningIsNumbered: two accepted configurations, of hosts with drivers and
-- of a raw host.
pub record OpeningsAtWork : Type 0 where
  pub accepted : config_fault pair two_blocks ≡ None
  pub regular : IsRegular (fleet_in opened)
  pub windows : AllHaveTheirWindows opened.subsystem
  pub size : length (window_at opened.subsystem 2) ≡ 4194304
  pub raw_accepted : config_fault raw.set_up raw.one_block ≡ None
  pub numbered : AreNumbered (fleet_in raw.opened)
  pub raw_host : host_at (fleet_in raw.opened) 1 ≡ Some (Raw (new_controller 1))

-- Over the run of DriversAtWork. RegularityStays and TicketsStayOnce: after four events a driver holds a request, whose
-- ticket is in one slot. OthersWindowsStay: in the end the memory of the other host is as it was. RunExists: these are
-- the replies and the mailboxes that are computed for the events.
pub record DriversKeep : Type 0 where
  pub between : Layers
  pub begins : Run true opened (take 4 events) (take 4 replies) between
  pub regular : IsRegular (fleet_in between)
  pub holder : Driver
  pub holds : between.drivers ≡ Some holder ∷ Some (new_driver 1) ∷ []
  pub next : holder.next ≡ 2
  pub held : borne 1 holder.slots ≡ 1
  pub once : HasTicketsOnce holder
  pub left : Layers
  pub run : Run true opened events replies left
  pub window : window_at left.subsystem 2 ≡ memory.zeros
  pub exists : mailboxes.Run true (fleet_in opened) events replies (fault_free_left (fleet_in opened) events)
  pub computed : fault_free_replies (fleet_in opened) events ≡ replies
  pub leaves : fault_free_left (fleet_in opened) events ≡ fleet_in left

-- Over a run of raw hosts. NumbersStay: after nine events the controller has its number. LayoutStays and
-- OthersWindowsStay: a write of host b2h leaves the layout, and the memory of host a1h. PermissionsStay: host a1h may
-- still write namespace 1, and host b2h may not.
pub record RawHostsKeep : Type 0 where
  pub numbered : AreNumbered (fleet_in raw.ended)
  pub raw_host : host_at (fleet_in raw.ended) 1 ≡ Some (Raw raw.cycled)
  pub laid : is_laid_out (executed_at 2 1)
  pub window : window_at (executed_at 2 1).subsystem 1 ≡ zeros
  pub holder : may_write (executed_at 2 1).subsystem.world 1 1 ≡ true
  pub fenced : may_write (executed_at 2 1).subsystem.world 2 1 ≡ false
