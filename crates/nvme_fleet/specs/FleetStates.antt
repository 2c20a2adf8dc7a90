-- How contracts see a fleet: its subsystem, the driver of each controller's host, and a buffer for the data of the last
-- event. The k-th driver is that of controller k; a raw host has none.
use Rattle.std.specs.Prelude.{
  ◌≡◌,
  ◌≤◌,
  ℕ,
  List,
  [],
  ◌∷◌,
  length,
  map,
  take,
  Option,
  None,
  Some,
  slice_get,
  if◌then◌else◌,
}
use Rattle.nvme_spec.specs.declared.config.ControllerConfig.{ControllerConfig}
use Rattle.nvme_spec.specs.Limits.{most_bytes}
use Rattle.nvme_driver.specs.Drivers.{Driver, new_driver}
use Rattle.nvme_machine.specs.Controllers.{Controller}
use Rattle.nvme_spec.specs.Blocks.{Device}
use Rattle.nvme_spec.specs.Configuration.{Configuration}
use Rattle.nvme_machine.specs.Subsystems as machine
use Rattle.nvme_machine.specs.Subsystems.{Subsystem}
use Rattle.nvme_event.specs.declared.seen.FleetSeen.{FleetSeen}
use Rattle.nvme_event.specs.declared.seen.FleetSeen.TheVariants.{NoDriver}
use Rattle.nvme_event.specs.Replies.{Reply, data_len}
use Rattle.nvme_fleet.specs.declared.driver_call.DriverCall.{DriverCall}
use Rattle.nvme_fleet.specs.declared.driver_call.DriverCall.TheVariants.{BringUp, Place, Ring, Poll, Reset}
use Rattle.nvme_mailbox.specs.Mailboxes.{Mailbox}
use Rattle.nvme_mailbox.specs.Deliveries as mail
use Rattle.nvme_mailbox.specs.Deliveries.{MailboxReaction, plain}
use Rattle.nvme_mailbox.specs.Fleets.{Host, WithDriver, Raw, Fleet}
use Rattle.nvme_refinement.specs.Sound.{Sound, mailbox}
use Rattle.nvme_refinement.specs.Steps.{IsStep}

-- The data are at the front of the buffer.
pub record FleetState : Type 0 where
  pub subsystem : Subsystem
  pub drivers : List (Option Driver)
  pub buffer : List ℕ
  pub filled : ℕ

-- the host of a controller: the mailbox of its driver and its controller, or its controller
abbrev pub host_by : Option Driver → Controller → Host
host_by None c = Raw c
host_by (Some d) c = WithDriver (mailbox d c)

abbrev pub hosts_of : List (Option Driver) → List Controller → List Host
hosts_of [] cs = []
hosts_of (d ∷ ds) [] = []
hosts_of (d ∷ ds) (c ∷ cs) = host_by d c ∷ hosts_of ds cs

-- the driver of a controller's host at the opening of a configuration
abbrev pub opening_driver : ControllerConfig → Option Driver
opening_driver k = if k.raw then None else Some (new_driver 1)

-- its two layers: the subsystem, and the drivers
pub record Layers : Type 0 where
  pub subsystem : Subsystem
  pub drivers : List (Option Driver)

abbrev pub layers_of : FleetState → Layers
layers_of s = record { subsystem = s.subsystem; drivers = s.drivers }

-- the fleet of their mailboxes
unfoldable pub fleet_in : Layers → Fleet
fleet_in l = record {
  site = record { world = l.subsystem.world; device = l.subsystem.device };
  hosts = hosts_of l.drivers l.subsystem.controllers;
}

abbrev pub fleet_of : FleetState → Fleet
fleet_of s = fleet_in (layers_of s)

-- the opening of a configuration over a medium: the subsystem opened, every driver down
abbrev pub opening_layers : Configuration → Device → Layers
opening_layers c d = record { subsystem = machine.opening c d; drivers = map opening_driver c.controllers }

abbrev pub data_in : FleetState → List ℕ
data_in s = take s.filled s.buffer

-- the reply: its bytes are at the front of the buffer
abbrev pub reply_in : FleetSeen → List ℕ → Reply
reply_in what buffer = record { seen = what; bytes = take (data_len what) buffer }

-- the effect of a call of a driver on its mailbox
abbrev pub reaction_to : DriverCall → Mailbox → MailboxReaction
reaction_to BringUp m = mail.brought_up m
reaction_to (Place request) m = mail.placed m request
reaction_to Ring m = mail.rung m
reaction_to Poll m = mail.polled m
reaction_to Reset m = mail.reset m

-- a host's driver, if it has one, is sound with its controller
abbrev pub SoundBy : Option Driver → Controller → Type 0
SoundBy None c = Unit {0}
SoundBy (Some d) c = Sound d c

-- A host's driver is called, if it has one.
abbrev pub IsCalled : Option Driver → Controller → DriverCall → Option Driver → Controller → Reply → Type 0
IsCalled None c call e d reply = (e ≡ None) × (d ≡ c) × (reply ≡ plain NoDriver)
IsCalled (Some f) c call e d reply = (g : Driver) × (e ≡ Some g) × IsStep (reaction_to call (mailbox f c)) g d reply

-- The invariant of a fleet: there is a place for a driver at each controller, and each driver is sound with its
-- controller; the buffer is long enough for the data of any request.
pub record IsSoundFleet (s : FleetState) : Type 0 where
  pub pairs : length s.drivers ≡ length s.subsystem.controllers
  pub sound : (i : ℕ) (d : Option Driver) (c : Controller) → slice_get s.drivers i ≡ Some d
      → slice_get s.subsystem.controllers i ≡ Some c → SoundBy d c
  pub room : length s.buffer ≡ most_bytes
  pub fits : s.filled ≤ length s.buffer
