-- Laws of a target: whatever arrives on the connections of a host, in any order and between any events of others, makes
-- events of that host's controllers alone, which its reservations fence (NVM Express Base Specification 2.0,
-- Reservations, Connect Command).
use Rattle.std.specs.Prelude.{◌≡◌, ◌++◌, ℕ, Bool, IsTrue, true, false, List, [], map, replicate, Option, Some, None}
use Rattle.nvme_spec.specs.declared.access.Group.TheVariants.{Read as Reading, Write as Writing}
use Rattle.nvme_spec.specs.declared.config.ControllerConfig.{ControllerConfig}
use Rattle.nvme_spec.specs.Blocks.{Device}
use Rattle.nvme_spec.specs.Configuration.{Configuration, Capacity, config_fault}
use Rattle.nvme_spec.specs.IoRules.{permits_group}
use Rattle.nvme_spec.specs.Layout.{IsLaidOut}
use Rattle.nvme_spec.specs.MediumCalls.{MediumCall}
use Rattle.nvme_spec.specs.World.{World as Access, namespace_of, opening_world}
use Rattle.nvme_machine.specs.declared.event.Event.{Event}
use Rattle.nvme_machine.specs.declared.seen.Seen.{Seen}
use Rattle.nvme_machine.specs.AllowedCalls.{IsCutAt}
use Rattle.nvme_machine.specs.Fencing.{namespace_bytes}
use Rattle.nvme_machine.specs.MixedRuns.{WritesNothing, CanBeSame, IsSame}
use Rattle.nvme_machine.specs.Secrecy.{DifferIn}
use Rattle.nvme_machine.specs.Subsystems.{Subsystem, controller_of}
use Rattle.nvme_fabrics.specs.Runs.{Input}
use Rattle.nvme_target.specs.Causes.{Cause, connection_in, MayCause, IsOfHost, AreHostsOf}

-- the reservation of a namespace lets a host write it, or read it
abbrev pub lets_write : Access → ℕ → ℕ → Bool
lets_write w host n = permits_group (namespace_of w n) (Some host) Writing

abbrev pub lets_read : Access → ℕ → ℕ → Bool
lets_read w host n = permits_group (namespace_of w n) (Some host) Reading

-- An event that a connection causes is one of a controller whose host that connection has named.
abbrev pub EventsAreOfNamedHosts : Type 0
EventsAreOfNamedHosts =
    (hosts : List (Option ℕ)) → (has_keys : Bool) → (inputs : List Input) → (cause : Cause) → (event : Event)
    → (k : ℕ) → (w : Access) → AreHostsOf hosts w → connection_in cause ≡ Some k
    → MayCause hosts has_keys inputs cause event → IsOfHost has_keys inputs cause w event

-- Fencing holds over the wire. In any run of the subsystem, with any events before and after it: an event that a
-- connection causes is of a host that the connection has named. If the reservation of a namespace then does not let
-- this host write, the event changes no byte of it and writes none of its blocks.
abbrev pub FencingHoldsOverTheWire : Type 0
FencingHoldsOverTheWire =
    (hosts : List (Option ℕ)) → (has_keys : Bool) → (inputs : List Input) → (cause : Cause) → (event : Event)
    → (k n : ℕ) → (tells : Bool) → (old new : Subsystem) → (front later : List Event) → (seen : List Seen)
    → (calls : List MediumCall) → AreHostsOf hosts old.world
    → (cut : IsCutAt tells old front event later seen new calls)
    → connection_in cause ≡ Some k → MayCause hosts has_keys inputs cause event
    → (of : IsOfHost has_keys inputs cause cut.now.world event)
    × (lets_write cut.now.world of.host n ≡ false → WritesNothing tells n old cut.now event cut.next cut.own)

-- If it does not let this host read, the event is the same for any bytes of the namespace.
abbrev pub SecrecyHoldsOverTheWire : Type 0
SecrecyHoldsOverTheWire =
    (hosts : List (Option ℕ)) → (has_keys : Bool) → (inputs : List Input) → (cause : Cause) → (event : Event)
    → (k n : ℕ) → (old new : Subsystem) → (front later : List Event) → (seen : List Seen)
    → (calls : List MediumCall) → (medium : Device) → AreHostsOf hosts old.world
    → IsLaidOut old.world old.device.content
    → (cut : IsCutAt true old front event later seen new calls)
    → connection_in cause ≡ Some k → MayCause hosts has_keys inputs cause event
    → (of : IsOfHost has_keys inputs cause cut.now.world event)
    × (lets_read cut.now.world of.host n ≡ false → DifferIn n cut.now.world cut.now.device medium
    → CanBeSame n cut.now event cut.gives cut.next medium × IsSame n cut.now event cut.gives cut.next medium)

-- What no connection causes writes nothing at all, and makes no call of the medium.
pub record TouchesNothing (tells : Bool) (n : ℕ) (old now next : Subsystem) (own : List MediumCall) : Type 0 where
  pub bytes : IsTrue tells → IsLaidOut old.world old.device.content
      → namespace_bytes next n ≡ namespace_bytes now n
  pub silent : own ≡ []

abbrev pub TargetItselfTouchesNothing : Type 0
TargetItselfTouchesNothing =
    (hosts : List (Option ℕ)) → (has_keys : Bool) → (inputs : List Input) → (cause : Cause) → (event : Event)
    → (n : ℕ) → (tells : Bool) → (old new : Subsystem) → (front later : List Event) → (seen : List Seen)
    → (calls : List MediumCall) → (cut : IsCutAt tells old front event later seen new calls)
    → connection_in cause ≡ None → MayCause hosts has_keys inputs cause event
    → TouchesNothing tells n old cut.now cut.next cut.own

-- A connection's cause is of one controller: two events that it may make happen at the same time are of the same one.
abbrev pub CausesAreOfOneController : Type 0
CausesAreOfOneController =
    (hosts : List (Option ℕ)) → (has_keys : Bool) → (inputs : List Input) → (cause : Cause) → (one other : Event)
    → MayCause hosts has_keys inputs cause one → MayCause hosts has_keys inputs cause other
    → controller_of one ≡ controller_of other

-- the hosts of a configuration, and places without a controller after them
abbrev pub hosts_of : Configuration → ℕ → List (Option ℕ)
hosts_of c more = map (λ (k : ControllerConfig). Some k.host) c.controllers ++ replicate more None

-- The hosts of an accepted configuration are those of the subsystem that opens with it, and stay so in every run.
abbrev pub OpeningHasItsHosts : Type 0
OpeningHasItsHosts =
    (c : Configuration) → (size : Capacity) → (more : ℕ) → config_fault c size ≡ None
    → AreHostsOf (hosts_of c more) (opening_world c)

abbrev pub HostsStay : Type 0
HostsStay =
    (tells : Bool) → (hosts : List (Option ℕ)) → (old new : Subsystem) → (front later : List Event) → (event : Event)
    → (seen : List Seen) → (calls : List MediumCall) → (cut : IsCutAt tells old front event later seen new calls)
    → AreHostsOf hosts old.world → AreHostsOf hosts cut.now.world
