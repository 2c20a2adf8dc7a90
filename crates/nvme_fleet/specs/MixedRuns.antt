-- Statements of the law `fencing_holds_of_each_event`: fencing at each single event of a fleet, with any events of any
-- hosts before and after it. The only premise is that the host of this event may not write, or not read, the namespace
-- in the state before it.
use Rattle.std.specs.Prelude.{◌≡◌, ◌<◌, ◌-◌, ◌^◌, ℕ, Bool, IsTrue, true, false, List, [], ◌∷◌, ◌++◌, Some, slice_get}
use Rattle.std.specs.List.{AllByRecursion}
use Rattle.nvme_spec.specs.Blocks.{Device}
use Rattle.nvme_spec.specs.Layout.{Extent, extent_of, may_read, may_write}
use Rattle.nvme_spec.specs.MediumCalls.{MediumCall}
use Rattle.nvme_machine.specs.declared.fetched.FetchedCommand.{FetchedCommand}
use Rattle.nvme_machine.specs.AllowedCalls.{HaveTheirOwn, IsReading, KeepsOff}
use Rattle.nvme_machine.specs.Controllers.{Controller, names}
use Rattle.nvme_machine.specs.Secrecy.{DifferIn}
use Rattle.nvme_machine.specs.Subsystems.{controller_at}
use Rattle.nvme_event.specs.declared.event.FleetEvent.{FleetEvent}
use Rattle.nvme_event.specs.declared.event.FleetEvent.TheVariants.{Execute}
use Rattle.nvme_event.specs.Events.{OfItsHost}
use Rattle.nvme_event.specs.Replies.{Reply}
use Rattle.nvme_fleet.specs.Bytes.{is_laid_out, namespace_bytes}
use Rattle.nvme_fleet.specs.FleetStates.{Layers, fleet_in}
use Rattle.nvme_mailbox.specs.Fleets as mailboxes
use Rattle.nvme_fleet.specs.LayerCalls.{AreCallsOfRun, AreCallsOfStep}
use Rattle.nvme_fleet.specs.Layers.{Step}
use Rattle.nvme_mailbox.specs.Regular.{IsRegular}
use Rattle.nvme_fleet.specs.Secrecy.{layers_over}
use Rattle.nvme_mailbox.specs.Secrecy.{over}
use Rattle.nvme_fleet.specs.Unique.{HaveTicketsOnce}

-- A run at one of its events: the states before and after it, and the events before and after it. The calls of the
-- earlier events come before its own, and those of the later events after them.
pub record IsCutAt (tells : Bool) (old : Layers) (front : List FleetEvent) (event : FleetEvent)
    (later : List FleetEvent) (replies : List Reply) (new : Layers) (calls : List MediumCall) : Type 0 where
  pub given : List Reply
  pub gives : Reply
  pub rest : List Reply
  pub told : replies ≡ given ++ gives ∷ rest
  pub now : Layers
  pub next : Layers
  pub before : List MediumCall
  pub own : List MediumCall
  pub behind : List MediumCall
  pub first : AreCallsOfRun tells old front given now before
  pub then_this : AreCallsOfStep tells now event gives next own
  pub then_those : AreCallsOfRun tells next later rest new behind
  pub joined : calls ≡ before ++ (own ++ behind)

-- This applies to each event of each run.
abbrev pub EachEventIsReached : Type 0
EachEventIsReached =
    (tells : Bool) → (old new : Layers) → (front later : List FleetEvent) → (event : FleetEvent)
    → (replies : List Reply) → (calls : List MediumCall)
    → AreCallsOfRun tells old (front ++ event ∷ later) replies new calls
    → IsCutAt tells old front event later replies new calls

-- A command of a controller is executed, on this namespace.
pub record ExecutesOn (n : ℕ) (now : Layers) (event : FleetEvent) : Type 0 where
  pub cntlid : ℕ
  pub index : ℕ
  pub is : event ≡ Execute cntlid index
  pub controller : Controller
  pub at : controller_at now.subsystem cntlid ≡ Some controller
  pub command : FetchedCommand
  pub found : slice_get controller.fetched index ≡ Some command
  pub named : names n command ≡ true

-- An event leaves every byte of a namespace, and none of its calls writes a block of it. If it executes a command on
-- the namespace, its calls only read; if the host may not read either, there are none.
pub record WritesNothing (tells : Bool) (n : ℕ) (old now : Layers) (event : FleetEvent) (next : Layers)
    (own : List MediumCall) : Type 0 where
  pub bytes : IsTrue tells → is_laid_out old → namespace_bytes next n ≡ namespace_bytes now n
  pub blocks : (x : Extent) → HaveTheirOwn old.subsystem.world → extent_of old.subsystem.world n ≡ Some x
      → AllByRecursion (KeepsOff x) own
  pub reads : ExecutesOn n now event → AllByRecursion IsReading own
  pub silent : (run : ExecutesOn n now event) → may_read now.subsystem.world run.cntlid n ≡ false → own ≡ []

-- With any events of any hosts before and after it, an event of a host that may not write a namespace at that moment
-- writes nothing there. The same holds for a power cycle.
abbrev pub FencingHoldsOfEachEvent : Type 0
FencingHoldsOfEachEvent =
    (tells : Bool) → (old new : Layers) → (front later : List FleetEvent) → (event : FleetEvent)
    → (replies : List Reply) → (calls : List MediumCall) → (n : ℕ)
    → (cut : IsCutAt tells old front event later replies new calls)
    → OfItsHost (λ k. may_write cut.now.subsystem.world k n ≡ false) event
    → WritesNothing tells n old cut.now event cut.next cut.own

-- Over another medium, whose blocks differ only in this namespace, an event of the mailboxes can have the same reply,
-- and leave the same state except for the medium.
abbrev pub CanBeSame : ℕ → Layers → FleetEvent → Reply → Layers → Device → Type 0
CanBeSame n now event gives next medium =
    (left : Device) × mailboxes.Step true (over medium (fleet_in now)) event gives (over left (fleet_in next))
    × DifferIn n next.subsystem.world next.subsystem.device left

-- And without a fault of the medium it has that reply, and leaves the same of both layers except the medium: every
-- driver, every controller with the memory that it shares with its host, its lists and its marks, and the access state.
abbrev pub IsSame : ℕ → Layers → FleetEvent → Reply → Layers → Device → Type 0
IsSame n now event gives next medium =
    (other : Layers) → (another : Reply) → Step true (layers_over medium now) event another other
    → next.subsystem.device.failures ≡ now.subsystem.device.failures
    → other.subsystem.device.failures ≡ now.subsystem.device.failures
    → now.subsystem.device.failures < 2 ^ 64 - 1
    → (another ≡ gives) × (other ≡ layers_over other.subsystem.device next)
    × DifferIn n next.subsystem.world next.subsystem.device other.subsystem.device

-- With any events of any hosts before and after it, an event of a host that may not read a namespace at that moment is
-- the same for any bytes of the namespace.
abbrev pub SecrecyHoldsOfEachEvent : Type 0
SecrecyHoldsOfEachEvent =
    (old new : Layers) → (front later : List FleetEvent) → (event : FleetEvent) → (replies : List Reply)
    → (calls : List MediumCall) → (n : ℕ) → (medium : Device) → IsRegular (fleet_in old) → HaveTicketsOnce old
    → (cut : IsCutAt true old front event later replies new calls)
    → OfItsHost (λ k. may_read cut.now.subsystem.world k n ≡ false) event
    → DifferIn n cut.now.subsystem.world cut.now.subsystem.device medium
    → CanBeSame n cut.now event cut.gives cut.next medium × IsSame n cut.now event cut.gives cut.next medium
