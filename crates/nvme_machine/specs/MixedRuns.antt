-- Statements of the law `fencing_holds_of_each_event`: fencing at each single event of a run, with any events of any
-- hosts before and after it. The only premise is that the host of this event may not write, or not read, the namespace
-- in the state before it.
use Rattle.std.specs.Prelude.{◌≡◌, ◌<◌, ◌-◌, ◌^◌, ℕ, Bool, IsTrue, true, false, List, [], Some, slice_get}
use Rattle.std.specs.List.{AllByRecursion}
use Rattle.nvme_spec.specs.Blocks.{Device}
use Rattle.nvme_spec.specs.Layout.{Extent, IsLaidOut, extent_of, may_read, may_write}
use Rattle.nvme_spec.specs.MediumCalls.{MediumCall}
use Rattle.nvme_machine.specs.declared.event.Event.{Event}
use Rattle.nvme_machine.specs.declared.event.Event.TheVariants.{Execute}
use Rattle.nvme_machine.specs.declared.fetched.FetchedCommand.{FetchedCommand}
use Rattle.nvme_machine.specs.declared.seen.Seen.{Seen}
use Rattle.nvme_machine.specs.AllowedCalls.{HaveTheirOwn, IsCutAt, IsReading, KeepsOff}
use Rattle.nvme_machine.specs.Controllers.{Controller, names}
use Rattle.nvme_machine.specs.Fencing.{namespace_bytes}
use Rattle.nvme_machine.specs.Secrecy.{over, DifferIn}
use Rattle.nvme_machine.specs.Subsystems.{Subsystem, Step, OfItsController, controller_at}

-- A command of a controller is executed, on this namespace.
pub record ExecutesOn (n : ℕ) (now : Subsystem) (event : Event) : Type 0 where
  pub cntlid : ℕ
  pub index : ℕ
  pub is : event ≡ Execute cntlid index
  pub controller : Controller
  pub at : controller_at now cntlid ≡ Some controller
  pub command : FetchedCommand
  pub found : slice_get controller.fetched index ≡ Some command
  pub named : names n command ≡ true

-- An event leaves every byte of a namespace, and none of its calls writes a block of it. If it executes a command on
-- the namespace, its calls only read; if the host may not read either, there are none.
pub record WritesNothing (tells : Bool) (n : ℕ) (old now : Subsystem) (event : Event) (next : Subsystem)
    (own : List MediumCall) : Type 0 where
  pub bytes : IsTrue tells → IsLaidOut old.world old.device.content
      → namespace_bytes next n ≡ namespace_bytes now n
  pub blocks : (x : Extent) → HaveTheirOwn old.world → extent_of old.world n ≡ Some x
      → AllByRecursion (KeepsOff x) own
  pub reads : ExecutesOn n now event → AllByRecursion IsReading own
  pub silent : (run : ExecutesOn n now event) → may_read now.world run.cntlid n ≡ false → own ≡ []

-- With any events of any hosts before and after it, an event of a host that may not write a namespace at that moment
-- writes nothing there. The same holds for a power cycle.
abbrev pub FencingHoldsOfEachEvent : Type 0
FencingHoldsOfEachEvent =
    (tells : Bool) → (old new : Subsystem) → (front later : List Event) → (event : Event) → (seen : List Seen)
    → (calls : List MediumCall) → (n : ℕ) → (cut : IsCutAt tells old front event later seen new calls)
    → OfItsController (λ k. may_write cut.now.world k n ≡ false) event
    → WritesNothing tells n old cut.now event cut.next cut.own

-- Over another medium, whose blocks differ only in this namespace, an event can have the same result, and leave the
-- same state except for the medium: every controller with its window, its lists and its marks, and the access state.
abbrev pub CanBeSame : ℕ → Subsystem → Event → Seen → Subsystem → Device → Type 0
CanBeSame n now event gives next medium =
    (left : Device) × Step true (over medium now) event gives (over left next) × DifferIn n next.world next.device left

-- And without a fault of the medium it has that result and leaves that state.
abbrev pub IsSame : ℕ → Subsystem → Event → Seen → Subsystem → Device → Type 0
IsSame n now event gives next medium =
    (other : Subsystem) → (others : Seen) → Step true (over medium now) event others other
    → next.device.failures ≡ now.device.failures → other.device.failures ≡ now.device.failures
    → now.device.failures < 2 ^ 64 - 1
    → (others ≡ gives) × (other ≡ over other.device next) × DifferIn n next.world next.device other.device

-- With any events of any hosts before and after it, an event of a host that may not read a namespace at that moment is
-- the same for any bytes of the namespace.
abbrev pub SecrecyHoldsOfEachEvent : Type 0
SecrecyHoldsOfEachEvent =
    (old new : Subsystem) → (front later : List Event) → (event : Event) → (seen : List Seen)
    → (calls : List MediumCall) → (n : ℕ) → (medium : Device) → IsLaidOut old.world old.device.content
    → (cut : IsCutAt true old front event later seen new calls)
    → OfItsController (λ k. may_read cut.now.world k n ≡ false) event
    → DifferIn n cut.now.world cut.now.device medium
    → CanBeSame n cut.now event cut.gives cut.next medium × IsSame n cut.now event cut.gives cut.next medium
