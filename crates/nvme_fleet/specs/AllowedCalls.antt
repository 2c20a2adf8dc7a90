-- Statements of laws on the calls that events of a fleet make of the medium, for any behaviour of the medium and
-- whether or not it reveals its content: each call is made for a command that all rules let pass, on blocks of its
-- namespace; and fenced hosts make no writing calls.
use Rattle.std.specs.Prelude.{◌≡◌, ℕ, Bool, true, false, List, [], ◌∷◌, ◌++◌, Some, slice_get}
use Rattle.std.specs.List.{AllByRecursion}
use Rattle.nvme_spec.specs.Layout.{Extent, extent_of, may_read, may_write}
use Rattle.nvme_spec.specs.MediumCalls.{MediumCall}
use Rattle.nvme_machine.specs.declared.fetched.FetchedCommand.{FetchedCommand}
use Rattle.nvme_machine.specs.AllowedCalls.{IsCallOf, HaveTheirOwn, IsReading, KeepsOff}
use Rattle.nvme_machine.specs.Controllers.{Controller, names}
use Rattle.nvme_machine.specs.Subsystems.{controller_at}
use Rattle.nvme_event.specs.declared.event.FleetEvent.{FleetEvent}
use Rattle.nvme_event.specs.declared.event.FleetEvent.TheVariants.{
  BringUp,
  Place,
  Ring,
  Fetch,
  Execute,
  Poll,
  Reset,
  RawStore,
  RawWrite32,
  PowerCycle,
}
use Rattle.nvme_event.specs.Events.{OfItsHost}
use Rattle.nvme_event.specs.Replies.{Reply}
use Rattle.nvme_fleet.specs.Bytes.{LeavesReservation}
use Rattle.nvme_fleet.specs.FleetStates.{Layers}
use Rattle.nvme_fleet.specs.LayerCalls.{AreCallsOfStep, AreCallsOfRun}
use Rattle.nvme_fleet.specs.Layers.{Run}

-- only executions make calls
abbrev pub MayCall : Layers → FleetEvent → MediumCall → Type 0
MayCall l (Execute k i) call = IsCallOf l.subsystem k i call
MayCall l (BringUp k) call = ⊥
MayCall l (Place k request) call = ⊥
MayCall l (Ring k) call = ⊥
MayCall l (Fetch k q) call = ⊥
MayCall l (Poll k) call = ⊥
MayCall l (Reset k) call = ⊥
MayCall l (RawStore k address bytes) call = ⊥
MayCall l (RawWrite32 k offset v) call = ⊥
MayCall l PowerCycle call = ⊥

-- A block is written only by a Write or Write Zeroes that all rules let pass, on a namespace that has the block and
-- that the reservation lets its host write, with that command's bytes. A block is read only by such a Read or Compare,
-- and the medium is flushed only by such a Flush.
abbrev pub CallsAreAllowed : Type 0
CallsAreAllowed =
    (tells : Bool) → (old new : Layers) → (event : FleetEvent) → (reply : Reply) → (calls : List MediumCall)
    → AreCallsOfStep tells old event reply new calls → AllByRecursion (MayCall old event) calls

-- A call is made by one of the events, and is allowed in the state before that event.
pub record ComesFrom (tells : Bool) (old : Layers) (events : List FleetEvent) (call : MediumCall) : Type 0 where
  pub front : List FleetEvent
  pub event : FleetEvent
  pub later : List FleetEvent
  pub split : events ≡ front ++ event ∷ later
  pub given : List Reply
  pub now : Layers
  pub reached : Run tells old front given now
  pub may : MayCall now event call

-- Each call in every run is allowed.
abbrev pub CallsOfRunsAreAllowed : Type 0
CallsOfRunsAreAllowed =
    (tells : Bool) → (old new : Layers) → (events : List FleetEvent) → (replies : List Reply)
    → (calls : List MediumCall) → AreCallsOfRun tells old events replies new calls
    → AllByRecursion (ComesFrom tells old events) calls

-- a run with its calls, in which each event has a property in the state before it
abbrev pub CallsWhere : (Layers → FleetEvent → Type 0) → Bool → Layers → List FleetEvent → List Reply → Layers
    → List MediumCall → Type 0
CallsWhere P tells old [] [] new calls = (new ≡ old) × (calls ≡ [])
CallsWhere P tells old (event ∷ events) (reply ∷ later) new calls =
    (mid : Layers) × (here : List MediumCall) × (behind : List MediumCall) × P old event
    × AreCallsOfStep tells old event reply mid here × CallsWhere P tells mid events later new behind
    × (calls ≡ here ++ behind)
CallsWhere P tells old [] (reply ∷ later) new calls = ⊥
CallsWhere P tells old (event ∷ events) [] new calls = ⊥

-- Fencing holds for calls. Suppose that every reservation command on a namespace is denied, and power is not lost or
-- the reservation persists. Then in any list of events of hosts that may not write the namespace, no call writes any of
-- its blocks.
abbrev pub FencedHostsWriteNoBlock : Type 0
FencedHostsWriteNoBlock =
    (tells : Bool) → (old new : Layers) → (events : List FleetEvent) → (replies : List Reply)
    → (calls : List MediumCall) → (n : ℕ) → (x : Extent) → HaveTheirOwn old.subsystem.world
    → extent_of old.subsystem.world n ≡ Some x → CallsWhere (LeavesReservation n) tells old events replies new calls
    → AllByRecursion (OfItsHost (λ k. may_write old.subsystem.world k n ≡ false)) events
    → AllByRecursion (KeepsOff x) calls

-- A command on a namespace that its host may not write makes no write or flush call. If the host may not read the
-- namespace either, the command makes no call.
abbrev pub FencedCommandsCallNothing : Type 0
FencedCommandsCallNothing =
    (tells : Bool) → (old new : Layers) → (k i n : ℕ) → (c : Controller) → (t : FetchedCommand) → (reply : Reply)
    → (calls : List MediumCall) → AreCallsOfStep tells old (Execute k i) reply new calls
    → controller_at old.subsystem k ≡ Some c → slice_get c.fetched i ≡ Some t → names n t ≡ true
    → may_write old.subsystem.world k n ≡ false
    → AllByRecursion IsReading calls × (may_read old.subsystem.world k n ≡ false → calls ≡ [])
