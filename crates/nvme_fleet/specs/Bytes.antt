-- Statements of laws on the bytes of namespaces, and on hosts' memory: what hosts may change of both, over events and
-- over runs of both layers.
use Rattle.std.specs.Prelude.{◌≡◌, ◌≢◌, ℕ, Bool, true, false, List, [], ◌∷◌}
use Rattle.std.specs.List.{AllByRecursion}
use Rattle.nvme_spec.specs.Commands.{reserving}
use Rattle.nvme_spec.specs.Layout.{IsLaidOut, bytes_of, may_write, reservation_of}
use Rattle.nvme_machine.specs.declared.event.Event.TheVariants as event
use Rattle.nvme_machine.specs.Fencing.{Allows, IsFleeting}
use Rattle.nvme_event.specs.declared.event.FleetEvent.{FleetEvent}
use Rattle.nvme_event.specs.declared.event.FleetEvent.TheVariants.{
  BringUp,
  Place,
  Ring,
  Fetch,
  Execute,
  Poll,
  Reset,
  RawStore,
  RawWrite32,
  PowerCycle,
}
use Rattle.nvme_event.specs.Events.{controller_of, OfItsHost}
use Rattle.nvme_event.specs.Replies.{Reply}
use Rattle.nvme_fleet.specs.DriverEvents.{window_at}
use Rattle.nvme_fleet.specs.FleetStates.{Layers, fleet_in}
use Rattle.nvme_mailbox.specs.Fleets as mailboxes
use Rattle.nvme_fleet.specs.Layers.{Step, Run}

-- A run of both layers is one of the mailboxes, so that all laws of their runs hold of it.
abbrev pub RunsOfMailboxes : Type 0
RunsOfMailboxes =
    (tells : Bool) → (old new : Layers) → (events : List FleetEvent) → (replies : List Reply)
    → Run tells old events replies new → mailboxes.Run tells (fleet_in old) events replies (fleet_in new)

-- the bytes of a namespace
abbrev pub namespace_bytes : Layers → ℕ → List ℕ
namespace_bytes l n = bytes_of l.subsystem.world l.subsystem.device.content n

abbrev pub is_laid_out : Layers → Type 0
is_laid_out l = IsLaidOut l.subsystem.world l.subsystem.device.content

-- An event of a host that may not write a namespace changes no byte of it, nor does a power cycle.
abbrev pub FencedEventsWriteNothing : Type 0
FencedEventsWriteNothing =
    (old new : Layers) → (event : FleetEvent) → (reply : Reply) → (n : ℕ) → is_laid_out old
    → Step true old event reply new → OfItsHost (λ k. may_write old.subsystem.world k n ≡ false) event
    → namespace_bytes new n ≡ namespace_bytes old n

-- The layout of namespaces never changes.
abbrev pub LayoutStays : Type 0
LayoutStays =
    (old new : Layers) → (event : FleetEvent) → (reply : Reply) → is_laid_out old → Step true old event reply new
    → is_laid_out new

-- the event executes no reservation command on the namespace that all rules let pass, and is not a power cycle that
-- ends the reservation
abbrev pub LeavesReservation : ℕ → Layers → FleetEvent → Type 0
LeavesReservation n l (Execute k i) = Allows reserving l.subsystem (event.Execute k i) n → ⊥
LeavesReservation n l (BringUp k) = Unit {0}
LeavesReservation n l (Place k request) = Unit {0}
LeavesReservation n l (Ring k) = Unit {0}
LeavesReservation n l (Fetch k q) = Unit {0}
LeavesReservation n l (Poll k) = Unit {0}
LeavesReservation n l (Reset k) = Unit {0}
LeavesReservation n l (RawStore k address bytes) = Unit {0}
LeavesReservation n l (RawWrite32 k offset v) = Unit {0}
LeavesReservation n l PowerCycle = IsFleeting (reservation_of l.subsystem.world n) → ⊥

-- Then every host's permission to write is unchanged.
abbrev pub PermissionsStay : Type 0
PermissionsStay =
    (tells : Bool) → (old new : Layers) → (event : FleetEvent) → (reply : Reply) → (n : ℕ)
    → Step tells old event reply new → LeavesReservation n old event
    → (k : ℕ) → may_write new.subsystem.world k n ≡ may_write old.subsystem.world k n

-- a run in which each event has a property in the state before it
abbrev pub RunWhere : (Layers → FleetEvent → Type 0) → Layers → List FleetEvent → List Reply → Layers → Type 0
RunWhere P old [] [] new = new ≡ old
RunWhere P old (event ∷ events) (reply ∷ later) new =
    (mid : Layers) × P old event × Step true old event reply mid × RunWhere P mid events later new
RunWhere P old [] (reply ∷ later) new = ⊥
RunWhere P old (event ∷ events) [] new = ⊥

-- Fencing holds. Suppose that every reservation command on a namespace is denied, and power is not lost or the
-- reservation persists. Then no list of events of hosts that may not write the namespace changes any of its bytes, and
-- these hosts still may not write it.
abbrev pub FencingHolds : Type 0
FencingHolds =
    (old new : Layers) → (events : List FleetEvent) → (replies : List Reply) → (n : ℕ) → is_laid_out old
    → RunWhere (LeavesReservation n) old events replies new
    → AllByRecursion (OfItsHost (λ k. may_write old.subsystem.world k n ≡ false)) events
    → (namespace_bytes new n ≡ namespace_bytes old n)
    × ((k : ℕ) → may_write new.subsystem.world k n ≡ may_write old.subsystem.world k n)

-- No event changes a byte of the memory that another host shares with its controller.
abbrev pub OthersWindowsStay : Type 0
OthersWindowsStay =
    (tells : Bool) → (old new : Layers) → (event : FleetEvent) → (reply : Reply) → Step tells old event reply new
    → (j : ℕ) → j ≢ controller_of event → window_at new.subsystem j ≡ window_at old.subsystem j
