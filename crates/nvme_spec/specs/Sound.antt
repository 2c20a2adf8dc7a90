-- The invariant of a world: it holds at every opening, and every command keeps it (Base Specification: NVM Subsystem,
-- Shared and Private Namespaces, Namespace Attachment command, Reservations).
use Rattle.std.specs.Prelude.{
  ◌≢◌,
  ◌≡◌,
  ℕ,
  ◌+◌,
  ◌≤◌,
  ◌==◌,
  Bool,
  not,
  ◌&&◌,
  ◌||◌,
  IsTrue,
  List,
  [],
  ◌∷◌,
  map,
  None,
  is_some,
}
use Rattle.std.specs.List.{list_any, AllByRecursion}
use Rattle.nvme_spec.specs.declared.access.Hold.{Hold}
use Rattle.nvme_spec.specs.declared.access.Hold.TheVariants.{Free, One, All}
use Rattle.nvme_spec.specs.declared.outcome.Outcome.{Outcome}
use Rattle.nvme_spec.specs.declared.queues.Queues.{Queues}
use Rattle.nvme_spec.specs.Configuration.{Configuration, Capacity, config_fault}
use Rattle.nvme_spec.specs.Report.{ControllerHost, HasRisingIds}
use Rattle.nvme_spec.specs.Reservation.{Reservation, IsRising}
use Rattle.nvme_spec.specs.ReservationLaws.{IsHeldByRegistrants}
use Rattle.nvme_spec.specs.World.{World, Namespace, host_of, namespace_of, opening_world}
use Rattle.nvme_spec.specs.Attachments.{is_shared}
use Rattle.nvme_spec.specs.Execution.{Scene, Executes}
use Rattle.nvme_spec.specs.AdminEffects.{admin_execution}

-- a single host holds a reservation of type 1 to 4, all registrants one of type 5 or 6
abbrev pub IsTyped : Hold → Type 0
IsTyped Free = Unit {0}
IsTyped (One type holder) = (1 ≤ type) × (type ≤ 4)
IsTyped (All type) = (5 ≤ type) × (type ≤ 6)

-- the registrants are in rising order and hosts of controllers; the holder is registered
pub record IsSoundReservation (controllers : List ControllerHost) (r : Reservation) : Type 0 where
  pub rising : IsRising r.registrants
  pub known : AllByRecursion (λ x. IsTrue (list_any (λ (k : ControllerHost). x.host == k.1) controllers)) r.registrants
  pub held : IsHeldByRegistrants r
  pub typed : IsTyped r.hold

-- the place of a namespace, and who may share it: what no command changes
pub record NamespacePlace : Type 0 where
  pub nsid : ℕ
  pub first : ℕ
  pub blocks : ℕ
  pub shared : Bool

abbrev pub namespace_place : Namespace → NamespacePlace
namespace_place n = record { nsid = n.nsid; first = n.first; blocks = n.blocks; shared = n.shared }

-- no two have the same identifier, and each begins after the end of those before it
abbrev pub AreInOrder : List NamespacePlace → Type 0
AreInOrder [] = Unit {0}
AreInOrder (p ∷ rest) =
    AllByRecursion (λ (later : NamespacePlace). (later.nsid ≢ p.nsid) × (p.first + p.blocks ≤ later.first)) rest
    × AreInOrder rest

-- two attachments exclude each other: they are the same, or attach one private namespace
abbrev pub clash : (ℕ → Bool) → ℕ × ℕ → ℕ × ℕ → Bool
clash shared a b = (b.1 == a.1) && ((b.0 == a.0) || not (shared a.1))

-- attachments of these controllers to these namespaces, none of which clashes with a later one
abbrev pub AreAttachments : (ℕ → Bool) → (ℕ → Bool) → (ℕ → Bool) → List (ℕ × ℕ) → Type 0
AreAttachments controller namespace shared [] = Unit {0}
AreAttachments controller namespace shared (a ∷ rest) =
    IsTrue (controller a.0 && namespace a.1) × AllByRecursion (λ b. IsTrue (not (clash shared a b))) rest
    × AreAttachments controller namespace shared rest

abbrev pub is_controller : World → ℕ → Bool
is_controller w cntlid = is_some (host_of w cntlid)

abbrev pub is_namespace : World → ℕ → Bool
is_namespace w nsid = is_some (namespace_of w nsid)

abbrev pub is_shared_in : World → ℕ → Bool
is_shared_in w nsid = is_shared (namespace_of w nsid)

pub record IsSound (w : World) : Type 0 where
  pub controllers : HasRisingIds w.controllers
  pub hosts : AllByRecursion (λ (k : ControllerHost). k.1 ≢ 0) w.controllers
  pub namespaces : AreInOrder (map namespace_place w.namespaces)
  pub attachments : AreAttachments (is_controller w) (is_namespace w) (is_shared_in w) w.attachments
  pub reservations : AllByRecursion (λ (n : Namespace). IsSoundReservation w.controllers n.reservation) w.namespaces

-- a world that opens with an accepted configuration is sound
abbrev pub OpeningIsSound : Type 0
OpeningIsSound = (c : Configuration) → (size : Capacity) → config_fault c size ≡ None → IsSound (opening_world c)

-- every I/O command keeps it sound, whatever the medium does
abbrev pub ExecutionKeepsItSound : Type 0
ExecutionKeepsItSound =
    (tells : Bool) → (cntlid : ℕ) → (e : List ℕ) → (marked : Bool) → (old new : Scene) → (outcome : Outcome)
    → Executes tells cntlid e marked old new outcome → IsSound old.world → IsSound new.world

-- and every admin command
abbrev pub AdminExecutionKeepsItSound : Type 0
AdminExecutionKeepsItSound =
    (w : World) → (queues : Queues) → (cntlid : ℕ) → (e window : List ℕ) → IsSound w
    → IsSound (admin_execution w queues cntlid e window).world
