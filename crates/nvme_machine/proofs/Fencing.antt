-- For laws about fencing: it holds over runs.
use Rattle.std.proofs.Common.{◌≡◌, inl, inr, ℕ, Bool, true, false, List, [], ◌∷◌, Option, None, Some, refl, ap, ◌∙◌}
use Rattle.std.specs.Prelude.{option_map}
use Rattle.std.specs.List.{AllByRecursion}
use Rattle.nvme_spec.specs.declared.access.Group.{Group}
use Rattle.nvme_spec.specs.declared.access.Group.TheVariants.{Read as Reading, Write as Writing}
use Rattle.nvme_spec.specs.declared.access.Role.TheVariants.{Outsider}
use Rattle.nvme_spec.specs.Access.{is_permitted}
use Rattle.nvme_spec.specs.Reservation as resv
use Rattle.nvme_spec.specs.World.{World, Namespace, host_of, namespace_of}
use Rattle.nvme_spec.specs.IoRules.{permits_group}
use Rattle.nvme_spec.specs.Layout.{reservation_of, may_write, may_read}
use Rattle.nvme_machine.specs.declared.event.Event.{Event}
use Rattle.nvme_machine.specs.declared.event.Event.TheVariants.{PowerCycle}
use Rattle.nvme_machine.specs.declared.seen.Seen.{Seen}
use Rattle.nvme_machine.specs.Subsystems.{Subsystem, OfItsController, Step, controller_of}
use Rattle.nvme_machine.specs.Fencing.{namespace_bytes, LeavesReservation, PermissionsStay, FencingHolds}
use Rattle.nvme_machine.proofs.Layouts.{
  step-extents,
  layout_stays,
  only_allowed_actions_reserve,
  fenced_events_write_nothing,
}

-- a host's permissions depend only on the reservation
permits-by : (o p : Option Namespace) (host : Option ℕ) (group : Group)
    → option_map (λ (m : Namespace). m.reservation) o ≡ option_map (λ (m : Namespace). m.reservation) p
    → permits_group o host group ≡ permits_group p host group
permits-by None None host group e = refl
permits-by None (Some b) host group e = absurd (cc)
permits-by (Some a) None host group e = absurd (cc)
permits-by (Some a) (Some b) None group e = let same : a.reservation ≡ b.reservation = cc in
    ap (λ (r : resv.Reservation). is_permitted r.hold Outsider group) same
permits-by (Some a) (Some b) (Some host) group e = let same : a.reservation ≡ b.reservation = cc in
    ap (λ (r : resv.Reservation). is_permitted r.hold (resv.role_of r host) group) same

pub may-still : (old new : World) (n k : ℕ) → host_of new k ≡ host_of old k
    → reservation_of new n ≡ reservation_of old n → may_write new k n ≡ may_write old k n
unfolding may_write reservation_of
may-still old new n k hosts same = ap (λ h. permits_group (namespace_of new n) h Writing) hosts
    ∙ permits-by (namespace_of new n) (namespace_of old n) (host_of old k) Writing same

pub read-still : (old new : World) (n k : ℕ)
    → host_of new k ≡ host_of old k → reservation_of new n ≡ reservation_of old n → may_read new k n ≡ may_read old k n
unfolding may_read reservation_of
read-still old new n k hosts same = ap (λ h. permits_group (namespace_of new n) h Reading) hosts
    ∙ permits-by (namespace_of new n) (namespace_of old n) (host_of old k) Reading same

pub permissions_stay : PermissionsStay
permissions_stay tells old new event seen n step quiet k =
    let same = step-extents tells old new event seen step in
    elim (only_allowed_actions_reserve tells old new event seen n step) [
      | inl reservation ↦ may-still old.world new.world n k (same.hosts k) reservation
      | inr (inl allowed) ↦ absurd (quiet.0 allowed)
      | inr (inr forgets) ↦ absurd (quiet.1 forgets)
    ]

-- so do those for reading
pub reading-stays : (tells : Bool) (old new : Subsystem) (event : Event) (seen : Seen) (n : ℕ)
    → Step tells old event seen new → LeavesReservation n old event
    → (k : ℕ) → may_read new.world k n ≡ may_read old.world k n
reading-stays tells old new event seen n step quiet k =
    let same = step-extents tells old new event seen step in
    elim (only_allowed_actions_reserve tells old new event seen n step) [
      | inl reservation ↦ read-still old.world new.world n k (same.hosts k) reservation
      | inr (inl allowed) ↦ absurd (quiet.0 allowed)
      | inr (inr forgets) ↦ absurd (quiet.1 forgets)
    ]

-- a property of the controllers of events in one world is one in the next
of-one : (P Q : ℕ → Type 0) → ((k : ℕ) → P k → Q k) → (event : Event)
    → OfItsController P event → OfItsController Q event
of-one P Q f PowerCycle h = tt
of-one P Q f event h = f (controller_of event) h

pub of-each : (P Q : ℕ → Type 0) → ((k : ℕ) → P k → Q k) → (events : List Event)
    → AllByRecursion (OfItsController P) events → AllByRecursion (OfItsController Q) events
of-each P Q f [] h = tt
of-each P Q f (event ∷ events) h = (of-one P Q f event h.0, of-each P Q f events h.1)

pub still-fenced : (old new : World) (n : ℕ) (events : List Event) → ((k : ℕ) → may_write new k n ≡ may_write old k n)
    → AllByRecursion (OfItsController (λ k. may_write old k n ≡ false)) events
    → AllByRecursion (OfItsController (λ k. may_write new k n ≡ false)) events
still-fenced old new n events same h =
    of-each (λ k. may_write old k n ≡ false) (λ k. may_write new k n ≡ false) (λ k fenced. same k ∙ fenced) events h

pub fencing_holds : FencingHolds
fencing_holds old new [] [] n laid run fenced =
    (ap (λ s. namespace_bytes s n) run, λ k. ap (λ s. may_write s.world k n) run)
fencing_holds old new [] (x ∷ later) n laid run fenced = absurd run
fencing_holds old new (event ∷ events) [] n laid run fenced = absurd run
fencing_holds old new (event ∷ events) (x ∷ later) n laid run fenced =
    let mid = run.0 in
    let same = permissions_stay true old mid event x n run.2 run.1 in
    let rest = fencing_holds mid new events later n (layout_stays old mid event x laid run.2) run.3
    (still-fenced old.world mid.world n events same fenced.1) in
    (rest.0 ∙ fenced_events_write_nothing old mid event x n laid run.2 fenced.0, λ k. rest.1 k ∙ same k)
