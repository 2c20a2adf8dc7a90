-- For laws about power cycles: what a power cycle leaves of the access state.
use Rattle.std.proofs.Common.{
  ◌≡◌,
  ℕ,
  ◌==◌,
  Bool,
  true,
  false,
  cond,
  List,
  [],
  ◌∷◌,
  map,
  Option,
  None,
  Some,
  refl,
  sym,
  ap,
  ◌∙◌,
}
use Rattle.std.specs.Prelude.{find, option_map, if◌then◌else◌}
use Rattle.std.specs.List.{AllByRecursion}
use Rattle.nvme_spec.specs.declared.access.Group.{Group}
use Rattle.nvme_spec.specs.declared.access.Group.TheVariants.{Read as Reading, Write as Writing}
use Rattle.nvme_spec.specs.declared.access.Protection.{Protection}
use Rattle.nvme_spec.specs.declared.access.Protection.TheVariants.{Open, Protected, UntilCycle}
use Rattle.nvme_spec.specs.Report.{ControllerHost}
use Rattle.nvme_spec.specs.Reservation.{Reservation, unreserved}
use Rattle.nvme_spec.specs.World.{World, Namespace, host_of, namespace_of}
use Rattle.nvme_spec.specs.IoRules.{permits_group}
use Rattle.nvme_spec.specs.Layout.{Extent, extent_of, reservation_of, may_read, may_write}
use Rattle.nvme_spec.specs.Sound.{IsSoundReservation, namespace_place}
use Rattle.nvme_spec.specs.Power.{cycled_reservation, cycled_protection, cycled_namespace, cycled_world}
use Rattle.nvme_spec.specs.PowerLaws.{
  protection_at,
  CycleKeepsPlaces,
  CycleKeepsPersistent,
  CycleKeepsRights,
  CycleForgetsOthers,
  CycleEndsProtection,
  CycleKeepsItSound,
  CyclesAreOne,
}
use Rattle.nvme_spec.proofs.SoundWorlds.{sound-by}

-- the namespace found after a power cycle is the power-cycled one
found-cycled : (n : ℕ) (ns : List Namespace)
    → find (λ m. m.nsid == n) (map cycled_namespace ns) ≡ option_map cycled_namespace (find (λ m. m.nsid == n) ns)
found-cycled n [] = refl
found-cycled n (m ∷ ms) =
    elim (m.nsid == n) as (λ b. cond b (Some (cycled_namespace m)) (find (λ x. x.nsid == n) (map cycled_namespace ms))
    ≡ option_map cycled_namespace (cond b (Some m) (find (λ x. x.nsid == n) ms))) [
      | true ↦ refl
      | false ↦ found-cycled n ms
    ]

pub cycled-at : (w : World) (n : ℕ) → namespace_of (cycled_world w) n ≡ option_map cycled_namespace (namespace_of w n)
unfolding namespace_of cycled_world
cycled-at w n = found-cycled n w.namespaces

-- a property that a namespace and its power-cycled one share
alike : {X : Type 0} (f g : Namespace → X) → ((m : Namespace) → f (cycled_namespace m) ≡ g m) → (o : Option Namespace)
    → option_map f (option_map cycled_namespace o) ≡ option_map g o
alike f g same None = refl
alike f g same (Some m) = ap Some (same m)

extent : Namespace → Extent
extent space = record { first = space.first; blocks = space.blocks }

pub cycle_keeps_places : CycleKeepsPlaces
unfolding extent_of host_of cycled_world
cycle_keeps_places w = record {
  controllers = refl;
  attachments = refl;
  hosts = λ k. refl;
  extents = λ n.
      ap (option_map (λ (space : Namespace). record { first = space.first; blocks = space.blocks })) (cycled-at w n)
      ∙ alike (λ (space : Namespace). record { first = space.first; blocks = space.blocks })
      (λ (space : Namespace). record { first = space.first; blocks = space.blocks }) (λ m. refl) (namespace_of w n);
}

-- the reservation that is found
pub cycled-reservation-at : (w : World) (n : ℕ)
    → reservation_of (cycled_world w) n ≡ option_map cycled_reservation (reservation_of w n)
unfolding reservation_of
cycled-reservation-at w n =
    ap (option_map (λ (m : Namespace). m.reservation)) (cycled-at w n) ∙ by (namespace_of w n)
  where
    by : (o : Option Namespace) → option_map (λ (m : Namespace). m.reservation) (option_map cycled_namespace o)
        ≡ option_map cycled_reservation (option_map (λ (m : Namespace). m.reservation) o)
    by None = refl
    by (Some m) = refl

pub cycle_keeps_persistent : CycleKeepsPersistent
cycle_keeps_persistent w n r is persists =
    cycled-reservation-at w n ∙ ap (option_map cycled_reservation) is
    ∙ ap (λ b. Some (if b then r else unreserved)) persists

pub cycle_forgets_others : CycleForgetsOthers
cycle_forgets_others w n r is gone =
    cycled-reservation-at w n ∙ ap (option_map cycled_reservation) is
    ∙ ap (λ b. Some (if b then r else unreserved)) gone

-- permissions depend only on the reservation
permits-alike : (o p : Option Namespace) (host : Option ℕ) (group : Group)
    → option_map (λ (m : Namespace). m.reservation) p ≡ option_map (λ (m : Namespace). m.reservation) o
    → permits_group p host group ≡ permits_group o host group
permits-alike None None host group same = refl
permits-alike None (Some m) host group same = absurd (cc)
permits-alike (Some m) None host group same = absurd (cc)
permits-alike (Some m) (Some k) None group same = cc
permits-alike (Some m) (Some k) (Some host) group same = cc

pub cycle_keeps_rights : CycleKeepsRights
unfolding may_write may_read reservation_of host_of
cycle_keeps_rights w n r is persists k =
    let same = cycle_keeps_persistent w n r is persists ∙ sym is in
    let host = (cycle_keeps_places w).hosts k in (
      ap (λ h. permits_group (namespace_of (cycled_world w) n) h Writing) host
          ∙ permits-alike (namespace_of w n) (namespace_of (cycled_world w) n) (host_of w k) Writing same,
      ap (λ h. permits_group (namespace_of (cycled_world w) n) h Reading) host
          ∙ permits-alike (namespace_of w n) (namespace_of (cycled_world w) n) (host_of w k) Reading same,
    )

pub cycle_ends_protection : CycleEndsProtection
unfolding protection_at
cycle_ends_protection w n =
    ap (option_map (λ (m : Namespace). m.protection)) (cycled-at w n) ∙ by (namespace_of w n)
  where
    by : (o : Option Namespace) → option_map (λ (m : Namespace). m.protection) (option_map cycled_namespace o)
        ≡ option_map cycled_protection (option_map (λ (m : Namespace). m.protection) o)
    by None = refl
    by (Some m) = refl

-- Soundness.

places-cycled : (ns : List Namespace) → map namespace_place (map cycled_namespace ns) ≡ map namespace_place ns
places-cycled [] = refl
places-cycled (n ∷ ns) = ap (λ ss. namespace_place n ∷ ss) (places-cycled ns)

either-sound : (ks : List ControllerHost) (b : Bool) (r : Reservation)
    → IsSoundReservation ks r → IsSoundReservation ks (if b then r else unreserved)
either-sound ks true r h = h
either-sound ks false r h = record { rising = tt; known = tt; held = tt; typed = tt }

reservations-cycled : (ks : List ControllerHost) (ns : List Namespace)
    → AllByRecursion (λ (n : Namespace). IsSoundReservation ks n.reservation) ns
    → AllByRecursion (λ (n : Namespace). IsSoundReservation ks n.reservation) (map cycled_namespace ns)
reservations-cycled ks [] h = tt
reservations-cycled ks (n ∷ ns) h =
    (either-sound ks n.reservation.ptpl n.reservation h.0, reservations-cycled ks ns h.1)

pub cycle_keeps_it_sound : CycleKeepsItSound
unfolding cycled_world
cycle_keeps_it_sound w sound =
    sound-by w (cycled_world w) sound refl (places-cycled w.namespaces) sound.attachments
    (reservations-cycled w.controllers w.namespaces sound.reservations)

-- A second power cycle changes nothing more.

reservation-again : (b : Bool) (r : Reservation)
    → r.ptpl ≡ b → cycled_reservation (cycled_reservation r) ≡ cycled_reservation r
reservation-again true r h =
    ap cycled_reservation (ap (λ (c : Bool). if c then r else unreserved) h) ∙ refl
reservation-again false r h =
    ap cycled_reservation (ap (λ (c : Bool). if c then r else unreserved) h)
    ∙ sym (ap (λ (c : Bool). if c then r else unreserved) h)

protection-again : (p : Protection) → cycled_protection (cycled_protection p) ≡ cycled_protection p
protection-again Open = refl
protection-again Protected = refl
protection-again UntilCycle = refl

namespace-again : (n : Namespace) → cycled_namespace (cycled_namespace n) ≡ cycled_namespace n
namespace-again n =
    ap (λ (r : Reservation). record (cycled_namespace (cycled_namespace n)) { reservation = r })
    (reservation-again n.reservation.ptpl n.reservation refl)
    ∙ ap (λ (p : Protection). record (cycled_namespace n) { protection = p }) (protection-again n.protection)

all-again : (ns : List Namespace) → map cycled_namespace (map cycled_namespace ns) ≡ map cycled_namespace ns
all-again [] = refl
all-again (n ∷ ns) = ap (λ m. m ∷ map cycled_namespace (map cycled_namespace ns)) (namespace-again n)
    ∙ ap (λ ms. cycled_namespace n ∷ ms) (all-again ns)

pub cycles_are_one : CyclesAreOne
unfolding cycled_world
cycles_are_one w = ap (λ ns. record w { namespaces = ns }) (all-again w.namespaces)
