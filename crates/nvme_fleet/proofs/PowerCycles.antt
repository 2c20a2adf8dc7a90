-- For laws about power cycles: what a power cycle removes in the subsystem, and what persists there.
use Rattle.nvme_fleet.proofs.Words.{
  ◌≡◌,
  ◌≢◌,
  inl,
  inr,
  ℕ,
  true,
  List,
  [],
  ◌∷◌,
  Some,
  refl,
  ap,
  subst,
  ◌∙◌,
  UntilCycle,
  Device,
  bytes_of,
  reservation_of,
  Event,
  Seen,
  Cycled,
  Subsystem,
  FleetEvent,
  Execute,
  PowerCycle,
  Reply,
  Layers,
  fleet_in,
  LeavesReservation,
  ReservesNothing,
  is_laid_out,
  namespace_bytes,
}
use Rattle.nvme_spec.specs.PowerLaws.{protection_at}
use Rattle.nvme_machine.specs.declared.event.Event.TheVariants as event
use Rattle.nvme_machine.specs.Fencing as machine_fencing
use Rattle.nvme_machine.specs.PowerCycles.{Persists}
use Rattle.nvme_machine.specs.Subsystems as machine
use Rattle.nvme_machine.proofs.Layouts as machine_layouts
use Rattle.nvme_machine.proofs.PowerCycles as machine_proofs
use Rattle.nvme_fleet.specs.Layers as layers
use Rattle.nvme_fleet.specs.Bytes as bytes
use Rattle.nvme_fleet.proofs.Bytes.{by-event, fencing_holds, layout_stays}
use Rattle.nvme_fleet.proofs.Secrecy.{layers_read_the_same}
use Rattle.nvme_fleet.specs.PowerCycles.{
  BytesOutlastPower,
  LayersOutlastPower,
  PowerTakes,
  ProtectedUntilPower,
  ReservesNothingBelow,
}
use Rattle.nvme_mailbox.proofs.PowerCycles.{fleeting, left-so, stays-reserved}

pub power_takes : PowerTakes
power_takes tells old new reply step =
    machine_proofs.power_takes tells old.subsystem new.subsystem Cycled (refl, step.below.cycled)

-- Both layers.

lasts-over : (old new : Layers) (events : List FleetEvent) (replies : List Reply) (n : ℕ)
    → Persists old.subsystem.world n → bytes.RunWhere (λ l. ReservesNothing n (fleet_in l)) old events replies new
    → bytes.RunWhere (λ l. LeavesReservation n (fleet_in l)) old events replies new
unfolding fleet_in
lasts-over old new [] [] n p run = run
lasts-over old new (e ∷ events) (x ∷ later) n p (mid, allowed, step, behind) =
    let quiet = left-so n (fleet_in old) e p allowed in
    let same = stays-reserved true (fleet_in old) (fleet_in mid) e x n step.mailboxes quiet in (
      mid,
      quiet,
      step,
      lasts-over mid new events later n
          (machine_proofs.persists-still old.subsystem.world mid.subsystem.world n same p) behind,
    )
lasts-over old new events later n p run = absurd run

pub layers_outlast_power : LayersOutlastPower
layers_outlast_power old new other medium events replies others n regular tickets differ p run shut second
    calm quiet low =
    layers_read_the_same old new other medium events replies others n regular tickets differ
    (lasts-over old new events replies n p run) shut second calm quiet low

left-below : (n : ℕ) (l : Layers) (e : FleetEvent) → Persists l.subsystem.world n → ReservesNothingBelow n l e
    → bytes.LeavesReservation n l e
left-below n l (Execute k i) p quiet = quiet
left-below n l PowerCycle p quiet = fleeting l.subsystem.world n p
left-below n l event p quiet = tt

-- so at the subsystem
below-so : (old new : Layers) (e : FleetEvent) (n : ℕ) → bytes.LeavesReservation n old e
    → Persists old.subsystem.world n → (reply : Reply) → layers.Step true old e reply new
    → reservation_of new.subsystem.world n ≡ reservation_of old.subsystem.world n
below-so old new e n quiet p reply step =
    by-event true old new e reply (reservation_of new.subsystem.world n ≡ reservation_of old.subsystem.world n) step
    (λ same. ap (λ w. reservation_of w n) same.world)
    (λ k i is given one. stays old.subsystem new.subsystem (event.Execute k i) given one
    (subst (bytes.LeavesReservation n old) is quiet, λ forgotten. forgotten))
    (λ is one. stays old.subsystem new.subsystem event.PowerCycle Cycled one
    ((λ allowed. allowed), fleeting old.subsystem.world n p))
  where
    stays : (a b : Subsystem) (one : Event) (given : Seen) → machine.Step true a one given b
        → machine_fencing.LeavesReservation n a one → reservation_of b.world n ≡ reservation_of a.world n
    stays a b one given step quiet = elim (machine_layouts.only_allowed_actions_reserve true a b one given n step) [
      | inl same ↦ same
      | inr (inl allowed) ↦ absurd (quiet.0 allowed)
      | inr (inr forgotten) ↦ absurd (quiet.1 forgotten)
    ]

lasts-below : (old new : Layers) (events : List FleetEvent) (replies : List Reply) (n : ℕ)
    → Persists old.subsystem.world n → bytes.RunWhere (ReservesNothingBelow n) old events replies new
    → bytes.RunWhere (bytes.LeavesReservation n) old events replies new
lasts-below old new [] [] n p run = run
lasts-below old new (e ∷ events) (x ∷ later) n p (mid, allowed, step, behind) =
    let quiet = left-below n old e p allowed in
    let same = below-so old mid e n quiet p x step in (
      mid,
      quiet,
      step,
      lasts-below mid new events later n
          (machine_proofs.persists-still old.subsystem.world mid.subsystem.world n same p) behind,
    )
lasts-below old new events later n p run = absurd run

pub bytes_outlast_power : BytesOutlastPower
bytes_outlast_power old new events replies n laid p run shut =
    fencing_holds old new events replies n laid (lasts-below old new events replies n p run) shut

-- Write protection.

abbrev StaysProtected : ℕ → Layers → Layers → Type 0
StaysProtected n old new =
    (namespace_bytes new n ≡ namespace_bytes old n) × (protection_at new.subsystem.world n ≡ Some UntilCycle)

one-protected : (old new : Layers) (e : FleetEvent) (reply : Reply) (n : ℕ) → is_laid_out old
    → protection_at old.subsystem.world n ≡ Some UntilCycle → e ≢ PowerCycle → layers.Step true old e reply new
    → StaysProtected n old new
one-protected old new e reply n laid is powered step =
    by-event true old new e reply (StaysProtected n old new) step
    (λ same.
    let d = same.device in (
      ap (λ x. bytes_of x new.subsystem.device.content n) same.world
          ∙ ap (λ (x : Device). bytes_of old.subsystem.world x.content n) d,
      ap (λ x. protection_at x n) same.world ∙ is,
    ))
    (λ k i at given one.
    machine_proofs.protected_until_power old.subsystem new.subsystem (event.Execute k i ∷ []) (given ∷ []) n laid is
    ((λ same. executes-no-cycle k i same), tt) (new.subsystem, one, refl))
    (λ at one. absurd (powered at))
  where
    executes-no-cycle : (k i : ℕ) → event.Execute k i ≡ event.PowerCycle → ⊥
    executes-no-cycle k i same = absurd (cc)

pub protected_until_power : ProtectedUntilPower
protected_until_power old new [] [] n laid is powered run =
    (ap (λ l. namespace_bytes l n) run, ap (λ (l : Layers). protection_at l.subsystem.world n) run ∙ is)
protected_until_power old new (e ∷ events) (x ∷ later) n laid is powered (mid, step, behind) =
    let one = one-protected old mid e x n laid is powered.0 step in
    let rest =
    protected_until_power mid new events later n (layout_stays old mid e x laid step) one.1 powered.1 behind in
    (rest.0 ∙ one.0, rest.1)
protected_until_power old new events later n laid is powered run = absurd run
