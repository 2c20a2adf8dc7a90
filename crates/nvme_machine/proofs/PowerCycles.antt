-- Proofs of the laws about power cycles: what one removes, and what persists.
use Rattle.std.proofs.Common.{
  ◌≡◌,
  ◌≢◌,
  inl,
  inr,
  ℕ,
  zero,
  suc,
  ◌==◌,
  Bool,
  true,
  false,
  [],
  ◌∷◌,
  Option,
  None,
  Some,
  refl,
  sym,
  ap,
  subst,
  ◌∙◌,
}
use Rattle.std.specs.Prelude.{option_map, slice_index_or}
use Rattle.std.proofs.lemmas.Bool.{false≢true}
use Rattle.std.proofs.lemmas.Option.{none-some, same_Some}
use Rattle.nvme_spec.specs.declared.access.Protection.TheVariants.{UntilCycle}
use Rattle.nvme_spec.specs.declared.queues.Queues.{Queues}
use Rattle.nvme_spec.specs.World.{World}
use Rattle.nvme_spec.specs.Layout.{IsLaidOut, bytes_of, reservation_of}
use Rattle.nvme_spec.specs.Power.{cycled_protection, cycled_world}
use Rattle.nvme_spec.specs.PowerLaws.{KeepsPlaces, protection_at}
use Rattle.nvme_spec.specs.Execution.{Scene}
use Rattle.nvme_spec.proofs.Power.{
  cycle_keeps_places,
  cycle_keeps_persistent,
  cycle_forgets_others,
  cycle_ends_protection,
}
use Rattle.nvme_spec.proofs.Protected.{
  protected_commands_write_nothing,
  commands_keep_protection,
  protection_outlasts_commands,
}
use Rattle.nvme_machine.specs.declared.event.Event.{Event}
use Rattle.nvme_machine.specs.declared.event.Event.TheVariants.{PowerCycle}
use Rattle.nvme_machine.specs.declared.fetched.FetchedCommand.{FetchedCommand}
use Rattle.nvme_machine.specs.declared.seen.Seen.{Seen}
use Rattle.nvme_machine.specs.Controllers.{Controller, power_cycled, queues_of}
use Rattle.nvme_machine.specs.CommandExecutions.{CommandExecution, CommandComesTo, CommandComesToAs}
use Rattle.nvme_machine.specs.Subsystems.{Subsystem, Step, controller_at, scene_of, after_power_cycle}
use Rattle.nvme_machine.specs.Fencing.{namespace_bytes, Forgets, IsFleeting, LeavesReservation, ReservesNothing}
use Rattle.nvme_machine.specs.PowerCycles.{
  Persists,
  IsUnused,
  PowerTakes,
  PersistenceLasts,
  FencingOutlastsPower,
  SecrecyOutlastsPower,
  ProtectedUntilPower,
}
use Rattle.nvme_machine.proofs.Others.{cycled-at}
use Rattle.nvme_machine.proofs.Layouts.{
  Leaves,
  AsItWas,
  AfterExecution,
  PowerLost,
  admin-bytes,
  same-bytes,
  leaves,
  layout_stays,
  only_allowed_actions_reserve,
}
use Rattle.nvme_machine.proofs.Fencing.{fencing_holds}
use Rattle.nvme_machine.proofs.Secrecy.{fenced_reading}

-- What a power cycle removes.

-- five equal places, and none after them
no-queue : {A : Type 0} (none : A) (q : ℕ) → slice_index_or (none ∷ none ∷ none ∷ none ∷ none ∷ []) q none ≡ none
no-queue none zero = refl
no-queue none (suc zero) = refl
no-queue none (suc (suc zero)) = refl
no-queue none (suc (suc (suc zero))) = refl
no-queue none (suc (suc (suc (suc zero)))) = refl
no-queue none (suc (suc (suc (suc (suc q))))) = refl

cycled-is-unused : (c : Controller) → IsUnused (power_cycled c)
cycled-is-unused c =
    record { registers = refl; submission = λ q. no-queue None q; completion = λ q. no-queue None q; fetched = refl }

unused : (o : Option Controller) (d : Controller) → option_map power_cycled o ≡ Some d → IsUnused d
unused None d h = absurd (none-some _ h)
unused (Some c) d h = subst IsUnused (same_Some _ _ h) (cycled-is-unused c)

same-window : (o : Option Controller) → option_map (λ (c : Controller). c.window) (option_map power_cycled o)
    ≡ option_map (λ (c : Controller). c.window) o
same-window None = refl
same-window (Some c) = refl

pub power_takes : PowerTakes
unfolding after_power_cycle
power_takes tells old new seen step =
    let world : new.world ≡ cycled_world old.world = ap (λ (s : Subsystem). s.world) step.1 in
    record {
      places = subst (KeepsPlaces old.world) (sym world) (cycle_keeps_places old.world);
      device = ap (λ (s : Subsystem). s.device) step.1;
      persistent = λ n r is set. ap (λ w. reservation_of w n) world ∙ cycle_keeps_persistent old.world n r is set;
      fleeting = λ n r is clear. ap (λ w. reservation_of w n) world ∙ cycle_forgets_others old.world n r is clear;
      unprotected = λ n is. ap (λ w. protection_at w n) world ∙ cycle_ends_protection old.world n
          ∙ ap (option_map cycled_protection) is;
      protected = λ n is. ap (λ w. protection_at w n) world ∙ cycle_ends_protection old.world n
          ∙ ap (option_map cycled_protection) is;
      ended = λ n is. ap (λ w. protection_at w n) world ∙ cycle_ends_protection old.world n
          ∙ ap (option_map cycled_protection) is;
      windows = λ k. ap (option_map (λ (c : Controller). c.window)) (cycled-at old new k step.1)
          ∙ same-window (controller_at old k);
      unused = λ k c at. unused (controller_at old k) c (sym (cycled-at old new k step.1) ∙ at);
    }

-- What persists.

unforgotten : (n : ℕ) (s : Subsystem) (event : Event) → Persists s.world n → Forgets s event n → ⊥
unforgotten n s PowerCycle p h = let clear : p.reservation.ptpl ≡ false = subst IsFleeting p.there h in
    false≢true (sym clear ∙ p.set)
unforgotten n s event p h = h

-- an event leaves it
left-so : (n : ℕ) (s : Subsystem) (event : Event) → Persists s.world n → ReservesNothing n s event
    → LeavesReservation n s event
left-so n s event p quiet = (quiet, unforgotten n s event p)

stays-reserved : (old new : Subsystem) (event : Event) (seen : Seen) (n : ℕ) → Step true old event seen new
    → LeavesReservation n old event → reservation_of new.world n ≡ reservation_of old.world n
stays-reserved old new event seen n step quiet = elim (only_allowed_actions_reserve true old new event seen n step) [
  | inl same ↦ same
  | inr (inl allowed) ↦ absurd (quiet.0 allowed)
  | inr (inr forgets) ↦ absurd (quiet.1 forgets)
]

pub persists-still : (old new : World) (n : ℕ) → reservation_of new n ≡ reservation_of old n → Persists old n
    → Persists new n
persists-still old new n same p = record { reservation = p.reservation; there = same ∙ p.there; set = p.set }

pub persistence_lasts : PersistenceLasts
persistence_lasts old new [] [] n p run = (run, ap (λ (s : Subsystem). reservation_of s.world n) run)
persistence_lasts old new [] (x ∷ later) n p run = absurd run
persistence_lasts old new (event ∷ events) [] n p run = absurd run
persistence_lasts old new (event ∷ events) (x ∷ later) n p run =
    let mid : Subsystem = run.0 in
    let quiet = left-so n old event p run.1 in
    let same = stays-reserved old mid event x n run.2 quiet in
    let rest = persistence_lasts mid new events later n (persists-still old.world mid.world n same p) run.3 in
    ((mid, quiet, run.2, rest.0), rest.1 ∙ same)

pub fencing_outlasts_power : FencingOutlastsPower
fencing_outlasts_power old new events seen n laid p run fenced =
    let lasts = persistence_lasts old new events seen n p run in
    fencing_holds old new events seen n laid lasts.0 fenced

pub secrecy_outlasts_power : SecrecyOutlastsPower
secrecy_outlasts_power old new medium events seen n laid differ p run fenced =
    let lasts = persistence_lasts old new events seen n p run in
    fenced_reading old new medium events seen n laid differ lasts.0 fenced

-- What is protected until a power cycle.

abbrev KeepsProtected : ℕ → Scene → Scene → Type 0
KeepsProtected n s left = (bytes_of left.world left.device.content n ≡ bytes_of s.world s.device.content n)
    × (protection_at left.world n ≡ Some UntilCycle)

answer-protected : (admin : Bool) (queues : Queues) (k : ℕ) (t : FetchedCommand) (s : Scene) (a : CommandExecution)
    (n : ℕ) → IsLaidOut s.world s.device.content → CommandComesToAs admin true queues k t s a
    → protection_at s.world n ≡ Some UntilCycle → KeepsProtected n s a.left
answer-protected true queues k t s a n laid h is = (
  admin-bytes queues k t s a n h,
  ap (λ (x : CommandExecution). protection_at x.left.world n) h
      ∙ protection_outlasts_commands s.world queues k t.entry s.window n is,
)
answer-protected false queues k t s a n laid h is = (
  protected_commands_write_nothing k t.entry t.marked s a.left a.outcome n UntilCycle laid h.1 is refl,
  commands_keep_protection true k t.entry t.marked s a.left a.outcome n h.1 ∙ is,
)

abbrev StaysProtected : ℕ → Subsystem → Subsystem → Type 0
StaysProtected n old new =
    (namespace_bytes new n ≡ namespace_bytes old n) × (protection_at new.world n ≡ Some UntilCycle)

protected-left : (old new : Subsystem) (event : Event) (n : ℕ)
    → IsLaidOut old.world old.device.content → protection_at old.world n ≡ Some UntilCycle → event ≢ PowerCycle
    → Leaves true old new event → StaysProtected n old new
unfolding CommandComesTo
protected-left old new event n laid is powered (AsItWas world device) = (
  ap (λ w. bytes_of w new.device.content n) world ∙ ap (λ d. bytes_of old.world d.content n) device,
  ap (λ w. protection_at w n) world ∙ is,
)
protected-left old new event n laid is powered (PowerLost lost world device) = absurd (powered lost)
protected-left old new event n laid is powered (AfterExecution k i executes c t a at found answers world device) =
    let left = answer-protected (t.queue == 0) (queues_of c) k t (scene_of old c) a n laid answers is in
    (same-bytes new a n world device ∙ left.0, ap (λ w. protection_at w n) world ∙ left.1)

pub protected_until_power : ProtectedUntilPower
protected_until_power old new [] [] n laid is powered run =
    (ap (λ s. namespace_bytes s n) run, ap (λ (s : Subsystem). protection_at s.world n) run ∙ is)
protected_until_power old new [] (x ∷ later) n laid is powered run = absurd run
protected_until_power old new (event ∷ events) [] n laid is powered run = absurd run
protected_until_power old new (event ∷ events) (x ∷ later) n laid is powered run =
    let mid : Subsystem = run.0 in
    let one = protected-left old mid event n laid is powered.0 (leaves true old mid event x run.1) in
    let rest =
    protected_until_power mid new events later n (layout_stays old mid event x laid run.1) one.1 powered.1 run.2 in
    (rest.0 ∙ one.0, rest.1)
