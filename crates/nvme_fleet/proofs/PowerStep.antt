-- For the answers of `power_cycle` and `reset_over`: a power cycle is a step of each mailbox, and of the fleet.
use Rattle.nvme_fleet.proofs.Words.{
  ◌≡◌,
  ◌+◌,
  ◌++◌,
  ℕ,
  zero,
  suc,
  Bool,
  List,
  [],
  ◌∷◌,
  drop,
  length,
  map,
  refill-all,
  take,
  Option,
  None,
  Some,
  refl,
  sym,
  ap,
  subst,
  ◌∙◌,
  option_map,
  length-map,
  Driver,
  after_reset,
  Seen,
  Cycled,
  Wrote,
  NoController,
  Controller,
  after_write32,
  wrote,
  Subsystem,
  ReactsAs,
  controller_at,
  after_power_cycle,
  Ran,
  FleetState,
  IsSoundFleet,
  SoundBy,
  fleet_in,
  fleet_of,
  host_by,
  hosts_of,
  layers_of,
  WithDriver,
  Fleet,
  host_cycled,
  Cycles,
  resets_from,
  AreCycled,
  Sound,
  IsOff,
  mailbox,
  ◌<◌,
  Calls,
  reset_calls,
  MediumCall,
  OverMedium,
  Linked,
  controller_in,
  with_controller_at,
  CallOverMedium,
  new_controller,
}
use Rattle.nvme_driver.specs.Drivers as driver
use Rattle.nvme_machine.specs.Controllers.{power_cycled}
use Rattle.nvme_machine.specs.Subsystems.{numbered, replaced, with_controller}
use Rattle.nvme_subsys.proofs.Numbers as numbers
use Rattle.nvme_mailbox.specs.Deliveries as mail
use Rattle.nvme_mailbox.specs.Fleets as mailboxes
use Rattle.nvme_event.specs.declared.seen.FleetSeen.TheVariants as seen
use Rattle.nvme_refinement.proofs.Registering.{disabled-off}
use Rattle.nvme_refinement.proofs.Resetting.{reset-sound, reset-mail}
use Rattle.nvme_fleet.proofs.Seats.{AllSound}
use Rattle.nvme_fleet.proofs.LinkCalls.{calls-made}
use Rattle.std.proofs.lemmas.Option.{slice_get-get_or}
use Rattle.nvme_mailbox.proofs.Lists.{from-map}

-- One host.

is-off : (c : Controller) → IsOff (power_cycled c)
is-off c = record { submission = refl; completion = refl; fetched = refl; off = refl; disabled = refl }

-- a driver after a reset, and its controller after the power cycle
pub record AreReset (d : Driver) (c : Controller) : Type 0 where
  pub sound : Sound (after_reset d) (power_cycled c)
  pub mail : mailbox (after_reset d) (power_cycled c) ≡ (mail.reset (mailbox d c)).mailbox

pub are-reset : (d : Driver) (c : Controller) → Sound d c → AreReset d c
are-reset d c s = record {
  sound = reset-sound d c (power_cycled c) s (is-off c) refl;
  mail = reset-mail d c (power_cycled c) s.both (is-off c) refl;
}

-- All hosts.

sound-by : (d : Option Driver) (c : Controller) → SoundBy d c → SoundBy (option_map after_reset d) (power_cycled c)
sound-by None c s = tt
sound-by (Some d) c s = (are-reset d c s).sound

host-so : (d : Option Driver) (c : Controller)
    → SoundBy d c → host_by (option_map after_reset d) (power_cycled c) ≡ host_cycled (host_by d c)
host-so None c s = refl
host-so (Some d) c s = ap WithDriver (are-reset d c s).mail

-- a property of each pair
hosts-so : (ds : List (Option Driver)) (cs : List Controller) → AllSound ds cs
    → hosts_of (map (option_map after_reset) ds) (map power_cycled cs) ≡ map host_cycled (hosts_of ds cs)
hosts-so [] cs s = refl
hosts-so (d ∷ ds) [] s = refl
hosts-so (d ∷ ds) (c ∷ cs) s =
    λ i. (host-so d c (s 0 d c refl refl) i) ∷ (hosts-so ds cs (λ j e k at there. s (suc j) e k at there) i)

all-sound : (ds : List (Option Driver)) (cs : List Controller)
    → AllSound ds cs → AllSound (map (option_map after_reset) ds) (map power_cycled cs)
all-sound ds cs s i e x at there =
    let d = from-map (option_map after_reset) ds i e at in
    let c = from-map power_cycled cs i x there in
    subst (λ f. SoundBy f x) (sym d.2)
    (subst (λ y. SoundBy (option_map after_reset d.0) y) (sym c.2) (sound-by d.0 c.0 (s i d.0 c.0 d.1 c.1)))

-- The subsystem.

pub are-cycled : (s : Subsystem) → AreCycled (after_power_cycle s)
unfolding controller_at after_power_cycle
are-cycled s k c at = by k at
  where
    by : (k : ℕ) → numbered (map power_cycled s.controllers) k ≡ Some c → c ≡ power_cycled c
    by zero at = absurd (cc)
    by (suc i) at = let b = from-map power_cycled s.controllers i c at in b.2 ∙ ap power_cycled (sym b.2)

-- a reset changes nothing at a controller that was not enabled since
written : (c : Controller) → after_write32 driver.cc 0 (power_cycled c) ≡ power_cycled c
written c = disabled-off (power_cycled c) refl

pub written-still : (c : Controller) → c ≡ power_cycled c → after_write32 driver.cc 0 c ≡ c
written-still c same = subst (λ x. after_write32 driver.cc 0 x ≡ x) (sym same) (written c)

set-same : (cs : List Controller) (k : ℕ) (c : Controller) → numbered cs k ≡ Some c → replaced cs k c ≡ cs
set-same cs zero c at = refl
set-same cs (suc i) c at = numbers.set-same cs i c at

-- the result of a reset at a controller, if it exists
abbrev reset_seen : Option Controller → Seen
reset_seen None = NoController
reset_seen (Some c) = Wrote

reset-still : (o : Option Controller) (s : Subsystem) (k : ℕ) → controller_at s k ≡ o → AreCycled s
    → ReactsAs o s k (wrote driver.cc 0) (reset_seen o) s
unfolding with_controller controller_at
reset-still None s k at h = (refl, refl)
reset-still (Some c) s k at h = (
  refl,
  ap (λ cs. record s { controllers = cs })
      (sym (ap (replaced s.controllers k) (written-still c (h k c at)) ∙ set-same s.controllers k c at)),
)

pub resets-ran : (tells : Bool) (s : Subsystem) (k : ℕ) (ds : List (Option Driver))
    → AreCycled s → Ran tells s (resets_from k ds) s
resets-ran tells s k [] h = ([], refl)
resets-ran tells s k (None ∷ ds) h = resets-ran tells s (k + 1) ds h
resets-ran tells s k (Some d ∷ ds) h =
    let later = resets-ran tells s (k + 1) ds h in
    (reset_seen (controller_at s k) ∷ later.0, (s, reset-still (controller_at s k) s k refl h, later.1))

-- The fleet.

pub record IsCycledFleet (tells : Bool) (a b : FleetState) : Type 0 where
  pub sound : IsSoundFleet b
  pub step : fleet_of b ≡ mailboxes.power_cycled (fleet_of a)
  pub below : Cycles tells (layers_of a) seen.Cycled (layers_of b)

-- the fleet after a power cycle
abbrev cycled-state : FleetState → FleetState
cycled-state a =
    record a { subsystem = after_power_cycle a.subsystem; drivers = map (option_map after_reset) a.drivers }

is-cycled : (tells : Bool) (a : FleetState) → IsSoundFleet a → IsCycledFleet tells a (cycled-state a)
unfolding mailboxes.power_cycled after_power_cycle fleet_in
is-cycled tells a s =
    let ran = resets-ran tells (after_power_cycle a.subsystem) 1 a.drivers (are-cycled a.subsystem) in
    record {
      sound = record {
        pairs = length-map a.drivers (option_map after_reset) ∙ s.pairs
            ∙ sym (length-map a.subsystem.controllers power_cycled);
        sound = all-sound a.drivers a.subsystem.controllers s.sound;
        room = s.room;
        fits = s.fits;
      };
      step = ap (λ hs. (let f : Fleet = record (mailboxes.power_cycled (fleet_of a)) { hosts = hs } in f))
          (hosts-so a.drivers a.subsystem.controllers s.sound);
      below = record {
        gives = refl;
        ran = (Cycled ∷ ran.0, (after_power_cycle a.subsystem, (refl, refl), ran.1));
        cycled = refl;
        drivers = refl;
      };
    }

-- after the borrowed drivers are put back
pub cycled-at : (tells : Bool) (a old : FleetState) (new : Subsystem) (drivers : List (Option Driver)) (len : ℕ)
    → a ≡ old → IsSoundFleet a → new ≡ after_power_cycle a.subsystem → drivers ≡ map (option_map after_reset) a.drivers
    → len ≡ length drivers
    → IsCycledFleet tells old (record {
      subsystem = new;
      drivers = take len (drivers ++ drop (length drivers) a.drivers);
      buffer = a.buffer;
      filled = a.filled;
    })
cycled-at tells a old new drivers len same s is reset whole =
    let back = refill-all len a.drivers drivers whole ∙ reset in
    subst (λ b. IsCycledFleet tells old b) (sym (λ i. record a { subsystem = is i; drivers = back i }))
    (subst (λ o. IsCycledFleet tells o (cycled-state a)) same (is-cycled tells a s))

-- A reset over a link changes nothing at a controller after a power cycle.

pub record IsStill {M : Type 0} (p q : OverMedium Linked M) : Type 0 where
  pub subsystem : q.state.subsystem ≡ p.state.subsystem
  pub medium : q.medium ≡ p.medium

pub over-still : {M : Type 0} (step : M → MediumCall → M → Type 0) (tells : Bool) (p q : OverMedium Linked M)
    → p.state.place < length p.state.subsystem.controllers
    → AreCycled p.state.subsystem → Calls (CallOverMedium step tells) p reset_calls q → IsStill p q
over-still step tells p q there cycled calls =
    let a : Subsystem = p.state.subsystem in
    let i : ℕ = p.state.place in
    let c : Controller = controller_in a i in
    let found = slice_get-get_or a.controllers i (new_controller 0) there in
    let made = calls-made step tells reset_calls p q tt there calls in
    record {
      subsystem = made.leaves
          ∙ ap (with_controller_at a i) (written-still c (cycled (i + 1) c (numbers.at-place a (i + 1) i c refl found)))
          ∙ ap (λ cs. (let s : Subsystem = record a { controllers = cs } in s))
          (numbers.set-same a.controllers i c found);
      medium = made.medium;
    }
