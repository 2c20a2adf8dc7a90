-- For `power.rt`: the example runs of power cycles and write protection, computed.
use Rattle.std.specs.List.{AllByRecursion}
use Rattle.std.specs.Prelude.{replicate}
use Rattle.std.proofs.Common.{List, Some, [], ap, false, length, refl, subst, sym, true, ℕ, ◌∙◌, ◌∷◌, ◌≡◌, ◌≢◌}
use Rattle.std.proofs.lemmas.Bool.{false≢true}
use Rattle.nvme_spec.specs.declared.access.Protection.TheVariants.{Open, UntilCycle}
use Rattle.nvme_spec.specs.Layout.{IsLaidOut, extent_of, may_write, reservation_of}
use Rattle.nvme_spec.specs.PowerLaws.{protection_at}
use Rattle.nvme_spec.specs.Reservation.{Reservation, unreserved}
use Rattle.nvme_spec.specs.World.{Namespace}
use Rattle.nvme_spec.proofs.Namespaces.{found-still}
use Rattle.nvme_machine.specs.declared.event.Event.{Event}
use Rattle.nvme_machine.specs.declared.event.Event.TheVariants.{PowerCycle, Read32}
use Rattle.nvme_machine.specs.declared.fetched.FetchedCommand.{FetchedCommand}
use Rattle.nvme_machine.specs.declared.seen.Seen.{Seen}
use Rattle.nvme_machine.specs.declared.seen.Seen.TheVariants.{Cycled}
use Rattle.nvme_machine.specs.FaultFree.{fault_free_left, fault_free_seen, fault_free_step}
use Rattle.nvme_machine.specs.Fencing.{Forgets, LeavesReservation, ReservesNothing, RunWhere, namespace_bytes}
use Rattle.nvme_machine.specs.PowerCycles.{IsCycled, Persists}
use Rattle.nvme_machine.specs.Secrecy.{MayNotRead, over}
use Rattle.nvme_machine.specs.Subsystems.{OfItsController, Run, Subsystem, after_power_cycle, controller_at}
use Rattle.nvme_machine.proofs.Determined.{steps}
use Rattle.nvme_machine.proofs.PowerCycles.{
  fencing_outlasts_power,
  persistence_lasts,
  power_takes,
  protected_until_power,
  secrecy_outlasts_power,
}
use Rattle.nvme_theorem_runs.specs.Cluster.{
  acquire,
  cluster,
  fetched_of,
  forgotten,
  held_by_a1,
  ready,
  register,
  reserved,
  zeroes,
  zeros,
}
use Rattle.nvme_theorem_runs.specs.Fencing.{after_fenced, fenced, fenced_events, fenced_seen}
use Rattle.nvme_theorem_runs.specs.Medium.{fleeting}
use Rattle.nvme_theorem_runs.specs.Power.{
  OutlastingAtWork,
  OutlastingOfAnyReservation,
  OutlastingOverAnyRun,
  PowerAtWork,
  PowerTakesByAnyEvent,
  ProtectionAtWork,
  ProtectionOfAnyKind,
  ProtectionOverPower,
  SecrecyAtWork,
  SecrecyOfAnyReservation,
  powered,
  protected,
  protected_events,
  protected_seen,
  until_cycle,
}
use Rattle.nvme_theorem_runs.specs.Reading.{after_secret, denied_seen, other_blocks, read_entry, secret, sends}
use Rattle.nvme_theorem_runs.proofs.Computing.{
  all_along,
  apart,
  distinct,
  plain-run,
  reserves_nothing,
  reserving-nothing,
  run-where,
}
use Rattle.nvme_theorem_runs.proofs.FencingRuns.{
  fenced-host,
  holding,
  holding-bytes,
  hostile,
  hostile-bytes,
  hostile-host,
  hostile_events,
  one_execution,
  seen-so,
}
use Rattle.nvme_theorem_runs.proofs.Laying.{laid}
use Rattle.nvme_theorem_runs.proofs.ReadingRuns.{differ, may-not, secret-seen}
use Rattle.nvme_theorem_runs.proofs.Unfolding.{computing}

-- Fencing and secrecy.

persists : (type : ℕ) (first second : List FetchedCommand) → Persists (cluster (held_by_a1 type) first second).world 1
unfolding computing
persists type first second = record { reservation = held_by_a1 type; there = refl; set = refl }

fenced-reserves : all_along (reserves_nothing 1) fenced fenced_events ≡ true
unfolding computing fenced_events
fenced-reserves = refl

outlasting-run : RunWhere (ReservesNothing 1) fenced fenced_events fenced_seen after_fenced
outlasting-run = subst (λ seen. RunWhere (ReservesNothing 1) fenced fenced_events seen after_fenced) seen-so
    (run-where (reserves_nothing 1) (ReservesNothing 1) (reserving-nothing 1) fenced fenced_events
    (laid (held_by_a1 1) [] []) fenced-reserves)

still-fenced : may_write after_fenced.world 2 1 ≡ false
unfolding computing fenced_events
still-fenced = refl

pub outlasting_at_work : OutlastingAtWork
outlasting_at_work = record {
  persists = persists 1 [] [];
  run = outlasting-run;
  holds = fencing_outlasts_power fenced after_fenced fenced_events fenced_seen 1 (laid (held_by_a1 1) [] [])
      (persists 1 [] []) outlasting-run fenced-host;
  lasts = persistence_lasts fenced after_fenced fenced_events fenced_seen 1 (persists 1 [] []) outlasting-run;
  still = still-fenced;
}

unfoldable power_lost : List Event
power_lost = PowerCycle ∷ []

fleeting-facts : (all_along (reserves_nothing 1) fleeting power_lost ≡ true) × (may_write fleeting.world 2 1 ≡ false)
    × (may_write (fault_free_left fleeting power_lost).world 2 1 ≡ true)
unfolding computing power_lost
fleeting-facts = (refl, refl, refl)

fleeting-host : AllByRecursion (OfItsController (λ k. may_write fleeting.world k 1 ≡ false)) power_lost
unfolding power_lost
fleeting-host = (tt, tt)

pub outlasting_needs_persistence : OutlastingOfAnyReservation → ⊥
outlasting_needs_persistence law =
    let on = laid (forgotten 1) [] [] in
    let same = law fleeting (fault_free_left fleeting power_lost) power_lost (fault_free_seen fleeting power_lost) 1 on
    (run-where (reserves_nothing 1) (ReservesNothing 1) (reserving-nothing 1) fleeting power_lost on fleeting-facts.0)
    fleeting-host 2 in
    false≢true (sym fleeting-facts.1 ∙ sym same ∙ fleeting-facts.2)

pub outlasting_needs_the_reservation : OutlastingOverAnyRun → ⊥
outlasting_needs_the_reservation law =
    let commands = register ∷ acquire 1 ∷ zeroes 1 ∷ [] in
    let on = laid (held_by_a1 1) [] commands in
    let same = law hostile (fault_free_left hostile hostile_events) hostile_events
    (fault_free_seen hostile hostile_events) 1 on (persists 1 [] commands)
    (plain-run hostile hostile_events on) hostile-host in
    apart _ _ hostile-bytes.1 hostile-bytes.0 same

secret-reserves : all_along (reserves_nothing 1) secret (sends read_entry) ≡ true
unfolding computing sends
secret-reserves = refl

secret-outlasts : RunWhere (ReservesNothing 1) secret (sends read_entry) denied_seen after_secret
secret-outlasts = subst (λ seen. RunWhere (ReservesNothing 1) secret (sends read_entry) seen after_secret) secret-seen
    (run-where (reserves_nothing 1) (ReservesNothing 1) (reserving-nothing 1) secret (sends read_entry)
    (laid (held_by_a1 2) [] []) secret-reserves)

pub secrecy_at_work : SecrecyAtWork
secrecy_at_work = record {
  persists = persists 2 [] [];
  run = secret-outlasts;
  holds = secrecy_outlasts_power secret after_secret other_blocks (sends read_entry) denied_seen 1
      (laid (held_by_a1 2) [] []) (differ (held_by_a1 2) [] [])
      (persists 2 [] []) secret-outlasts may-not;
}

forgets : Forgets (over other_blocks fleeting) PowerCycle 1
unfolding computing
forgets = refl

leaves-nothing : (events : List Event) (seen : List Seen) (new : Subsystem) → events ≡ power_lost
    → RunWhere (LeavesReservation 1) (over other_blocks fleeting) events seen new → ⊥
unfolding power_lost
leaves-nothing [] seen new e run = absurd (cc)
leaves-nothing (event ∷ events) [] new e run = absurd run
leaves-nothing (event ∷ events) (x ∷ seen) new e run =
    let is : event ≡ PowerCycle = cc in
    (subst (λ it. LeavesReservation 1 (over other_blocks fleeting) it) is run.1).1 forgets

fleeting-reads : MayNotRead fleeting.world 1 power_lost
unfolding power_lost
fleeting-reads = (tt, tt)

pub secrecy_needs_persistence : SecrecyOfAnyReservation → ⊥
secrecy_needs_persistence law =
    let on = laid (forgotten 1) [] [] in
    let r = law fleeting (fault_free_left fleeting power_lost) other_blocks power_lost
    (fault_free_seen fleeting power_lost) 1 on (differ (forgotten 1) [] [])
    (run-where (reserves_nothing 1) (ReservesNothing 1) (reserving-nothing 1) fleeting power_lost on fleeting-facts.0)
    fleeting-reads in
    leaves-nothing power_lost (fault_free_seen fleeting power_lost) (over r.0 (fault_free_left fleeting power_lost))
    refl r.1

-- What a power cycle removes.

cycled : (s : Subsystem) → IsCycled s (after_power_cycle s)
cycled s = power_takes true s (after_power_cycle s) Cycled (refl, refl)

power-facts : (reservation_of (after_power_cycle (powered (held_by_a1 1))).world 1 ≡ Some (held_by_a1 1))
    × (reservation_of (after_power_cycle (powered (forgotten 1))).world 1 ≡ Some unreserved)
    × (fetched_of (powered (held_by_a1 1)) 2 ≡ zeroes 1 ∷ [])
    × (fetched_of (after_power_cycle (powered (held_by_a1 1))) 2 ≡ [])
    × (protection_at (powered (held_by_a1 1)).world 1 ≡ Some UntilCycle)
    × (protection_at (after_power_cycle (powered (held_by_a1 1))).world 1 ≡ Some Open)
unfolding computing protection_at
power-facts = (refl, refl, refl, refl, refl, refl)

pub power_at_work : PowerAtWork
power_at_work = record {
  persistent = cycled (powered (held_by_a1 1));
  fleeting = cycled (powered (forgotten 1));
  lasts = power-facts.0;
  lost = power-facts.1;
  before = power-facts.2;
  after = power-facts.3;
  protected = power-facts.4;
  ended = power-facts.5;
}

powered-laid : (r : Reservation) → IsLaidOut (powered r).world (powered r).device.content
unfolding computing
powered-laid r =
    let on = laid r (zeroes 1 ∷ []) (zeroes 1 ∷ []) in
    let same : (n : ℕ) → extent_of (until_cycle r) n ≡ extent_of (reserved r) n =
    (λ n. found-still (λ (space : Namespace). record { first = space.first; blocks = space.blocks })
    (λ (space : Namespace). record space { protection = UntilCycle })
    (λ m. refl) (λ m. refl) 1 n (reserved r).namespaces) in
    record {
      within = λ n x is. on.within n x (sym (same n) ∙ is);
      apart = λ n m x y other p q. on.apart n m x y other (sym (same n) ∙ p) (sym (same m) ∙ q);
    }

read-fetched : (controller_at (fault_free_step protected (Read32 1 0x1c)).left 1 ≡ Some (ready 1 zeros (zeroes 1 ∷ [])))
unfolding computing
read-fetched = refl

lengths : length (zeroes 1 ∷ []) ≡ 1
lengths = refl

pub power_needs_a_cycle : PowerTakesByAnyEvent → ⊥
power_needs_a_cycle law =
    let event : Event = Read32 1 0x1c in
    let next = fault_free_step protected event in
    let is = law true protected next.left event next.seen (steps protected event (powered-laid (held_by_a1 1))) in
    let none = (is.unused 1 (ready 1 zeros (zeroes 1 ∷ [])) read-fetched).fetched in
    distinct 1 0 refl (sym lengths ∙ ap (λ (ts : List FetchedCommand). length ts) none)

-- Write protection.

protected-so : fault_free_seen protected protected_events ≡ protected_seen
unfolding computing protected_events protected_seen
protected-so = refl

protected-facts : (may_write protected.world 1 1 ≡ true) × (namespace_bytes
    (fault_free_left protected protected_events) 1 ≡ replicate 512 1)
unfolding computing protected_events
protected-facts = (refl, refl)

no-power : AllByRecursion (λ event. event ≢ PowerCycle) protected_events
unfolding protected_events
no-power = (
  (λ e. absurd (cc)),
  (
    (λ e. absurd (cc)),
    (
      (λ e. absurd (cc)),
      ((λ e. absurd (cc)), ((λ e. absurd (cc)), ((λ e. absurd (cc)), tt))),
    ),
  ),
)

pub protection_at_work : ProtectionAtWork
protection_at_work =
    let on = powered-laid (held_by_a1 1) in
    let run = subst (λ seen. Run true protected protected_events seen (fault_free_left protected protected_events))
    protected-so (plain-run protected protected_events on) in
    let holds = protected_until_power protected (fault_free_left protected protected_events) protected_events
    protected_seen 1 on power-facts.4 no-power run in
    record {
      laid = on;
      until = power-facts.4;
      run = run;
      may = protected-facts.0;
      kept = protected-facts.1;
      still = holds.1;
    }

lost-facts : protection_at (fault_free_left protected power_lost).world 1 ≡ Some Open
unfolding computing protection_at power_lost
lost-facts = refl

pub protection_needs_power : ProtectionOverPower → ⊥
protection_needs_power law =
    let on = powered-laid (held_by_a1 1) in
    let still = law protected (fault_free_left protected power_lost) power_lost (fault_free_seen protected power_lost)
    1 on power-facts.4 (plain-run protected power_lost on) in
    let both = sym lost-facts ∙ still in absurd (cc)

pub protection_needs_a_kind : ProtectionOfAnyKind → ⊥
unfolding one_execution
protection_needs_a_kind law =
    let on = laid (held_by_a1 1) (zeroes 1 ∷ []) [] in
    let same = law holding (fault_free_left holding (one_execution 1)) (one_execution 1)
    (fault_free_seen holding (one_execution 1)) 1 on
    ((λ e. absurd (cc)), tt) (plain-run holding (one_execution 1) on) in
    apart _ _ holding-bytes.1 holding-bytes.0 same
