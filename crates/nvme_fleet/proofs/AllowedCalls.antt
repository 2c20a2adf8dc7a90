-- For `laws.rt`: each call of the medium that a fleet makes is one of a command that all rules let pass, and fenced
-- hosts make no writing calls.
use Rattle.nvme_fleet.proofs.Words.{
  ◌≡◌,
  ℕ,
  Bool,
  false,
  List,
  [],
  ◌∷◌,
  Some,
  refl,
  sym,
  ap,
  subst,
  ◌∙◌,
  AllByRecursion,
  Extent,
  extent_of,
  may_write,
  MediumCall,
  Cycled,
  HaveTheirOwn,
  KeepsOff,
  HasSameExtents,
  same-extents,
  all-joined,
  all-mapped,
  all-of-none,
  calls_are_allowed as machine_calls_are_allowed,
  step-extents,
  FleetEvent,
  Execute,
  OfItsHost,
  Reply,
  CallsAreAllowed,
  CallsOfRunsAreAllowed,
  ComesFrom,
  FencedCommandsCallNothing,
  FencedHostsWriteNoBlock,
  MayCall,
  Layers,
  AreCallsOfStep,
}
use Rattle.nvme_machine.specs.declared.event.Event.TheVariants as event
use Rattle.nvme_machine.proofs.FencedCalls.{
  elsewhere,
  fenced_commands_call_nothing as machine_fenced_commands_call_nothing,
}
use Rattle.nvme_fleet.specs.Layers.{Step}
use Rattle.nvme_fleet.proofs.Bytes.{by-event, permissions_stay, still-fenced}
use Rattle.nvme_fleet.proofs.LayerCalls.{layer_calls_are_of_a_step}

pub calls_are_allowed : CallsAreAllowed
calls_are_allowed tells old new (Execute k i) reply calls h =
    machine_calls_are_allowed tells old.subsystem new.subsystem (event.Execute k i) h.below.given calls h.below.step
calls_are_allowed tells old new e reply calls h = all-of-none (MayCall old e) calls h.below.1

behind-it : (tells : Bool) (old mid : Layers) (event : FleetEvent) (reply : Reply) (here : List MediumCall)
    (events : List FleetEvent) (call : MediumCall) → AreCallsOfStep tells old event reply mid here
    → ComesFrom tells mid events call → ComesFrom tells old (event ∷ events) call
behind-it tells old mid event reply here events call step c = record {
  front = event ∷ c.front;
  event = c.event;
  later = c.later;
  split = ap (λ es. event ∷ es) c.split;
  given = reply ∷ c.given;
  now = c.now;
  reached = (mid, layer_calls_are_of_a_step tells old mid event reply here step, c.reached);
  may = c.may;
}

pub calls_of_runs_are_allowed : CallsOfRunsAreAllowed
calls_of_runs_are_allowed tells old new [] [] calls h = all-of-none (ComesFrom tells old []) calls h.1
calls_of_runs_are_allowed tells old new (event ∷ events) (reply ∷ later) calls (mid, here, behind, step, run, joined) =
    subst (AllByRecursion (ComesFrom tells old (event ∷ events))) (sym joined)
    (all-joined (ComesFrom tells old (event ∷ events)) here behind
    (all-mapped (MayCall old event) (ComesFrom tells old (event ∷ events)) here
    (λ call may. record {
      front = [];
      event = event;
      later = events;
      split = refl;
      given = [];
      now = old;
      reached = refl;
      may = may;
    }) (calls_are_allowed tells old mid event reply here step))
    (all-mapped (ComesFrom tells mid events) (ComesFrom tells old (event ∷ events)) behind
    (λ call c. behind-it tells old mid event reply here events call step c)
    (calls_of_runs_are_allowed tells mid new events later behind run)))
calls_of_runs_are_allowed tells old new events later calls h = absurd h

-- Fenced hosts.

pub fenced_commands_call_nothing : FencedCommandsCallNothing
fenced_commands_call_nothing tells old new k i n c t reply calls made at found on fenced =
    machine_fenced_commands_call_nothing tells old.subsystem new.subsystem k i n c t made.below.given calls
    made.below.step at found on fenced

pub keeps-off : (old : Layers) (e : FleetEvent) (n : ℕ) (x : Extent) → HaveTheirOwn old.subsystem.world
    → extent_of old.subsystem.world n ≡ Some x → OfItsHost (λ k. may_write old.subsystem.world k n ≡ false) e
    → (call : MediumCall) → MayCall old e call → KeepsOff x call
keeps-off old (Execute k i) n x own is fenced call may =
    elsewhere old.subsystem (event.Execute k i) n x own is fenced call may
keeps-off old event n x own is fenced call may = absurd may

pub extents-stay : (tells : Bool) (old new : Layers) (e : FleetEvent) (reply : Reply)
    → Step tells old e reply new → HasSameExtents old.subsystem.world new.subsystem.world
extents-stay tells old new e reply step =
    by-event tells old new e reply (HasSameExtents old.subsystem.world new.subsystem.world) step
    (λ same. same-extents old.subsystem.world new.subsystem.world same.world)
    (λ k i is given one. step-extents tells old.subsystem new.subsystem (event.Execute k i) given one)
    (λ is one. step-extents tells old.subsystem new.subsystem event.PowerCycle Cycled one)

pub fenced_hosts_write_no_block : FencedHostsWriteNoBlock
fenced_hosts_write_no_block tells old new [] [] calls n x own is run fenced = all-of-none (KeepsOff x) calls run.1
fenced_hosts_write_no_block tells old new (e ∷ events) (reply ∷ later) calls n x own is
    (mid, here, behind, quiet, made, rest, joined) fenced =
    let step : Step tells old e reply mid = layer_calls_are_of_a_step tells old mid e reply here made in
    let same = extents-stay tells old mid e reply step in
    let kept : HaveTheirOwn mid.subsystem.world =
    λ a b y z other p q. own a b y z other (sym (same.extents a) ∙ p) (sym (same.extents b) ∙ q) in
    subst (AllByRecursion (KeepsOff x)) (sym joined)
    (all-joined (KeepsOff x) here behind
    (all-mapped (MayCall old e) (KeepsOff x) here (keeps-off old e n x own is fenced.0)
    (calls_are_allowed tells old mid e reply here made))
    (fenced_hosts_write_no_block tells mid new events later behind n x kept (same.extents n ∙ is) rest
    (still-fenced old.subsystem.world mid.subsystem.world n events
    (permissions_stay tells old mid e reply n step quiet) fenced.1)))
fenced_hosts_write_no_block tells old new events later calls n x own is run fenced = absurd run
