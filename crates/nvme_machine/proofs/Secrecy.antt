-- For laws on fenced reads, such as `fenced_hosts_read_nothing`: the bytes of a namespace have no effect on hosts that
-- may not read it.
use Rattle.std.proofs.Common.{
  ◌≡◌,
  ℕ,
  ◌-◌,
  ◌^◌,
  ◌<◌,
  true,
  false,
  List,
  [],
  ◌∷◌,
  Option,
  None,
  Some,
  refl,
  sym,
  ap,
  subst,
  ◌∙◌,
}
use Rattle.std.specs.Prelude.{slice_get}
use Rattle.nvme_spec.specs.Blocks.{Device}
use Rattle.nvme_spec.specs.Commands.{reserving}
use Rattle.nvme_spec.specs.World.{World}
use Rattle.nvme_spec.specs.Layout.{bytes_at, IsLaidOut, may_read}
use Rattle.nvme_machine.specs.declared.event.Event.{Event}
use Rattle.nvme_machine.specs.declared.event.Event.TheVariants.{Execute, PowerCycle}
use Rattle.nvme_machine.specs.declared.fetched.FetchedCommand.{FetchedCommand}
use Rattle.nvme_machine.specs.declared.seen.Seen.{Seen}
use Rattle.nvme_machine.specs.Controllers.{Controller, QueuePair, Reaction, queues_of, open_pair}
use Rattle.nvme_machine.specs.CommandExecutions.{CommandExecution}
use Rattle.nvme_machine.specs.Subsystems.{
  Subsystem,
  Step,
  Run,
  ReactsAs,
  Completes as Finishes,
  ExecutesAt,
  ExecutesOne,
  ExecutesOver,
  OfItsController,
  controller_at,
  controller_of,
  with_controller,
  scene_of,
  after_completion,
  after_execution,
  after_power_cycle,
}
use Rattle.nvme_machine.specs.Fencing.{RunWhere, Allows, Forgets, LeavesReservation}
use Rattle.nvme_machine.specs.Secrecy.{over, DifferIn, MayNotRead, FencedReading, FencedReadingIsSame}
use Rattle.nvme_machine.proofs.AdminWorlds.{HasSameExtents}
use Rattle.nvme_machine.proofs.Determined.{run_is_unique}
use Rattle.nvme_machine.proofs.Fencing.{reading-stays, of-each}
use Rattle.nvme_machine.proofs.Layouts.{step-extents, layout_stays}
use Rattle.nvme_machine.proofs.SecretCommands.{Mirrors, command_execution_over, answers-over}

-- Steps.

abbrev MirrorsStep : ℕ → Subsystem → Subsystem → (Device → Type 0) → Type 0
MirrorsStep n old new does = Mirrors n old.world new.device does

whole : (n : ℕ) (old new : Subsystem) (d : Device) → DifferIn n old.world old.device d → new ≡ old
    → DifferIn n old.world new.device d
whole n old new d differ is = subst (λ x. DifferIn n old.world x d) (sym (ap (λ (s : Subsystem). s.device) is)) differ

reacts : (o : Option Controller) (n : ℕ) (old new : Subsystem) (k : ℕ) (f : Controller → Reaction) (seen : Seen)
    (d : Device) → DifferIn n old.world old.device d → ReactsAs o old k f seen new
    → MirrorsStep n old new (λ x. ReactsAs o (over d old) k f seen (over x new))
unfolding with_controller
reacts None n old new k f seen d differ h = (d, (h.0, ap (over d) h.1), whole n old new d differ h.1)
reacts (Some c) n old new k f seen d differ h = (
  d,
  (h.0, ap (over d) h.1),
  subst (λ x. DifferIn n old.world x d) (sym (ap (λ (s : Subsystem). s.device) h.1)) differ,
)

completes-over : (n : ℕ) (old new : Subsystem) (k : ℕ) (c : Controller) (i : ℕ) (t : FetchedCommand) (p : QueuePair)
    (seen : Seen) (d : Device) → IsLaidOut old.world old.device.content
    → DifferIn n old.world old.device d → may_read old.world k n ≡ false → Finishes true old k c i t p seen new
    → MirrorsStep n old new (λ x. Finishes true (over d old) k c i t p seen (over x new))
unfolding after_execution after_completion
completes-over n old new k c i t p seen d laid differ fenced h =
    let a : CommandExecution = h.execution in
    let m = answers-over n (queues_of c) k t (scene_of old c) a d laid differ fenced h.comes_to in (
      m.0,
      record {
        execution = command_execution_over m.0 a;
        comes_to = m.1;
        gives = h.gives;
        leaves = ap (over m.0) h.leaves ∙ same m.0 a;
      },
      subst (λ x. DifferIn n old.world x m.0) (sym (ap (λ (s : Subsystem). s.device) h.leaves)) m.2,
    )
  where
    same : (x : Device) (a : CommandExecution)
        → over x (after_execution old k c i t p a) ≡ after_execution (over d old) k c i t p (command_execution_over x a)
    same x a = refl

over-one : (o : Option QueuePair) (n : ℕ) (old new : Subsystem) (k : ℕ) (c : Controller) (i : ℕ) (t : FetchedCommand)
    (seen : Seen) (d : Device) → IsLaidOut old.world old.device.content
    → DifferIn n old.world old.device d → may_read old.world k n ≡ false → ExecutesOver o true old k c i t seen new
    → MirrorsStep n old new (λ x. ExecutesOver o true (over d old) k c i t seen (over x new))
over-one None n old new k c i t seen d laid differ fenced h = (d, (h.0, ap (over d) h.1), whole n old new d differ h.1)
over-one (Some p) n old new k c i t seen d laid differ fenced h =
    completes-over n old new k c i t p seen d laid differ fenced h

executes-one : (o : Option FetchedCommand) (n : ℕ) (old new : Subsystem) (k : ℕ) (c : Controller) (i : ℕ) (seen : Seen)
    (d : Device) → IsLaidOut old.world old.device.content
    → DifferIn n old.world old.device d → may_read old.world k n ≡ false → ExecutesOne o true old k c i seen new
    → MirrorsStep n old new (λ x. ExecutesOne o true (over d old) k c i seen (over x new))
executes-one None n old new k c i seen d laid differ fenced h =
    (d, (h.0, ap (over d) h.1), whole n old new d differ h.1)
executes-one (Some t) n old new k c i seen d laid differ fenced h =
    over-one (open_pair c t) n old new k c i t seen d laid differ fenced h

executes : (o : Option Controller) (n : ℕ) (old new : Subsystem) (k i : ℕ) (seen : Seen) (d : Device)
    → IsLaidOut old.world old.device.content
    → DifferIn n old.world old.device d → may_read old.world k n ≡ false → ExecutesAt o true old k i seen new
    → MirrorsStep n old new (λ x. ExecutesAt o true (over d old) k i seen (over x new))
executes None n old new k i seen d laid differ fenced h = (d, (h.0, ap (over d) h.1), whole n old new d differ h.1)
executes (Some c) n old new k i seen d laid differ fenced h =
    executes-one (slice_get c.fetched i) n old new k c i seen d laid differ fenced h

cycles : (n : ℕ) (old new : Subsystem) (seen : Seen) (d : Device) → DifferIn n old.world old.device d
    → Step true old PowerCycle seen new
    → MirrorsStep n old new (λ x. Step true (over d old) PowerCycle seen (over x new))
unfolding after_power_cycle
cycles n old new seen d differ h = (
  d,
  (h.0, ap (over d) h.1),
  subst (λ x. DifferIn n old.world x d) (sym (ap (λ (s : Subsystem). s.device) h.1)) differ,
)

pub step-over : (n : ℕ) (old new : Subsystem) (event : Event) (seen : Seen) (d : Device)
    → IsLaidOut old.world old.device.content → DifferIn n old.world old.device d
    → OfItsController (λ k. may_read old.world k n ≡ false) event → Step true old event seen new
    → MirrorsStep n old new (λ x. Step true (over d old) event seen (over x new))
unfolding controller_at
step-over n old new (Execute k i) seen d laid differ fenced h =
    executes (controller_at old k) n old new k i seen d laid differ fenced h
step-over n old new PowerCycle seen d laid differ fenced h = cycles n old new seen d differ h
step-over n old new event seen d laid differ fenced h =
    reacts (controller_at old (controller_of event)) n old new (controller_of event) _ seen d differ h

-- Runs.

reserves-over : (n : ℕ) (s : Subsystem) (d : Device) (event : Event) → Allows reserving (over d s) event n
    → Allows reserving s event n
unfolding controller_at
reserves-over n s d (Execute k i) h =
    record {
      controller = h.controller;
      command = h.command;
      at = h.at;
      found = h.found;
      named = h.named;
      allowed = h.allowed;
    }
reserves-over n s d event h = h

forgets-over : (n : ℕ) (s : Subsystem) (d : Device) (event : Event) → Forgets (over d s) event n → Forgets s event n
forgets-over n s d PowerCycle h = h
forgets-over n s d event h = h

leaves-over : (n : ℕ) (s : Subsystem) (d : Device) (event : Event)
    → LeavesReservation n s event → LeavesReservation n (over d s) event
leaves-over n s d event quiet = (λ h. quiet.0 (reserves-over n s d event h), λ h. quiet.1 (forgets-over n s d event h))

-- `DifferIn` depends only on the extents of the world
pub differ-still : (n : ℕ) (v w : World) (d e : Device) → HasSameExtents v w → DifferIn n v d e → DifferIn n w d e
differ-still n v w d e same differ = record {
  failures = differ.failures;
  size = differ.size;
  others = λ m other.
      ap (λ x. bytes_at e.content x) (same.extents m) ∙ differ.others m other
      ∙ sym (ap (λ x. bytes_at d.content x) (same.extents m));
}

still : (old new : World) (n : ℕ) (events : List Event) → ((k : ℕ) → may_read new k n ≡ may_read old k n)
    → MayNotRead old n events → MayNotRead new n events
still old new n events same h =
    of-each (λ k. may_read old k n ≡ false) (λ k. may_read new k n ≡ false) (λ k fenced. same k ∙ fenced) events h

pub fenced_reading : FencedReading
fenced_reading old new d [] [] n laid differ run fenced =
    (d, ap (over d) run, subst (λ (s : Subsystem). DifferIn n s.world s.device d) (sym run) differ)
fenced_reading old new d [] (x ∷ later) n laid differ run fenced = absurd run
fenced_reading old new d (event ∷ events) [] n laid differ run fenced = absurd run
fenced_reading old new d (event ∷ events) (x ∷ later) n laid differ run fenced =
    let mid : Subsystem = run.0 in
    let one = step-over n old mid event x d laid differ fenced.0 run.2 in
    let same = step-extents true old mid event x run.2 in
    let rest = fenced_reading mid new one.0 events later n (layout_stays old mid event x laid run.2)
    (differ-still n old.world mid.world mid.device one.0 same one.2) run.3
    (still old.world mid.world n events (reading-stays true old mid event x n run.2 run.1) fenced.1) in
    (rest.0, (over one.0 mid, leaves-over n old d event run.1, one.1, rest.1), rest.2)

-- each `RunWhere` is a `Run`
plain : (P : Subsystem → Event → Type 0) (old new : Subsystem) (events : List Event) (seen : List Seen)
    → RunWhere P old events seen new → Run true old events seen new
plain P old new [] [] run = run
plain P old new [] (x ∷ later) run = run
plain P old new (event ∷ events) [] run = run
plain P old new (event ∷ events) (x ∷ later) run = (run.0, run.2, plain P run.0 new events later run.3)

pub fenced_reading_is_same : FencedReadingIsSame
fenced_reading_is_same old new other d events seen others n laid differ run fenced second calm quiet below =
    let r = fenced_reading old new d events seen n laid differ run fenced in
    let last : Device = r.0 in
    let r-differ = r.2 in
    let start : d.failures ≡ old.device.failures = differ.failures in
    let low : d.failures < 2 ^ 64 - 1 = subst (λ m. m < 2 ^ 64 - 1) (sym start) below in
    let one = run_is_unique
    (over d old) (over last new) events seen (plain (LeavesReservation n) (over d old) (over last new) events seen r.1)
    (r-differ.failures ∙ calm ∙ sym start) low in
    let two = run_is_unique (over d old) other events others second (quiet ∙ sym start) low in
    let same : other ≡ over last new = two.1 ∙ sym one.1 in
    let device : other.device ≡ last = ap (λ (s : Subsystem). s.device) same in (
      two.0 ∙ sym one.0,
      same ∙ ap (λ x. over x new) (sym device),
      subst (λ x. DifferIn n new.world new.device x) (sym device) r-differ,
    )
