-- The access state of a run is that of its journal.
use Rattle.std.proofs.Common.{
  ◌≡◌,
  ℕ,
  ◌==◌,
  ◌++◌,
  Bool,
  true,
  false,
  List,
  [],
  ◌∷◌,
  Option,
  None,
  Some,
  refl,
  sym,
  ap,
  ◌∙◌,
}
use Rattle.std.specs.Prelude.{slice_get}
use Rattle.nvme_spec.specs.Power.{cycled_world}
use Rattle.nvme_spec.specs.World.{World}
use Rattle.nvme_machine.specs.declared.event.Event.{Event}
use Rattle.nvme_machine.specs.declared.event.Event.TheVariants.{Store, Write32, Read32, Fetch, Execute, PowerCycle}
use Rattle.nvme_machine.specs.declared.fetched.FetchedCommand.{FetchedCommand}
use Rattle.nvme_machine.specs.declared.seen.Executed.TheVariants.{NoSuch, CqFull}
use Rattle.nvme_machine.specs.declared.seen.Seen.{Seen}
use Rattle.nvme_machine.specs.declared.seen.Seen.TheVariants.{Executed, NoController}
use Rattle.nvme_machine.specs.CommandExecutions.{CommandExecution, CommandComesTo, CommandComesToAs}
use Rattle.nvme_machine.specs.Controllers.{Controller, QueuePair, Reaction, open_pair, queues_of}
use Rattle.nvme_machine.specs.Subsystems.{
  ExecutesAt,
  ExecutesOne,
  ExecutesOver,
  ReactsAs,
  Step,
  Subsystem,
  after_execution,
  after_power_cycle,
  controller_at,
  scene_of,
  with_controller,
}
use Rattle.nvme_journal.specs.Records.{Record, carried_all, kept}
use Rattle.nvme_journal.proofs.Alike.{matching_records_carry_alike}
use Rattle.nvme_journal.proofs.Worlds.{admin_commands_are_kept, io_commands_are_kept}
use Rattle.nvme_target.specs.Journals.{
  JournalHoldsTheAccessState,
  JournalRestoresTheAccessState,
  data_of,
  journal,
  kept_by,
  kept_if,
  kept_of,
}

world-of : (new old : Subsystem) → new ≡ old → new.world ≡ old.world
world-of new old e = ap (λ (s : Subsystem). s.world) e

-- What is kept of a reaction, and of a command without a completion, is nothing.

reacts : (o : Option Controller) (old new : Subsystem) (k : ℕ) (f : Controller → Reaction) (seen : Seen)
    → ReactsAs o old k f seen new → new.world ≡ old.world
unfolding with_controller
reacts None old new k f seen h = world-of new old h.1
reacts (Some c) old new k f seen h = ap (λ (s : Subsystem). s.world) h.1

stays : (seen is : Seen) (o : Option Controller) (k i : ℕ) (old new : Subsystem) → seen ≡ is → kept_if is o k i ≡ []
    → new ≡ old → new.world ≡ carried_all (kept_if seen o k i) old.world
stays seen is o k i old new same none e =
    world-of new old e ∙ sym (ap (λ records. carried_all records old.world) (ap (λ s. kept_if s o k i) same ∙ none))

-- A command is executed.
comes-to : (is_admin : Bool) (tells : Bool) (k : ℕ) (t : FetchedCommand) (old : Subsystem) (c : Controller)
    (a : CommandExecution) → CommandComesToAs is_admin tells (queues_of c) k t (scene_of old c) a
    → a.left.world
    ≡ carried_all (kept a.outcome.status k is_admin t.entry (data_of is_admin c.window t.entry)) old.world
comes-to true tells k t old c a h =
    ap (λ (x : CommandExecution). x.left.world) h
    ∙ admin_commands_are_kept old.world (queues_of c) k t.entry c.window
    ∙ sym (ap (λ (x : CommandExecution).
    carried_all (kept x.outcome.status k true t.entry (data_of true c.window t.entry)) old.world) h)
comes-to false tells k t old c a h =
    io_commands_are_kept tells k t.entry t.marked (scene_of old c) a.left a.outcome h.1

over : (o : Option QueuePair) (tells : Bool) (old new : Subsystem) (k i : ℕ) (c : Controller) (t : FetchedCommand)
    (seen : Seen) → slice_get c.fetched i ≡ Some t → ExecutesOver o tells old k c i t seen new
    → new.world ≡ carried_all (kept_if seen (Some c) k i) old.world
unfolding after_execution CommandComesTo
over None tells old new k i c t seen found h = stays seen (Executed CqFull) (Some c) k i old new h.0 refl h.1
over (Some p) tells old new k i c t seen found h =
    let answer = h.execution.outcome in
    ap (λ (s : Subsystem). s.world) h.leaves
    ∙ comes-to (t.queue == 0) tells k t old c h.execution h.comes_to
    ∙ sym (ap (λ o. carried_all (kept_of o c k answer.status) old.world) found)
    ∙ sym (ap (λ s. carried_all (kept_if s (Some c) k i) old.world) h.gives)

one : (o : Option FetchedCommand) (tells : Bool) (old new : Subsystem) (k i : ℕ) (c : Controller) (seen : Seen)
    → slice_get c.fetched i ≡ o → ExecutesOne o tells old k c i seen new
    → new.world ≡ carried_all (kept_if seen (Some c) k i) old.world
one None tells old new k i c seen found h = stays seen (Executed NoSuch) (Some c) k i old new h.0 refl h.1
one (Some t) tells old new k i c seen found h = over (open_pair c t) tells old new k i c t seen found h

executes : (o : Option Controller) (tells : Bool) (old new : Subsystem) (k i : ℕ) (seen : Seen)
    → ExecutesAt o tells old k i seen new → new.world ≡ carried_all (kept_if seen o k i) old.world
executes None tells old new k i seen h = stays seen NoController None k i old new h.0 refl h.1
executes (Some c) tells old new k i seen h = one (slice_get c.fetched i) tells old new k i c seen refl h

pub step : (tells : Bool) (old new : Subsystem) (event : Event) (seen : Seen) → Step tells old event seen new
    → new.world ≡ carried_all (kept_by old event seen) old.world
unfolding after_power_cycle
step tells old new (Store k address bytes) seen h = reacts (controller_at old k) old new k _ seen h
step tells old new (Write32 k offset v) seen h = reacts (controller_at old k) old new k _ seen h
step tells old new (Read32 k offset) seen h = reacts (controller_at old k) old new k _ seen h
step tells old new (Fetch k q) seen h = reacts (controller_at old k) old new k _ seen h
step tells old new (Execute k i) seen h = executes (controller_at old k) tells old new k i seen h
step tells old new PowerCycle seen h = ap (λ (s : Subsystem). s.world) h.1

joined : (records later : List Record) (w : World)
    → carried_all (records ++ later) w ≡ carried_all later (carried_all records w)
joined [] later w = refl
joined (r ∷ records) later w = joined records later _

pub journal_holds_the_access_state : JournalHoldsTheAccessState
journal_holds_the_access_state tells old new [] [] run = world-of new old run
journal_holds_the_access_state tells old new (event ∷ events) (seen ∷ later) run =
    let records = kept_by old event seen in
    let rest = journal tells run.0 events later new run.2 in
    let mid : Subsystem = run.0 in
    journal_holds_the_access_state tells run.0 new events later run.2
    ∙ ap (carried_all rest) (step tells old mid event seen run.1)
    ∙ sym (joined records rest old.world)
journal_holds_the_access_state tells old new [] (seen ∷ later) run = absurd run
journal_holds_the_access_state tells old new (event ∷ events) [] run = absurd run

pub journal_restores_the_access_state : JournalRestoresTheAccessState
journal_restores_the_access_state tells tells_again old new again left events others seen seen_again run rerun
    begins same =
    let one = journal tells old events seen new run in
    let two = journal tells_again again others seen_again left rerun in
    let ends : left.world ≡ new.world =
    journal_holds_the_access_state tells_again again left others seen_again rerun ∙ ap (carried_all two) begins
    ∙ matching_records_carry_alike one two old.world same
    ∙ sym (journal_holds_the_access_state tells old new events seen run) in
    record { now = ends; cycled = ap cycled_world ends }
