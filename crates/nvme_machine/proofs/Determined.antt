-- For the law `run_is_determined` and others: without a fault of the medium, each list of events has one run.
use Rattle.std.proofs.Common.{
  ◌≡◌,
  ℕ,
  ◌-◌,
  ◌^◌,
  ◌<◌,
  ◌≤◌,
  ◌==◌,
  Bool,
  true,
  false,
  List,
  [],
  ◌∷◌,
  Option,
  None,
  Some,
  refl,
  sym,
  ap,
  subst,
  ◌∙◌,
  arith,
}
use Rattle.std.specs.Prelude.{if◌then◌else◌, slice_get}
use Rattle.nvme_spec.specs.declared.queues.Queues.{Queues}
use Rattle.nvme_spec.specs.Blocks.{Device}
use Rattle.nvme_spec.specs.Execution.{Scene}
use Rattle.nvme_spec.specs.FaultFree.{fault_free_execution}
use Rattle.nvme_spec.specs.FaultFreeCalls.{content_step}
use Rattle.nvme_spec.specs.Layout.{IsLaidOut}
use Rattle.nvme_spec.specs.MediumCalls.{MediumCall, Calls}
use Rattle.nvme_spec.specs.AdminEffects.{admin_execution}
use Rattle.nvme_spec.proofs.CallLaws as calls
use Rattle.nvme_spec.proofs.FaultFree as spec
use Rattle.nvme_machine.specs.declared.event.Event.{Event}
use Rattle.nvme_machine.specs.declared.event.Event.TheVariants.{Execute, PowerCycle}
use Rattle.nvme_machine.specs.declared.fetched.FetchedCommand.{FetchedCommand}
use Rattle.nvme_machine.specs.declared.seen.Executed.TheVariants.{Posted}
use Rattle.nvme_machine.specs.declared.seen.Seen.{Seen}
use Rattle.nvme_machine.specs.declared.seen.Seen.TheVariants.{Executed}
use Rattle.nvme_machine.specs.Controllers.{Controller, QueuePair, Reaction, queues_of, open_pair}
use Rattle.nvme_machine.specs.CommandExecutions.{
  CommandExecution,
  CommandComesTo,
  CommandComesToAs,
  admin_command_execution,
}
use Rattle.nvme_machine.specs.Subsystems.{
  Subsystem,
  Step,
  ReactsAs,
  ExecutesAt,
  ExecutesOne,
  ExecutesOver,
  controller_at,
  controller_of,
  with_controller,
  scene_of,
  after_execution,
  after_power_cycle,
}
use Rattle.nvme_machine.specs.FaultFree.{
  Aftermath,
  fault_free_command_execution,
  fault_free_step,
  fault_free_seen,
  fault_free_left,
  io_command_execution,
  reacting,
  executing,
  executing_one,
  executing_over,
}
use Rattle.nvme_machine.specs.Calling.{AreCallsAs, AreCallsOfExecution}
use Rattle.nvme_machine.specs.EventCalls.{CallingOver, CallingOne, CallingAt, AreCallsOfStep}
use Rattle.nvme_machine.specs.FaultFreeCalls.{calls_as, calls_over, calls_one, calls_at, event_calls}
use Rattle.nvme_machine.specs.Runs.{FailuresNeverFall, RunExists, RunIsUnique}
use Rattle.nvme_machine.proofs.Denials.{same-answer}
use Rattle.nvme_machine.proofs.EventCalls.{calls_are_of_a_step}
use Rattle.nvme_machine.proofs.Layouts.{Leaves, AsItWas, AfterExecution, PowerLost, leaves, layout_stays}

-- The failure count never falls.

pub answer-counts : (admin : Bool) (tells : Bool) (queues : Queues) (k : ℕ) (t : FetchedCommand) (s : Scene)
    (a : CommandExecution) → CommandComesToAs admin tells queues k t s a
    → s.device.failures ≤ a.left.device.failures
answer-counts true tells queues k t s a h = let e = ap (λ (x : CommandExecution). x.left.device.failures) h in
    omega (arith, e)
answer-counts false tells queues k t s a h = spec.failures_never_fall tells k t.entry t.marked s a.left a.outcome h.1

counts-left : (tells : Bool) (old new : Subsystem) (event : Event)
    → Leaves tells old new event → old.device.failures ≤ new.device.failures
unfolding CommandComesTo
counts-left tells old new event (AsItWas world device) =
    let e = ap (λ (d : Device). d.failures) device in omega (arith, e)
counts-left tells old new event (AfterExecution k i is c t a at found answers world device) =
    let e = ap (λ (d : Device). d.failures) device in
    let less = answer-counts (t.queue == 0) tells (queues_of c) k t (scene_of old c) a answers in
    omega (arith, e, less)
counts-left tells old new event (PowerLost is world device) =
    let e = ap (λ (d : Device). d.failures) device in omega (arith, e)

pub step-counts : (tells : Bool) (old new : Subsystem) (event : Event) (seen : Seen)
    → Step tells old event seen new → old.device.failures ≤ new.device.failures
step-counts tells old new event seen h = counts-left tells old new event (leaves tells old new event seen h)

pub failures_never_fall : FailuresNeverFall
failures_never_fall tells old new [] [] run =
    let e = ap (λ (s : Subsystem). s.device.failures) run in omega (arith, e)
failures_never_fall tells old new [] (x ∷ later) run = absurd run
failures_never_fall tells old new (event ∷ events) [] run = absurd run
failures_never_fall tells old new (event ∷ events) (x ∷ later) run =
    let one = step-counts tells old run.0 event x run.1 in
    let rest = failures_never_fall tells run.0 new events later run.2 in
    omega (arith, one, rest)

-- Without a fault, an answer is that of the function.

as-alone : (admin : Bool) (queues : Queues) (k : ℕ) (t : FetchedCommand) (s : Scene) (a : CommandExecution)
    → CommandComesToAs admin true queues k t s a
    → a.left.device.failures ≡ s.device.failures → s.device.failures < 2 ^ 64 - 1
    → a ≡ (if admin then admin_command_execution s (admin_execution s.world queues k t.entry s.window)
    else io_command_execution (fault_free_execution k t.entry t.marked s))
as-alone true queues k t s a h f below = h
as-alone false queues k t s a h f below =
    let r = spec.executes_alone k t.entry t.marked s a.left a.outcome h.1 f below in
    same-answer a (io_command_execution (fault_free_execution k t.entry t.marked s)) r.1 h.0 r.0

pub answer-alone : (queues : Queues) (k : ℕ) (t : FetchedCommand) (s : Scene) (a : CommandExecution)
    → CommandComesTo true queues k t s a
    → a.left.device.failures ≡ s.device.failures → s.device.failures < 2 ^ 64 - 1
    → a ≡ fault_free_command_execution queues k t s
unfolding CommandComesTo fault_free_command_execution
answer-alone queues k t s a h f below = as-alone (t.queue == 0) queues k t s a h f below

-- the result and the state are those of the function
abbrev Is : Seen → Subsystem → Aftermath → Type 0
Is seen new m = (seen ≡ m.seen) × (new ≡ m.left)

over-alone : (o : Option QueuePair) (old new : Subsystem) (k : ℕ) (c : Controller) (i : ℕ) (t : FetchedCommand)
    (seen : Seen) → ExecutesOver o true old k c i t seen new
    → new.device.failures ≡ old.device.failures → old.device.failures < 2 ^ 64 - 1
    → Is seen new (executing_over o old k c i t)
unfolding after_execution
over-alone None old new k c i t seen h f below = h
over-alone (Some p) old new k c i t seen h f below =
    let calm : h.execution.left.device.failures ≡ old.device.failures =
    sym (ap (λ (s : Subsystem). s.device.failures) h.leaves) ∙ f in
    let same = answer-alone (queues_of c) k t (scene_of old c) h.execution h.comes_to calm below in (
      h.gives ∙ ap (λ (a : CommandExecution). Executed (Posted a.outcome)) same,
      h.leaves ∙ ap (λ a. after_execution old k c i t p a) same,
    )

one-alone : (o : Option FetchedCommand) (old new : Subsystem) (k : ℕ) (c : Controller) (i : ℕ) (seen : Seen)
    → ExecutesOne o true old k c i seen new
    → new.device.failures ≡ old.device.failures → old.device.failures < 2 ^ 64 - 1
    → Is seen new (executing_one o old k c i)
one-alone None old new k c i seen h f below = h
one-alone (Some t) old new k c i seen h f below = over-alone (open_pair c t) old new k c i t seen h f below

executes-alone : (o : Option Controller) (old new : Subsystem) (k i : ℕ) (seen : Seen)
    → ExecutesAt o true old k i seen new
    → new.device.failures ≡ old.device.failures → old.device.failures < 2 ^ 64 - 1 → Is seen new (executing o old k i)
executes-alone None old new k i seen h f below = h
executes-alone (Some c) old new k i seen h f below = one-alone (slice_get c.fetched i) old new k c i seen h f below

reacts-alone : (o : Option Controller) (old new : Subsystem) (k : ℕ) (f : Controller → Reaction) (seen : Seen)
    → ReactsAs o old k f seen new → Is seen new (reacting o old k f)
reacts-alone None old new k f seen h = h
reacts-alone (Some c) old new k f seen h = h

pub step-alone : (old new : Subsystem) (event : Event) (seen : Seen) → Step true old event seen new
    → new.device.failures ≡ old.device.failures → old.device.failures < 2 ^ 64 - 1
    → Is seen new (fault_free_step old event)
step-alone old new (Execute k i) seen h f below = executes-alone (controller_at old k) old new k i seen h f below
step-alone old new PowerCycle seen h f below = h
step-alone old new event seen h f below =
    reacts-alone (controller_at old (controller_of event)) old new (controller_of event) _ seen h

pub run_is_unique : RunIsUnique
run_is_unique old new [] [] run f below = (refl, run)
run_is_unique old new [] (s ∷ seen) run f below = absurd run
run_is_unique old new (event ∷ events) [] run f below = absurd run
run_is_unique old new (event ∷ events) (s ∷ seen) run f below =
    let a = step-counts true old run.0 event s run.1 in
    let b = failures_never_fall true run.0 new events seen run.2 in
    let p : run.0.device.failures ≡ old.device.failures = omega (arith, a, b, f) in
    let one = step-alone old run.0 event s run.1 p below in
    let rest = run_is_unique run.0 new events seen run.2 (f ∙ sym p) (subst (λ n. n < 2 ^ 64 - 1) (sym p) below) in (
      (λ i. one.0 i ∷ (rest.0 ∙ ap (λ m. fault_free_seen m events) one.1) i),
      rest.1 ∙ ap (λ m. fault_free_left m events) one.1,
    )

-- And so there is one.

answers-as : (admin : Bool) (queues : Queues) (k : ℕ) (t : FetchedCommand) (s : Scene)
    → IsLaidOut s.world s.device.content
    → CommandComesToAs admin true queues k t s
    (if admin then admin_command_execution s (admin_execution s.world queues k t.entry s.window)
    else io_command_execution (fault_free_execution k t.entry t.marked s))
answers-as true queues k t s laid = refl
answers-as false queues k t s laid = (refl, spec.fault_free_executes k t.entry t.marked s laid)

pub answers : (queues : Queues) (k : ℕ) (t : FetchedCommand) (s : Scene) → IsLaidOut s.world s.device.content
    → CommandComesTo true queues k t s (fault_free_command_execution queues k t s)
unfolding CommandComesTo fault_free_command_execution
answers queues k t s laid = answers-as (t.queue == 0) queues k t s laid

-- no failure is counted

calm-as : (admin : Bool) (queues : Queues) (k : ℕ) (t : FetchedCommand) (s : Scene)
    → (if admin then admin_command_execution s (admin_execution s.world queues k t.entry s.window)
    else io_command_execution (fault_free_execution k t.entry t.marked s)).left.device.failures ≡ s.device.failures
calm-as true queues k t s = refl
calm-as false queues k t s = spec.calm-execution k t.entry t.marked s

pub calm-answer : (queues : Queues) (k : ℕ) (t : FetchedCommand) (s : Scene)
    → (fault_free_command_execution queues k t s).left.device.failures ≡ s.device.failures
unfolding fault_free_command_execution
calm-answer queues k t s = calm-as (t.queue == 0) queues k t s

-- calls of an answer, and the content that they leave
record Serve (admin : Bool) (k : ℕ) (t : FetchedCommand) (s : Scene) (a : CommandExecution)
    (calls : List MediumCall) : Type 0 where
  are : AreCallsAs admin k t s a calls
  made : Calls content_step s.device.content calls a.left.device.content

as-serve : (admin : Bool) (queues : Queues) (k : ℕ) (t : FetchedCommand) (s : Scene)
    → IsLaidOut s.world s.device.content
    → Serve admin k t s (if admin then admin_command_execution s (admin_execution s.world queues k t.entry s.window)
    else io_command_execution (fault_free_execution k t.entry t.marked s)) (calls_as admin k t s)
as-serve true queues k t s laid = record { are = refl; made = refl }
as-serve false queues k t s laid = let both = calls.passing_calls_exist k t.entry t.marked s laid in
    record { are = both.0; made = both.1 }

answer-serves : (queues : Queues) (k : ℕ) (t : FetchedCommand) (s : Scene) → IsLaidOut s.world s.device.content
    → Serve (t.queue == 0) k t s (fault_free_command_execution queues k t s) (calls_as (t.queue == 0) k t s)
unfolding fault_free_command_execution
answer-serves queues k t s laid = as-serve (t.queue == 0) queues k t s laid

-- calls of a step, and the content that they leave; no failure is counted
pub record AreMade (s : Subsystem) (calls : List MediumCall) (new : Subsystem) : Type 0 where
  pub made : Calls content_step s.device.content calls new.device.content
  pub calm : new.device.failures ≡ s.device.failures

over-made : (o : Option QueuePair) (s : Subsystem) (k : ℕ) (c : Controller) (i : ℕ) (t : FetchedCommand)
    → IsLaidOut s.world s.device.content
    → CallingOver o true s k c i t (executing_over o s k c i t).seen (executing_over o s k c i t).left
    (calls_over o k t (scene_of s c)) × AreMade s (calls_over o k t (scene_of s c)) (executing_over o s k c i t).left
unfolding AreCallsOfExecution after_execution
over-made None s k c i t laid = ((refl, refl, refl), record { made = refl; calm = refl })
over-made (Some p) s k c i t laid =
    let serve = answer-serves (queues_of c) k t (scene_of s c) laid in (
      record {
        completes = record {
          execution = fault_free_command_execution (queues_of c) k t (scene_of s c);
          comes_to = answers (queues_of c) k t (scene_of s c) laid;
          gives = refl;
          leaves = refl;
        };
        are = serve.are;
      },
      record { made = serve.made; calm = calm-answer (queues_of c) k t (scene_of s c) },
    )

one-made : (o : Option FetchedCommand) (s : Subsystem) (k : ℕ) (c : Controller) (i : ℕ)
    → IsLaidOut s.world s.device.content
    → CallingOne o true s k c i (executing_one o s k c i).seen (executing_one o s k c i).left (calls_one o s k c)
    × AreMade s (calls_one o s k c) (executing_one o s k c i).left
one-made None s k c i laid = ((refl, refl, refl), record { made = refl; calm = refl })
one-made (Some t) s k c i laid = over-made (open_pair c t) s k c i t laid

at-made : (o : Option Controller) (s : Subsystem) (k i : ℕ) → IsLaidOut s.world s.device.content
    → CallingAt o true s k i (executing o s k i).seen (executing o s k i).left (calls_at o s k i)
    × AreMade s (calls_at o s k i) (executing o s k i).left
at-made None s k i laid = ((refl, refl, refl), record { made = refl; calm = refl })
at-made (Some c) s k i laid = one-made (slice_get c.fetched i) s k c i laid

reacts-made : (o : Option Controller) (s : Subsystem) (k : ℕ) (f : Controller → Reaction)
    → (ReactsAs o s k f (reacting o s k f).seen (reacting o s k f).left × ◌≡◌ {A = List MediumCall} [] [])
    × AreMade s [] (reacting o s k f).left
unfolding with_controller
reacts-made None s k f = (((refl, refl), refl), record { made = refl; calm = refl })
reacts-made (Some c) s k f = (((refl, refl), refl), record { made = refl; calm = refl })

cycle-made : (s : Subsystem) → AreMade s [] (after_power_cycle s)
unfolding after_power_cycle
cycle-made s = record { made = refl; calm = refl }

pub step-made : (s : Subsystem) (event : Event) → IsLaidOut s.world s.device.content
    → AreCallsOfStep true s event (fault_free_step s event).seen (fault_free_step s event).left (event_calls s event)
    × AreMade s (event_calls s event) (fault_free_step s event).left
step-made s (Execute k i) laid = at-made (controller_at s k) s k i laid
step-made s PowerCycle laid = ((refl, refl, refl), cycle-made s)
step-made s event laid = reacts-made (controller_at s (controller_of event)) s (controller_of event) _

pub steps : (s : Subsystem) (event : Event) → IsLaidOut s.world s.device.content
    → Step true s event (fault_free_step s event).seen (fault_free_step s event).left
steps s event laid = calls_are_of_a_step true s _ event _ (event_calls s event) (step-made s event laid).0

pub run_exists : RunExists
run_exists old [] laid = (refl, refl)
run_exists old (event ∷ events) laid =
    let one = steps old event laid in
    let rest = run_exists (fault_free_step old event).left events
    (layout_stays old (fault_free_step old event).left event (fault_free_step old event).seen laid one) in
    (((fault_free_step old event).left, one, rest.0), rest.1 ∙ (step-made old event laid).1.calm)
