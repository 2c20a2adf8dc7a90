-- Proof of the law `calls_leave_the_content`, and for other crates: the calls of every event and every run.
use Rattle.std.proofs.Common.{
  ◌≡◌,
  ℕ,
  ◌-◌,
  ◌^◌,
  ◌<◌,
  ◌==◌,
  not,
  Bool,
  true,
  false,
  List,
  [],
  ◌∷◌,
  ◌++◌,
  Option,
  None,
  Some,
  Ok,
  refl,
  sym,
  ap,
  subst,
  ◌∙◌,
  arith,
}
use Rattle.std.specs.Prelude.{if◌then◌else◌, slice_get}
use Rattle.std.proofs.lemmas.Bool.{false≢true}
use Rattle.nvme_wire.specs.Submission.{opcode}
use Rattle.nvme_spec.specs.declared.command.Command.TheVariants.{Flush}
use Rattle.nvme_spec.specs.declared.outcome.Outcome.{Outcome}
use Rattle.nvme_spec.specs.declared.queues.Queues.{Queues}
use Rattle.nvme_spec.specs.Blocks.{Device}
use Rattle.nvme_spec.specs.AdminRules.{admin_judgement}
use Rattle.nvme_spec.specs.Commands.{opcode_of}
use Rattle.nvme_spec.specs.Execution.{Scene}
use Rattle.nvme_spec.specs.FaultFreeCalls.{content_step}
use Rattle.nvme_spec.specs.IoData.{io_judgement}
use Rattle.nvme_spec.specs.Layout.{IsLaidOut}
use Rattle.nvme_spec.specs.MediumCalls.{MediumCall, Flushes, Calls}
use Rattle.nvme_spec.specs.StatusLaws.{is_same, denials}
use Rattle.nvme_spec.specs.Statuses as status
use Rattle.nvme_spec.proofs.AdminDenials.{admin-refuses}
use Rattle.nvme_spec.proofs.CallLaws as spec
use Rattle.nvme_spec.proofs.Denials.{JudgementRefuses, Refuses, io-refuses}
use Rattle.nvme_spec.proofs.MediumCalls.{calls-joined}
use Rattle.nvme_spec.proofs.PassingCalls.{content-alone, calls-split}
use Rattle.nvme_spec.proofs.StatusLaws.{of-each}
use Rattle.nvme_machine.specs.declared.event.Event.{Event}
use Rattle.nvme_machine.specs.declared.event.Event.TheVariants.{Execute, PowerCycle}
use Rattle.nvme_machine.specs.declared.fetched.FetchedCommand.{FetchedCommand}
use Rattle.nvme_machine.specs.declared.seen.Executed.TheVariants.{Posted}
use Rattle.nvme_machine.specs.declared.seen.Seen.{Seen}
use Rattle.nvme_machine.specs.declared.seen.Seen.TheVariants.{Executed}
use Rattle.nvme_machine.specs.CommandExecutions.{CommandExecution, CommandComesTo, CommandComesToAs, judgement}
use Rattle.nvme_machine.specs.CallLaws.{
  StepsHaveCalls,
  RunsHaveCalls,
  StepCallsAreUnique,
  RunCallsAreUnique,
  StepCallsAreComputed,
  RunCallsAreComputed,
  RunCallsExist,
  DeniedIsNoSuccess,
  FlushedIsOneFlush,
}
use Rattle.nvme_machine.specs.Calling.{AreCallsAs, AreCallsOfExecution}
use Rattle.nvme_machine.specs.Controllers.{Controller, QueuePair, queues_of, open_pair}
use Rattle.nvme_machine.specs.EventCalls.{CallingOver, CallingOne, CallingAt, AreCallsOfStep, AreCallsOfRun}
use Rattle.nvme_machine.specs.FaultFree.{fault_free_step}
use Rattle.nvme_machine.specs.FaultFreeCalls.{calls_as, calls_over, calls_one, calls_at, event_calls, fault_free_calls}
use Rattle.nvme_machine.specs.Secrecy.{over}
use Rattle.nvme_machine.specs.Subsystems.{Subsystem, ExecutesOver, ExecutesOne, ExecutesAt, controller_at, scene_of}
use Rattle.nvme_machine.proofs.Denials.{denied_changes_its_entry_alone}
use Rattle.nvme_machine.proofs.Determined.{step-counts, failures_never_fall, step-alone, step-made, steps}
use Rattle.nvme_machine.proofs.EventCalls.{calls_are_of_a_step, calls_are_of_a_run}
use Rattle.nvme_machine.proofs.Layouts.{layout_stays}

-- Each step has calls.

as-some : (admin : Bool) (tells : Bool) (queues : Queues) (k : ℕ) (t : FetchedCommand) (s : Scene)
    (a : CommandExecution) → CommandComesToAs admin tells queues k t s a
    → (calls : List MediumCall) × AreCallsAs admin k t s a calls
as-some true tells queues k t s a h = ([], refl)
as-some false tells queues k t s a h = spec.executions_have_calls tells k t.entry t.marked s a.left a.outcome h.1

over-some : (o : Option QueuePair) (tells : Bool) (old new : Subsystem) (k : ℕ) (c : Controller) (i : ℕ)
    (t : FetchedCommand) (seen : Seen) → ExecutesOver o tells old k c i t seen new
    → (calls : List MediumCall) × CallingOver o tells old k c i t seen new calls
unfolding CommandComesTo AreCallsOfExecution
over-some None tells old new k c i t seen h = ([], (h.0, h.1, refl))
over-some (Some p) tells old new k c i t seen h =
    let some = as-some (t.queue == 0) tells (queues_of c) k t (scene_of old c) h.execution h.comes_to in
    (some.0, record { completes = h; are = some.1 })

one-some : (o : Option FetchedCommand) (tells : Bool) (old new : Subsystem) (k : ℕ) (c : Controller) (i : ℕ)
    (seen : Seen) → ExecutesOne o tells old k c i seen new
    → (calls : List MediumCall) × CallingOne o tells old k c i seen new calls
one-some None tells old new k c i seen h = ([], (h.0, h.1, refl))
one-some (Some t) tells old new k c i seen h = over-some (open_pair c t) tells old new k c i t seen h

at-some : (o : Option Controller) (tells : Bool) (old new : Subsystem) (k i : ℕ) (seen : Seen)
    → ExecutesAt o tells old k i seen new
    → (calls : List MediumCall) × CallingAt o tells old k i seen new calls
at-some None tells old new k i seen h = ([], (h.0, h.1, refl))
at-some (Some c) tells old new k i seen h = one-some (slice_get c.fetched i) tells old new k c i seen h

pub steps_have_calls : StepsHaveCalls
steps_have_calls tells old new (Execute k i) seen h = at-some (controller_at old k) tells old new k i seen h
steps_have_calls tells old new PowerCycle seen h = ([], (h.0, h.1, refl))
steps_have_calls tells old new event seen h = ([], (h, refl))

pub runs_have_calls : RunsHaveCalls
runs_have_calls tells old new [] [] h = ([], (h, refl))
runs_have_calls tells old new [] (seen ∷ later) h = absurd h
runs_have_calls tells old new (event ∷ events) [] h = absurd h
runs_have_calls tells old new (event ∷ events) (seen ∷ later) h =
    let here = steps_have_calls tells old h.0 event seen h.1 in
    let behind = runs_have_calls tells h.0 new events later h.2 in
    (here.0 ++ behind.0, (h.0, here.0, behind.0, here.1, behind.1, refl))

-- Over a medium that reveals its content a step without a fault has only the calls that the functions compute.

as-alone : (admin : Bool) (k : ℕ) (t : FetchedCommand) (s : Scene) (d : Device) (a : CommandExecution)
    (calls : List MediumCall) (left : List ℕ) → AreCallsAs admin k t s a calls
    → Calls content_step d.content calls left → calls ≡ calls_as admin k t (record s { device = d })
as-alone true k t s d a calls left h made = h
as-alone false k t s d a calls left h made =
    let there : Scene = record s { device = d } in
    spec.passing_calls_are_unique k t.entry t.marked there a.outcome.status a.left.window calls left h made

over-alone : (o : Option QueuePair) (tells : Bool) (old new : Subsystem) (d : Device) (k : ℕ) (c : Controller) (i : ℕ)
    (t : FetchedCommand) (seen : Seen) (calls : List MediumCall) (left : List ℕ)
    → CallingOver o tells old k c i t seen new calls → Calls content_step d.content calls left
    → calls ≡ calls_over o k t (scene_of (over d old) c)
unfolding AreCallsOfExecution
over-alone None tells old new d k c i t seen calls left h made = h.2
over-alone (Some p) tells old new d k c i t seen calls left h made =
    as-alone (t.queue == 0) k t (scene_of old c) d h.completes.execution calls left h.are made

one-alone : (o : Option FetchedCommand) (tells : Bool) (old new : Subsystem) (d : Device) (k : ℕ) (c : Controller)
    (i : ℕ) (seen : Seen) (calls : List MediumCall) (left : List ℕ)
    → CallingOne o tells old k c i seen new calls → Calls content_step d.content calls left
    → calls ≡ calls_one o (over d old) k c
one-alone None tells old new d k c i seen calls left h made = h.2
one-alone (Some t) tells old new d k c i seen calls left h made =
    over-alone (open_pair c t) tells old new d k c i t seen calls left h made

at-alone : (o : Option Controller) (tells : Bool) (old new : Subsystem) (d : Device) (k i : ℕ) (seen : Seen)
    (calls : List MediumCall) (left : List ℕ)
    → CallingAt o tells old k i seen new calls → Calls content_step d.content calls left
    → calls ≡ calls_at o (over d old) k i
at-alone None tells old new d k i seen calls left h made = h.2
at-alone (Some c) tells old new d k i seen calls left h made =
    one-alone (slice_get c.fetched i) tells old new d k c i seen calls left h made

calls-alone : (tells : Bool) (old new : Subsystem) (d : Device) (event : Event) (seen : Seen)
    (calls : List MediumCall) (left : List ℕ) → AreCallsOfStep tells old event seen new calls
    → Calls content_step d.content calls left → calls ≡ event_calls (over d old) event
unfolding controller_at
calls-alone tells old new d (Execute k i) seen calls left h made =
    at-alone (controller_at old k) tells old new d k i seen calls left h made
calls-alone tells old new d PowerCycle seen calls left h made = h.2
calls-alone tells old new d event seen calls left h made = h.1

pub step_calls_are_unique : StepCallsAreUnique
step_calls_are_unique tells old new other event seen others calls these content left right h g made also =
    let d : Device = record { content = content; failures = 0 } in
    calls-alone tells old other d event others these right g also
    ∙ sym (calls-alone tells old new d event seen calls left h made)

pub step_calls_are_computed : StepCallsAreComputed
step_calls_are_computed tells old new event seen calls left h made =
    calls-alone tells old new old.device event seen calls left h made

pub run_calls_are_unique : RunCallsAreUnique
run_calls_are_unique old new other [] [] [] calls these content left right h g made also f e below = g.1 ∙ sym h.1
run_calls_are_unique old new other [] (x ∷ seen) others calls these content left right h g made also f e
    below = absurd h
run_calls_are_unique old new other [] [] (y ∷ others) calls these content left right h g made also f e below = absurd g
run_calls_are_unique old new other (event ∷ events) [] others calls these content left right h g made also f e
    below = absurd h
run_calls_are_unique old new other (event ∷ events) (x ∷ seen) [] calls these content left right h g made also f e
    below = absurd g
run_calls_are_unique old new other (event ∷ events) (x ∷ seen) (y ∷ others) calls these content left right
    (mid, here, behind, step, run, joined) (now, own, later, stepped, ran, made-of) made also f e below =
    let s =
    calls-split content_step here behind content left (subst (λ cs. Calls content_step content cs left) joined made) in
    let t =
    calls-split content_step own later content right (subst (λ cs. Calls content_step content cs right) made-of also) in
    let one = calls_are_of_a_step true old mid event x here step in
    let two = calls_are_of_a_step true old now event y own stepped in
    let a = step-counts true old mid event x one in
    let b = failures_never_fall true mid new events seen (calls_are_of_a_run true mid new events seen behind run) in
    let c = step-counts true old now event y two in
    let d =
    failures_never_fall true now other events others (calls_are_of_a_run true now other events others later ran) in
    let p : mid.device.failures ≡ old.device.failures = omega (arith, a, b, f) in
    let q : now.device.failures ≡ old.device.failures = omega (arith, c, d, e) in
    let same : now ≡ mid =
    (step-alone old now event y two q below).1 ∙ sym (step-alone old mid event x one p below).1 in
    let first : own ≡ here =
    step_calls_are_unique true old mid now event x y here own content s.mid t.mid step stepped s.first t.first in
    let reached : t.mid ≡ s.mid =
    content-alone here content s.mid t.mid s.first (subst (λ cs. Calls content_step content cs t.mid) first t.first) in
    let rest : later ≡ behind = run_calls_are_unique mid new other events seen others behind later s.mid left right run
    (subst (λ m. AreCallsOfRun true m events others other later) same ran)
    s.rest (subst (λ c. Calls content_step c later right) reached t.rest) (f ∙ sym p) (e ∙ sym p)
    (subst (λ n. n < 2 ^ 64 - 1) (sym p) below) in
    made-of ∙ (ap (λ cs. cs ++ later) first ∙ (ap (λ cs. here ++ cs) rest ∙ sym joined))

-- And they exist: those of the step without a fault, which leave its content.

still-laid : (s : Subsystem) (event : Event) → IsLaidOut s.world s.device.content
    → IsLaidOut (fault_free_step s event).left.world (fault_free_step s event).left.device.content
still-laid s event laid =
    layout_stays s (fault_free_step s event).left event (fault_free_step s event).seen laid (steps s event laid)

pub run_calls_exist : RunCallsExist
run_calls_exist old [] laid = ((refl, refl), refl)
run_calls_exist old (event ∷ events) laid =
    let mid : Subsystem = (fault_free_step old event).left in
    let one = step-made old event laid in
    let rest = run_calls_exist mid events (still-laid old event laid) in (
      (mid, event_calls old event, fault_free_calls mid events, one.0, rest.0, refl),
      calls-joined content_step (event_calls old event)
          (fault_free_calls mid events) old.device.content mid.device.content _ one.1.made rest.1,
    )

pub run_calls_are_computed : RunCallsAreComputed
run_calls_are_computed old new [] [] calls left laid h made f below = (
  h.1,
  sym (ap (λ (s : Subsystem). s.device.content) h.0
      ∙ sym (subst (λ cs. Calls content_step old.device.content cs left) h.1 made)),
)
run_calls_are_computed old new [] (x ∷ later) calls left laid h made f below = absurd h
run_calls_are_computed old new (event ∷ events) [] calls left laid h made f below = absurd h
run_calls_are_computed old new (event ∷ events) (x ∷ later) calls left laid (mid, here, behind, step, run, joined)
    made f below =
    let s = calls-split content_step here behind old.device.content left
    (subst (λ cs. Calls content_step old.device.content cs left) joined made) in
    let stepped = calls_are_of_a_step true old mid event x here step in
    let a = step-counts true old mid event x stepped in
    let b = failures_never_fall true mid new events later (calls_are_of_a_run true mid new events later behind run) in
    let p : mid.device.failures ≡ old.device.failures = omega (arith, a, b, f) in
    let is : mid ≡ (fault_free_step old event).left = (step-alone old mid event x stepped p below).1 in
    let one : here ≡ event_calls old event = step_calls_are_computed true old mid event x here s.mid step s.first in
    let first : Calls content_step old.device.content (event_calls old event) s.mid =
    subst (λ cs. Calls content_step old.device.content cs s.mid) one s.first in
    let same : mid.device.content ≡ s.mid =
    ap (λ (m : Subsystem). m.device.content) is ∙ content-alone (event_calls old event) old.device.content s.mid
    (fault_free_step old event).left.device.content first (step-made old event laid).1.made in
    let rest = run_calls_are_computed mid new events later behind left
    (subst (λ (m : Subsystem). IsLaidOut m.world m.device.content) (sym is) (still-laid old event laid)) run
    (subst (λ c. Calls content_step c behind left) (sym same) s.rest) (f ∙ sym p)
    (subst (λ n. n < 2 ^ 64 - 1) (sym p) below) in (
      joined ∙ (ap (λ cs. cs ++ behind) one
          ∙ ap (λ cs. event_calls old event ++ cs) (rest.0 ∙ ap (λ m. fault_free_calls m events) is)),
      rest.1,
    )

-- A denied command does not succeed, so a Flush that succeeds was one flush.

refuses-by : (admin : Bool) (queues : Queues) (k : ℕ) (t : FetchedCommand) (s : Scene)
    → JudgementRefuses (if admin then admin_judgement s.world queues k t.entry s.window
    else io_judgement s.world k t.entry t.marked s.window)
refuses-by true queues k t s = admin-refuses s.world queues k t.entry s.window
refuses-by false queues k t s = io-refuses s.world k t.entry t.marked s.window

refuses : (queues : Queues) (k : ℕ) (t : FetchedCommand) (s : Scene) → JudgementRefuses (judgement queues k t s)
unfolding judgement
refuses queues k t s = refuses-by (t.queue == 0) queues k t s

posted-one : (x y : Outcome) → Executed (Posted x) ≡ Executed (Posted y) → x ≡ y
posted-one x y h = cc

pub denied_is_no_success : DeniedIsNoSuccess
denied_is_no_success tells old new k i c t p denial outcome step waits denied ok =
    let posted =
    (denied_changes_its_entry_alone tells old new k i c t p denial (Executed (Posted outcome)) step waits denied).0 in
    let why : Refuses denial.status = subst JudgementRefuses denied (refuses (queues_of c) k t (scene_of old c)) in
    let is : denial.status ≡ status.successful_completion =
    sym (ap (λ (x : Outcome). x.status) (posted-one outcome _ posted)) ∙ ok in
    false≢true (of-each (λ x. not (is_same x status.successful_completion)) denials status.successful_completion refl
    (subst Refuses is why))

flush-as : (tells : Bool) (queues : Queues) (k : ℕ) (t : FetchedCommand) (s : Scene) (a : CommandExecution)
    (calls : List MediumCall) → CommandComesToAs false tells queues k t s a → AreCallsAs false k t s a calls
    → opcode t.entry ≡ opcode_of Flush → a.outcome.status ≡ status.successful_completion → calls ≡ Flushes (Ok tt) ∷ []
flush-as tells queues k t s a calls answers are is ok =
    spec.flushed_is_one_flush tells k t.entry t.marked s a.left a.outcome calls answers.1 are is ok

flush-over : (o : Option QueuePair) (tells : Bool) (old new : Subsystem) (k : ℕ) (c : Controller) (i : ℕ)
    (t : FetchedCommand) (outcome : Outcome) (calls : List MediumCall)
    → CallingOver o tells old k c i t (Executed (Posted outcome)) new calls → (t.queue == 0) ≡ false
    → opcode t.entry ≡ opcode_of Flush → outcome.status ≡ status.successful_completion
    → calls ≡ Flushes (Ok tt) ∷ []
unfolding CommandComesTo AreCallsOfExecution
flush-over None tells old new k c i t outcome calls h io is ok = let no = h.0 in absurd (cc)
flush-over (Some p) tells old new k c i t outcome calls h io is ok =
    let a = h.completes.execution in
    let own : a.outcome.status ≡ status.successful_completion =
    sym (ap (λ (x : Outcome). x.status) (posted-one outcome a.outcome h.completes.gives)) ∙ ok in
    flush-as tells (queues_of c) k t (scene_of old c) a calls
    (subst (λ b. CommandComesToAs b tells (queues_of c) k t (scene_of old c) a) io h.completes.comes_to)
    (subst (λ b. AreCallsAs b k t (scene_of old c) a calls) io h.are) is own

pub flushed_is_one_flush : FlushedIsOneFlush
flushed_is_one_flush tells old new k i outcome calls made f ok =
    let c : Controller = f.controller in
    let t : FetchedCommand = f.command in
    let one : CallingOne (slice_get c.fetched i) tells old k c i (Executed (Posted outcome)) new calls =
    subst (λ o. CallingAt o tells old k i (Executed (Posted outcome)) new calls) f.at made in
    let over : CallingOver (open_pair c t) tells old k c i t (Executed (Posted outcome)) new calls =
    subst (λ o. CallingOne o tells old k c i (Executed (Posted outcome)) new calls) f.found one in
    flush-over (open_pair c t) tells old new k c i t outcome calls over f.io f.is ok
