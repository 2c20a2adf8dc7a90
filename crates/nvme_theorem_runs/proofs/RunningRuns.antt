-- For `runs.rt`: the example runs of the theorems on runs and on the policy, computed.
use Rattle.std.specs.Prelude.{replicate}
use Rattle.std.proofs.Common.{
  Err,
  List,
  None,
  Some,
  [],
  ap,
  arith,
  false,
  inr,
  refl,
  subst,
  sym,
  true,
  ℕ,
  ◌-◌,
  ◌<◌,
  ◌^◌,
  ◌∙◌,
  ◌∷◌,
  ◌≡◌,
}
use Rattle.nvme_spec.specs.declared.command.Command.TheVariants.{WriteZeroes}
use Rattle.nvme_spec.specs.declared.outcome.Outcome.{Outcome}
use Rattle.nvme_spec.specs.declared.queues.QueueChange.TheVariants.{Keep}
use Rattle.nvme_spec.specs.declared.verdict.Plan.{Plan}
use Rattle.nvme_spec.specs.declared.verdict.Verdict.TheVariants.{Allowed}
use Rattle.nvme_spec.specs.Commands.{plan_of}
use Rattle.nvme_spec.specs.IoData.{io_verdict}
use Rattle.nvme_spec.specs.Layout.{IsLaidOut}
use Rattle.nvme_spec.specs.Statuses.{write_fault}
use Rattle.nvme_spec.proofs.FaultFree.{calm}
use Rattle.nvme_machine.specs.declared.event.Event.TheVariants.{Execute}
use Rattle.nvme_machine.specs.declared.seen.Executed.TheVariants.{CqFull, Posted}
use Rattle.nvme_machine.specs.declared.seen.Seen.{Seen}
use Rattle.nvme_machine.specs.declared.seen.Seen.TheVariants.{Executed}
use Rattle.nvme_machine.specs.CommandExecutions.{CommandExecution, judgement}
use Rattle.nvme_machine.specs.Controllers.{Controller, queues_of}
use Rattle.nvme_machine.specs.FaultFree.{fault_free_seen, fault_free_step}
use Rattle.nvme_machine.specs.Fencing.{namespace_bytes}
use Rattle.nvme_machine.specs.Runs.{Waits}
use Rattle.nvme_machine.specs.Subsystems.{Run, Step, Subsystem, after_execution, controller_at, scene_of}
use Rattle.nvme_machine.proofs.Denials.{allowed_does_its_effect, denied_changes_its_entry_alone}
use Rattle.nvme_machine.proofs.Determined.{run_is_unique, steps}
use Rattle.nvme_theorem_runs.specs.Cluster.{blocks, cluster, done, flush, held_by_a1, ready, reserved, zeroes, zeros}
use Rattle.nvme_theorem_runs.specs.Fencing.{after_fenced, fenced, fenced_events, fenced_seen}
use Rattle.nvme_theorem_runs.specs.Running.{
  AllowedOfAnyVerdict,
  DeniedOfAnyVerdict,
  DeniedWithoutRoom,
  PolicyAtWork,
  RunAtWork,
  RunOverFaults,
  conflict,
  empty_queues,
  judged,
  judged_controller,
}
use Rattle.nvme_theorem_runs.proofs.Computing.{distinct, plain-run, rule_of}
use Rattle.nvme_theorem_runs.proofs.FencingRuns.{seen-so}
use Rattle.nvme_theorem_runs.proofs.Laying.{laid}
use Rattle.nvme_theorem_runs.proofs.Unfolding.{computing}
use Rattle.nvme_spec.specs.Statuses as status

fenced-calm : (after_fenced.device.failures ≡ fenced.device.failures) × (fenced.device.failures ≡ 0)
unfolding computing fenced_events
fenced-calm = (refl, refl)

few : fenced.device.failures < 2 ^ 64 - 1
few = subst (λ n. n < 2 ^ 64 - 1) (sym fenced-calm.1) (omega arith)

alone : (new : Subsystem) (seen : List Seen) → Run true fenced fenced_events seen new
    → new.device.failures ≡ fenced.device.failures → (seen ≡ fenced_seen) × (new ≡ after_fenced)
alone new seen run calm = let r = run_is_unique fenced new fenced_events seen run calm few in (r.0 ∙ seen-so, r.1)

pub run_at_work : RunAtWork
run_at_work = record {
  laid = laid (held_by_a1 1) [] [];
  run = subst (λ seen. Run true fenced fenced_events seen after_fenced) seen-so
      (plain-run fenced fenced_events (laid (held_by_a1 1) [] []));
  calm = fenced-calm.0;
  alone = alone;
}

-- A Flush whose call fails.

abbrev flushing_one : Controller
flushing_one = ready 2 zeros (flush 2 ∷ [])

abbrev failing : Subsystem
failing = cluster (held_by_a1 1) [] (flush 2 ∷ [])

abbrev fault_outcome : Outcome
fault_outcome = record done { status = status.write_fault }

abbrev faulty : CommandExecution
faulty = record {
  outcome = fault_outcome;
  change = Keep;
  left = record { world = reserved (held_by_a1 1); window = zeros; device = record blocks { failures = 1 } };
}

unfoldable failed : Subsystem
failed = after_execution failing 2 flushing_one 0 (flush 2) empty_queues faulty

failing-step : Step true failing (Execute 2 0) (Executed (Posted fault_outcome)) failed
unfolding computing failed
failing-step = record {
  execution = faulty;
  comes_to = (
    refl,
    record {
      returned = [];
      effect = record {
        world = refl;
        effect = (
          (
            (λ told. refl),
            inr (record { answered = refl; failures = record { later = omega arith; risen = omega arith } }),
          ),
          refl,
        );
      };
      window = refl;
      dw0 = refl;
      rule = refl;
      marks = refl;
    },
  );
  gives = refl;
  leaves = refl;
}

abbrev status_in : Seen → ℕ
status_in (Executed (Posted outcome)) = outcome.status.sct
status_in other = 9

abbrev first_status : List Seen → ℕ
first_status [] = 9
first_status (seen ∷ rest) = status_in seen

failing-facts : (first_status (fault_free_seen failing (Execute 2 0 ∷ [])) ≡ 0) × (failing.device.failures ≡ 0)
unfolding computing
failing-facts = (refl, refl)

pub run_needs_no_fault : RunOverFaults → ⊥
run_needs_no_fault law =
    let is = law failing failed (Execute 2 0 ∷ []) (Executed (Posted fault_outcome) ∷ []) (failed, failing-step, refl)
    (subst (λ n. n < 2 ^ 64 - 1) (sym failing-facts.1) (omega arith)) in
    distinct 2 0 refl (ap first_status is ∙ failing-facts.0)

-- Commands as the policy allows.

judged-laid : IsLaidOut judged.world judged.device.content
judged-laid = laid (held_by_a1 1) [] (zeroes 1 ∷ zeroes 2 ∷ [])

abbrev a_plan : Plan
a_plan = plan_of WriteZeroes (zeroes 2).entry

judged-waits : Waits judged 2 0 judged_controller (zeroes 1) empty_queues
    × Waits judged 2 1 judged_controller (zeroes 2) empty_queues
unfolding computing
judged-waits = (record { at = refl; found = refl; room = refl }, record { at = refl; found = refl; room = refl })

judged-facts : (judgement (queues_of judged_controller) 2 (zeroes 1) (scene_of judged judged_controller) ≡ Err conflict)
    × (io_verdict judged.world 2 (zeroes 2).entry false judged_controller.window ≡ Allowed a_plan)
    × (namespace_bytes judged 2 ≡ replicate 512 2) × (namespace_bytes (fault_free_step judged (Execute 2 1)).left 2 ≡
    replicate 512 0)
    × (rule_of (fault_free_step judged (Execute 2 0)).seen ≡ 7)
    × (rule_of (fault_free_step judged (Execute 2 1)).seen ≡ 0)
unfolding computing judgement
judged-facts = (refl, refl, refl, refl, refl, refl)

pub policy_at_work : PolicyAtWork
policy_at_work =
    let first = fault_free_step judged (Execute 2 0) in
    let second = fault_free_step judged (Execute 2 1) in
    let denied = denied_changes_its_entry_alone true judged first.left 2 0 judged_controller (zeroes 1) empty_queues
    conflict first.seen
    (steps judged (Execute 2 0) judged-laid) judged-waits.0 judged-facts.0 in
    record {
      waits = judged-waits.0;
      denied = judged-facts.0;
      answered = denied.0;
      leaves = denied.1;
      waits_too = judged-waits.1;
      plan = a_plan;
      allowed = judged-facts.1;
      does = allowed_does_its_effect true judged second.left 2 1 judged_controller (zeroes 2) empty_queues a_plan
          second.seen
          (steps judged (Execute 2 1) judged-laid) judged-waits.1 refl judged-facts.1;
      before = judged-facts.2;
      written = judged-facts.3;
    }

pub denied_needs_a_denial : DeniedOfAnyVerdict → ⊥
denied_needs_a_denial law =
    let second = fault_free_step judged (Execute 2 1) in
    let is = law true judged second.left 2 1 judged_controller (zeroes 2) empty_queues conflict second.seen
    (steps judged (Execute 2 1) judged-laid) judged-waits.1 in
    distinct 0 7 refl (sym judged-facts.5 ∙ ap rule_of is)

pub allowed_needs_a_verdict : AllowedOfAnyVerdict → ⊥
allowed_needs_a_verdict law =
    let first = fault_free_step judged (Execute 2 0) in
    let is = law true judged first.left 2 0 judged_controller (zeroes 1) empty_queues a_plan first.seen
    (steps judged (Execute 2 0) judged-laid) judged-waits.0 refl in
    distinct 7 0 refl (sym judged-facts.4 ∙ ap rule_of is.gives ∙ is.performed.rule)

-- A full completion queue.

abbrev crowded_one : Controller
crowded_one = record (ready 2 zeros (zeroes 1 ∷ [])) {
  completion = None ∷ Some (record { base = 768; tail = record { size = 4; posted = 3; unread = 3 } }) ∷ None ∷ None ∷
      None ∷ [];
}

unfoldable crowded : Subsystem
crowded = record (cluster (held_by_a1 1) [] []) { controllers = ready 1 zeros [] ∷ crowded_one ∷ [] }

crowded-facts : (controller_at crowded 2 ≡ Some crowded_one) ×
    (judgement (queues_of crowded_one) 2 (zeroes 1) (scene_of crowded crowded_one) ≡ Err conflict)
    × Step true crowded (Execute 2 0) (Executed CqFull) crowded
unfolding computing judgement crowded
crowded-facts = (refl, refl, (refl, refl))

pub denied_needs_room : DeniedWithoutRoom → ⊥
denied_needs_room law =
    let is = law true crowded crowded 2 0 crowded_one (zeroes 1) conflict (Executed CqFull) crowded-facts.2
    crowded-facts.0 refl crowded-facts.1 in
    distinct 0 7 refl (ap rule_of is)
