-- For `machine_call_runs.rt`: a Flush, the order of calls, and the status of a denied command.
use Rattle.std.proofs.Common.{
  ◌≡◌,
  ◌≢◌,
  true,
  List,
  [],
  ◌∷◌,
  ◌++◌,
  length,
  None,
  Ok,
  Err,
  inl,
  inr,
  refl,
  ap,
  subst,
  ◌∙◌,
  arith,
}
use Rattle.nvme_spec.specs.declared.command.Command.TheVariants as command
use Rattle.nvme_spec.specs.declared.medium.MediumFault.{MediumFault}
use Rattle.nvme_spec.specs.declared.outcome.Outcome.{Outcome}
use Rattle.nvme_spec.specs.declared.verdict.Verdict.TheVariants.{Allowed}
use Rattle.nvme_spec.specs.Commands.{plan_of}
use Rattle.nvme_spec.specs.Configuration.{config_fault, first_config_fault, script_capacity}
use Rattle.nvme_spec.specs.IoData.{io_verdict}
use Rattle.nvme_spec.specs.IoRules.{verdict}
use Rattle.nvme_spec.specs.Layout.{IsLaidOut}
use Rattle.nvme_spec.specs.MediumCalls.{MediumCall, Flushes}
use Rattle.nvme_spec.specs.Statuses as status
use Rattle.nvme_spec.proofs.Openings.{opening_is_laid_out}
use Rattle.nvme_machine.specs.declared.event.Event.TheVariants.{Execute, PowerCycle}
use Rattle.nvme_machine.specs.declared.fetched.FetchedCommand.{FetchedCommand}
use Rattle.nvme_machine.specs.declared.need.Need.TheVariants as need
use Rattle.nvme_machine.specs.declared.seen.Executed.TheVariants.{Posted}
use Rattle.nvme_machine.specs.declared.seen.Seen.{Seen}
use Rattle.nvme_machine.specs.declared.seen.Seen.TheVariants.{Executed, Cycled}
use Rattle.nvme_machine.specs.AllowedCalls.{IsCutAt, IsOneFlush}
use Rattle.nvme_machine.specs.Calling.{AreCallsOfExecution}
use Rattle.nvme_machine.specs.CommandExecutions.{CommandExecution, judgement}
use Rattle.nvme_machine.specs.Controllers.{queues_of}
use Rattle.nvme_machine.specs.EventCalls.{AreCallsOfRun, AreCallsOfStep}
use Rattle.nvme_machine.specs.Examples.{a_flush, a_write, small}
use Rattle.nvme_machine.specs.FaultFree.{fault_free_left, fault_free_seen, fault_free_step}
use Rattle.nvme_machine.specs.FaultFreeCalls.{event_calls}
use Rattle.nvme_machine.specs.Needs.{need_of}
use Rattle.nvme_machine.specs.Runs.{Waits}
use Rattle.nvme_machine.specs.Subsystems.{Subsystem, after_power_cycle, scene_of}
use Rattle.nvme_machine.proofs.CallLaws.{denied_is_no_success}
use Rattle.nvme_machine.proofs.EventCalls.{calls_are_of_a_step}
use Rattle.nvme_machine.proofs.FencedCalls.{flush_reaches_the_medium}
use Rattle.nvme_theorem_runs.proofs.Computing.{left-laid, step-calls}
use Rattle.nvme_theorem_runs.proofs.Unfolding.{computing}
use Rattle.nvme_theorem_runs.specs.OwnData.{block_of}
use Rattle.definition_examples.specs.MachineCallRuns.{
  AnyCallsAreInOrder,
  AnyCommandIsOneFlush,
  AnyVerdictIsNoSuccess,
  Makes,
  OrderAtWork,
  both_written,
  caller,
  calling,
  in_order,
  io_queues,
  outcome_with,
  protected_calling,
  protected_outcome,
  protection_denial,
  sent_blocks,
  writing_then_flushing,
  written_then_flushed,
}
use Rattle.definition_examples.proofs.MachineCallRuns.{
  Comes,
  denied-comes,
  executed_with,
  makes,
  protecting,
  some-calls,
  with_content,
  write-comes,
  write_is_denied,
  write_succeeds,
}

-- ---- A Flush.

abbrev flush-execution : CommandExecution
flush-execution = executed_with a_flush status.successful_completion sent_blocks
    (with_content (block_of 1 ++ block_of 2) 0)

flush-comes : Comes (calling (a_flush ∷ [])) a_flush flush-execution need.Flush [] (Flushes (Ok tt) ∷ [])
unfolding computing AreCallsOfExecution need_of verdict calling
flush-comes = record {
  waits = record { at = refl; found = refl; room = refl };
  comes_to = (
    refl,
    record {
      returned = [];
      effect = record {
        world = refl;
        effect = ((λ told. refl, inl (record { answered = refl; failures = refl })), refl);
      };
      window = refl;
      dw0 = refl;
      rule = refl;
      marks = refl;
    },
  );
  are = record { read = []; passed = 0; answer = Ok tt; reached = refl; are = refl };
  needs = refl;
  data_there = refl;
}

abbrev failed-flush-execution : CommandExecution
failed-flush-execution = executed_with a_flush status.write_fault sent_blocks
    (with_content (block_of 1 ++ block_of 2) 1)

flush-fails-so : (fault : MediumFault) → Comes (calling (a_flush ∷ [])) a_flush failed-flush-execution need.Flush []
    (Flushes (Err fault) ∷ [])
unfolding computing AreCallsOfExecution need_of verdict calling
flush-fails-so fault = record {
  waits = record { at = refl; found = refl; room = refl };
  comes_to = (
    refl,
    record {
      returned = [];
      effect = record {
        world = refl;
        effect = (
          (
            λ told. refl,
            inr (record { answered = refl; failures = record { later = omega arith; risen = omega arith } }),
          ),
          refl,
        );
      };
      window = refl;
      dw0 = refl;
      rule = refl;
      marks = refl;
    },
  );
  are = record { read = []; passed = 0; answer = Err fault; reached = refl; are = refl };
  needs = refl;
  data_there = refl;
}

pub flush_succeeds : Makes (calling (a_flush ∷ [])) need.Flush [] (outcome_with status.successful_completion)
    (Flushes (Ok tt) ∷ [])
flush_succeeds = makes _ _ _ _ _ _ flush-comes

pub flush_fails : (fault : MediumFault) → Makes (calling (a_flush ∷ [])) need.Flush [] (outcome_with status.write_fault)
    (Flushes (Err fault) ∷ [])
flush_fails fault = makes _ _ _ _ _ _ (flush-fails-so fault)

pub flush_waits : Waits (calling (a_flush ∷ [])) 1 0 (caller (a_flush ∷ [])) a_flush io_queues
flush_waits = flush-comes.waits

pub flush_is_allowed : io_verdict (calling (a_flush ∷ [])).world 1 a_flush.entry a_flush.marked sent_blocks
    ≡ Allowed (plan_of command.Flush a_flush.entry)
unfolding computing calling
flush_is_allowed = refl

one-flush : (outcome : Outcome) (calls : List MediumCall) → Makes (calling (a_flush ∷ [])) need.Flush [] outcome calls
    → IsOneFlush outcome calls
one-flush outcome calls x =
    flush_reaches_the_medium true (calling (a_flush ∷ [])) x.left 1 0 (caller (a_flush ∷ [])) a_flush io_queues
    (plan_of command.Flush a_flush.entry) outcome calls x.are flush_waits refl flush_is_allowed refl

pub is_one_flush : IsOneFlush (outcome_with status.successful_completion) (Flushes (Ok tt) ∷ [])
is_one_flush = one-flush _ _ flush_succeeds

pub is_one_failed_flush : (fault : MediumFault) → IsOneFlush (outcome_with status.write_fault)
    (Flushes (Err fault) ∷ [])
is_one_failed_flush fault = one-flush _ _ (flush_fails fault)

write-is-allowed : io_verdict (calling (a_write ∷ [])).world 1 a_write.entry a_write.marked sent_blocks
    ≡ Allowed (plan_of command.Write a_write.entry)
unfolding computing calling
write-is-allowed = refl

pub flush_is_needed : AnyCommandIsOneFlush → ⊥
flush_is_needed law =
    let one = law true (calling (a_write ∷ [])) write_succeeds.left 1 0 (caller (a_write ∷ [])) a_write io_queues
    (plan_of command.Write a_write.entry) (outcome_with status.successful_completion) both_written write_succeeds.are
    write-comes.waits refl write-is-allowed in
    let size : 2 ≡ 1 = ap (λ (cs : List MediumCall). length cs) one.alone in
    omega (arith, size)

-- ---- A Write, and then a Flush.

small-fits : first_config_fault small 2 ≡ None
unfolding config_fault
small-fits = refl

on-medium : (commands : List FetchedCommand) → IsLaidOut (calling commands).world (calling commands).device.content
unfolding calling
on-medium commands = opening_is_laid_out small (script_capacity 2) (block_of 1 ++ block_of 2) refl small-fits

abbrev after-write : Subsystem
after-write = (fault_free_step writing_then_flushing (Execute 1 0)).left

abbrev after-both : Subsystem
after-both = (fault_free_step after-write (Execute 1 0)).left

order-calls : (event_calls writing_then_flushing (Execute 1 0) ≡ both_written)
    × (event_calls after-write (Execute 1 0) ≡ Flushes (Ok tt) ∷ [])
unfolding computing calling
order-calls = (refl, refl)

order-seen : fault_free_seen writing_then_flushing in_order
    ≡ Executed (Posted (outcome_with status.successful_completion))
    ∷ Executed (Posted (outcome_with status.successful_completion)) ∷ []
unfolding computing calling
order-seen = refl

first-step : AreCallsOfStep true writing_then_flushing (Execute 1 0)
    (fault_free_step writing_then_flushing (Execute 1 0)).seen after-write both_written
first-step =
    subst (λ cs. AreCallsOfStep true writing_then_flushing (Execute 1 0)
    (fault_free_step writing_then_flushing (Execute 1 0)).seen after-write cs) order-calls.0
    (step-calls writing_then_flushing (Execute 1 0) (on-medium (a_write ∷ a_flush ∷ [])))

second-step : AreCallsOfStep true after-write (Execute 1 0) (fault_free_step after-write (Execute 1 0)).seen after-both
    (Flushes (Ok tt) ∷ [])
second-step =
    subst (λ cs. AreCallsOfStep true after-write (Execute 1 0)
    (fault_free_step after-write (Execute 1 0)).seen after-both cs) order-calls.1
    (step-calls after-write (Execute 1 0) (left-laid writing_then_flushing (Execute 1 0 ∷ [])
    (on-medium (a_write ∷ a_flush ∷ []))))

abbrev the_cut : IsCutAt true writing_then_flushing (Execute 1 0 ∷ []) (Execute 1 0) []
    (fault_free_seen writing_then_flushing in_order) (fault_free_left writing_then_flushing in_order)
    written_then_flushed
the_cut = record {
  given = (fault_free_step writing_then_flushing (Execute 1 0)).seen ∷ [];
  gives = (fault_free_step after-write (Execute 1 0)).seen;
  rest = [];
  told = refl;
  now = after-write;
  next = after-both;
  before = both_written;
  own = Flushes (Ok tt) ∷ [];
  behind = [];
  first = (after-write, both_written, [], first-step, (refl, refl), refl);
  then_this = second-step;
  then_those = (refl, refl);
  joined = refl;
}

pub order_at_work : OrderAtWork
order_at_work = record {
  seen = order-seen;
  run = (
    after-write,
    both_written,
    Flushes (Ok tt) ∷ [],
    first-step,
    (after-both, Flushes (Ok tt) ∷ [], [], second-step, (refl, refl), refl),
    refl,
  );
  cut = the_cut;
  before = refl;
  own = refl;
  behind = refl;
}

no-calls : (s now : Subsystem) (given : List Seen) (calls : List MediumCall) → AreCallsOfRun true s [] given now calls
    → calls ≡ []
no-calls s now [] calls h = h.1
no-calls s now (seen ∷ given) calls h = absurd h

pub calls_of_the_run_are_needed : AnyCallsAreInOrder → ⊥
calls_of_the_run_are_needed law =
    let s : Subsystem = calling [] in
    let cut = law true s (after_power_cycle s) [] [] PowerCycle (Cycled ∷ []) (Flushes (Ok tt) ∷ [])
    (after_power_cycle s, (refl, refl), refl) in
    let before : cut.before ≡ [] = no-calls s cut.now cut.given cut.before cut.first in
    let own : cut.own ≡ [] = cut.then_this.2 in
    let behind : cut.behind ≡ [] = no-calls cut.next (after_power_cycle s) cut.rest cut.behind cut.then_those in
    some-calls 1 (Flushes (Ok tt) ∷ []) refl refl
    (cut.joined ∙ ap (λ (cs : List MediumCall). cs ++ (cut.own ++ cut.behind)) before
    ∙ ap (λ (cs : List MediumCall). cs ++ cut.behind) own ∙ behind)

-- ---- The status of a denied command.

pub denied_write_waits : Waits protecting 1 0 (caller (a_write ∷ [])) a_write io_queues
denied_write_waits = denied-comes.waits

pub write_is_judged : judgement (queues_of (caller (a_write ∷ []))) 1 a_write
    (scene_of protecting (caller (a_write ∷ []))) ≡ Err protection_denial
unfolding computing judgement protected_calling
write_is_judged = refl

pub denied_write_does_not_succeed : protected_outcome.status ≢ status.successful_completion
denied_write_does_not_succeed =
    denied_is_no_success true protecting write_is_denied.left 1 0 (caller (a_write ∷ [])) a_write io_queues
    protection_denial protected_outcome
    (calls_are_of_a_step true protecting write_is_denied.left (Execute 1 0) (Executed (Posted protected_outcome)) []
    write_is_denied.are) denied_write_waits write_is_judged

pub verdict_is_needed : AnyVerdictIsNoSuccess → ⊥
verdict_is_needed law =
    law true (calling (a_write ∷ [])) write_succeeds.left 1 0 (caller (a_write ∷ [])) a_write io_queues
    (outcome_with status.successful_completion)
    (calls_are_of_a_step true (calling (a_write ∷ [])) write_succeeds.left (Execute 1 0)
    (Executed (Posted (outcome_with status.successful_completion))) both_written write_succeeds.are)
    write-comes.waits refl
