-- For `machine_call_runs.rt`: executions, and what their answers tell of the calls that they made.
use Rattle.std.specs.List.{AllByRecursion}
use Rattle.std.proofs.Common.{
  ◌≡◌,
  ◌≢◌,
  ◌<◌,
  ◌==◌,
  ℕ,
  true,
  false,
  List,
  [],
  ◌∷◌,
  ◌++◌,
  length,
  take,
  Some,
  Ok,
  Err,
  inl,
  inr,
  refl,
  sym,
  ap,
  subst,
  ◌∙◌,
  arith,
}
use Rattle.nvme_wire.specs.declared.status.Status.{Status}
use Rattle.nvme_spec.specs.declared.command.Command.TheVariants as command
use Rattle.nvme_spec.specs.declared.medium.MediumFault.{MediumFault}
use Rattle.nvme_spec.specs.declared.outcome.Outcome.{Outcome}
use Rattle.nvme_spec.specs.declared.queues.QueueChange.TheVariants.{Keep}
use Rattle.nvme_spec.specs.Blocks.{Device}
use Rattle.nvme_spec.specs.Commands.{data_length}
use Rattle.nvme_spec.specs.DataRules.{data_addresses}
use Rattle.nvme_spec.specs.IoRules.{verdict}
use Rattle.nvme_spec.specs.MediumCalls.{MediumCall}
use Rattle.nvme_spec.specs.Statuses as status
use Rattle.nvme_spec.specs.Transfers.{with_scattered}
use Rattle.nvme_machine.specs.declared.event.Event.TheVariants.{Execute}
use Rattle.nvme_machine.specs.declared.fetched.FetchedCommand.{FetchedCommand}
use Rattle.nvme_machine.specs.declared.need.Need.{Need}
use Rattle.nvme_machine.specs.declared.need.Need.TheVariants as need
use Rattle.nvme_machine.specs.declared.seen.Executed.TheVariants.{Posted}
use Rattle.nvme_machine.specs.declared.seen.Seen.{Seen}
use Rattle.nvme_machine.specs.declared.seen.Seen.TheVariants.{Executed}
use Rattle.nvme_machine.specs.Calling.{AreCallsOfExecution}
use Rattle.nvme_machine.specs.CommandExecutions.{CommandComesTo, CommandExecution, denied_command_execution}
use Rattle.nvme_machine.specs.Controllers.{Controller, queues_of}
use Rattle.nvme_machine.specs.EventCalls.{AreCallsOfStep, CallingAt, CallingOne, CallingOver}
use Rattle.nvme_machine.specs.Examples.{a_compare, a_read, a_write}
use Rattle.nvme_machine.specs.NeededCalls.{AreWhole, OfEachAnswer, StopComparing, StopReading, StopWriting, sent_at}
use Rattle.nvme_machine.specs.Needs.{need_at, need_of}
use Rattle.nvme_machine.specs.Runs.{Waits}
use Rattle.nvme_machine.specs.Subsystems.{Subsystem, after_execution, scene_of}
use Rattle.nvme_machine.proofs.NeededCalls.{
  compare_failure_names_the_front,
  denial_calls_nothing,
  other_answers_call_nothing,
  read_error_names_the_front,
  success_is_whole,
  write_fault_names_the_front,
}
use Rattle.nvme_theorem_runs.proofs.Computing.{distinct}
use Rattle.nvme_theorem_runs.proofs.Unfolding.{computing}
use Rattle.nvme_theorem_runs.specs.OwnData.{block_of}
use Rattle.definition_examples.specs.MachineCallRuns.{
  AnyRuleCallsNothing,
  AnyStatusIsWhole,
  AnyStatusStopsComparing,
  AnyStatusStopsReading,
  AnyStatusStopsWriting,
  Makes,
  NothingIsCalledUnless,
  both_written,
  caller,
  calling,
  first_read,
  io_queues,
  outcome_with,
  protected_calling,
  protected_outcome,
  protection_denial,
  second_not_read,
  second_not_written,
  sent_blocks,
}

-- What a command comes to, which calls it makes, and what it needs.
pub record Comes (s : Subsystem) (t : FetchedCommand) (a : CommandExecution) (needed : Need) (has : List ℕ)
    (calls : List MediumCall) : Type 0 where
  pub waits : Waits s 1 0 (caller (t ∷ [])) t io_queues
  pub comes_to : CommandComesTo true (queues_of (caller (t ∷ []))) 1 t (scene_of s (caller (t ∷ []))) a
  pub are : AreCallsOfExecution 1 t (scene_of s (caller (t ∷ []))) a calls
  pub needs : need_at s 1 0 ≡ needed
  pub data_there : sent_at s 1 0 ≡ has

pub makes : (s : Subsystem) (t : FetchedCommand) (a : CommandExecution) (needed : Need) (has : List ℕ)
    (calls : List MediumCall) → Comes s t a needed has calls → Makes s needed has a.outcome calls
makes s t a needed has calls x =
    let c : Controller = caller (t ∷ []) in
    let seen : Seen = Executed (Posted a.outcome) in
    let new : Subsystem = after_execution s 1 c 0 t io_queues a in
    let over : CallingOver (Some io_queues) true s 1 c 0 t seen new calls = record {
      completes = record { execution = a; comes_to = x.comes_to; gives = refl; leaves = refl };
      are = x.are;
    } in
    let one : CallingOne (Some t) true s 1 c 0 seen new calls =
    subst (λ o. CallingOver o true s 1 c 0 t seen new calls) (sym x.waits.room) over in
    let its : CallingAt (Some c) true s 1 0 seen new calls =
    subst (λ o. CallingOne o true s 1 c 0 seen new calls) (sym x.waits.found) one in
    let step : AreCallsOfStep true s (Execute 1 0) seen new calls =
    subst (λ o. CallingAt o true s 1 0 seen new calls) (sym x.waits.at) its in
    record { left = new; are = step; needs = x.needs; data_there = x.data_there }

-- What a theorem on each answer implies for such an execution.
concludes : (P : Need → List ℕ → Outcome → List MediumCall → Type 0) (s : Subsystem) (needed : Need) (has : List ℕ)
    (outcome : Outcome) (calls : List MediumCall) → OfEachAnswer P → Makes s needed has outcome calls
    → P needed has outcome calls
concludes P s needed has outcome calls law x =
    subst (λ d. P needed d outcome calls) x.data_there
    (subst (λ n. P n (sent_at s 1 0) outcome calls) x.needs (law true s x.left 1 0 outcome calls x.are))

-- What an allowed command leaves: these bytes in host memory, and this medium.
abbrev pub with_content : List ℕ → ℕ → Device
with_content content failures = record { content = content; failures = failures }

abbrev pub executed_with : FetchedCommand → Status → List ℕ → Device → CommandExecution
executed_with t status window device = record {
  outcome = outcome_with status;
  change = Keep;
  left = record { world = (calling (t ∷ [])).world; window = window; device = device };
}

-- ---- A Write.

abbrev write-execution : CommandExecution
write-execution = executed_with a_write status.successful_completion sent_blocks (with_content sent_blocks 0)

pub write-comes : Comes (calling (a_write ∷ [])) a_write write-execution (need.Write 0 2) sent_blocks both_written
unfolding computing AreCallsOfExecution need_of verdict calling
write-comes = record {
  waits = record { at = refl; found = refl; room = refl };
  comes_to = (
    refl,
    record {
      returned = [];
      effect = record {
        world = refl;
        effect = (inl (record { answered = refl; failures = refl }, λ told. refl), refl);
      };
      window = refl;
      dw0 = refl;
      rule = refl;
      marks = refl;
    },
  );
  are = record { read = []; passed = 2; answer = Ok tt; reached = (refl, refl); are = refl };
  needs = refl;
  data_there = refl;
}

pub write_succeeds : Makes (calling (a_write ∷ [])) (need.Write 0 2) sent_blocks
    (outcome_with status.successful_completion) both_written
write_succeeds = makes _ _ _ _ _ _ write-comes

pub both_are_written : AreWhole (need.Write 0 2) sent_blocks both_written
both_are_written =
    concludes (λ needed has outcome calls. outcome.status ≡ status.successful_completion
    → AreWhole needed has calls) _ _ _ _ _ success_is_whole write_succeeds refl

-- The second write fails, and leaves bytes 9.
abbrev stopped-execution : CommandExecution
stopped-execution = executed_with a_write status.write_fault sent_blocks (with_content (block_of 3 ++ block_of 9) 1)

stop-comes : (fault : MediumFault) → Comes (calling (a_write ∷ [])) a_write stopped-execution
    (need.Write 0 2) sent_blocks (second_not_written fault)
unfolding computing AreCallsOfExecution need_of verdict calling
stop-comes fault =
    let below : 512 < 1024 = omega arith in
    record {
      waits = record { at = refl; found = refl; room = refl };
      comes_to = (
        refl,
        record {
          returned = [];
          effect = record {
            world = refl;
            effect = (
              inr (
                record { answered = refl; failures = record { later = omega arith; risen = omega arith } },
                λ told. record {
                  at = 1;
                  within = below;
                  torn = record { left = block_of 9; whole = refl; is = refl };
                },
              ),
              refl,
            );
          };
          window = refl;
          dw0 = refl;
          rule = refl;
          marks = refl;
        },
      );
      are = record { read = []; passed = 1; answer = Err fault; reached = (omega arith, refl); are = refl };
      needs = refl;
      data_there = refl;
    }

pub write_fails : (fault : MediumFault) → Makes (calling (a_write ∷ [])) (need.Write 0 2) sent_blocks
    (outcome_with status.write_fault) (second_not_written fault)
write_fails fault = makes _ _ _ _ _ _ (stop-comes fault)

pub stops_writing : (fault : MediumFault) → StopWriting (need.Write 0 2) sent_blocks (second_not_written fault)
stops_writing fault =
    concludes (λ needed has outcome calls. outcome.status ≡ status.write_fault → StopWriting needed has calls) _ _ _ _ _
    write_fault_names_the_front (write_fails fault) refl

-- ---- A Read whose second block can't be read: the first one is in host memory.

abbrev read-execution : CommandExecution
read-execution = executed_with a_read status.unrecovered_read_error
    (with_scattered sent_blocks
    (take 512 (data_addresses (data_length command.Read a_read.entry) sent_blocks a_read.entry))
    (block_of 1)) (with_content (block_of 1 ++ block_of 2) 1)

read-comes : (fault : MediumFault) → Comes (calling (a_read ∷ [])) a_read read-execution (need.Read 0 2) sent_blocks
    (second_not_read fault)
unfolding computing AreCallsOfExecution need_of verdict calling
read-comes fault =
    let below : 512 < 1024 = omega arith in
    record {
      waits = record { at = refl; found = refl; room = refl };
      comes_to = (
        refl,
        record {
          returned = block_of 1;
          effect = record {
            world = refl;
            effect = (
              λ told. refl,
              inr (
                record { answered = refl; failures = record { later = omega arith; risen = omega arith } },
                record { at = 1; within = below; size = refl; is = λ told. refl },
              ),
            );
          };
          window = refl;
          dw0 = refl;
          rule = refl;
          marks = refl;
        },
      );
      are = record {
        read = block_of 1;
        passed = 1;
        answer = Err fault;
        reached = (omega arith, refl, (refl, refl));
        are = refl;
      };
      needs = refl;
      data_there = refl;
    }

pub read_fails : (fault : MediumFault) → Makes (calling (a_read ∷ [])) (need.Read 0 2) sent_blocks
    (outcome_with status.unrecovered_read_error) (second_not_read fault)
read_fails fault = makes _ _ _ _ _ _ (read-comes fault)

pub stops_reading : (fault : MediumFault) → StopReading (need.Read 0 2) (second_not_read fault)
stops_reading fault =
    concludes (λ needed has outcome calls. outcome.status ≡ status.unrecovered_read_error → StopReading needed calls)
    _ _ _ _ _ read_error_names_the_front (read_fails fault) refl

-- ---- A Compare whose first block differs: bytes 1 and 3.

abbrev first-byte : List ℕ → ℕ
first-byte [] = 0
first-byte (byte ∷ rest) = byte

unlike : (xs ys : List ℕ) → first-byte xs ≡ 1 → first-byte ys ≡ 3 → xs ≡ ys → ⊥
unlike xs ys one three same =
    let no : 1 ≡ 3 = sym one ∙ ap first-byte same ∙ three in
    omega (arith, no)

abbrev compare-execution : CommandExecution
compare-execution = executed_with a_compare status.compare_failure sent_blocks
    (with_content (block_of 1 ++ block_of 2) 0)

compare-comes : Comes (calling (a_compare ∷ [])) a_compare compare-execution (need.Read 0 2) sent_blocks first_read
unfolding computing AreCallsOfExecution need_of verdict calling
compare-comes = record {
  waits = record { at = refl; found = refl; room = refl };
  comes_to = (
    refl,
    record {
      returned = [];
      effect = record {
        world = refl;
        effect = (
          (
            λ told. refl,
            inr (inl (record { answered = refl; failures = refl }, λ told. unlike _ _ refl refl)),
          ),
          refl,
        );
      };
      window = refl;
      dw0 = refl;
      rule = refl;
      marks = refl;
    },
  );
  are = record {
    read = block_of 1;
    passed = 1;
    answer = Ok tt;
    reached = inr (
      omega arith,
      record {
        same = 0;
        last = refl;
        whole = refl;
        front = λ k few. absurd (omega (arith, few));
        differs = unlike _ _ refl refl;
      },
      refl,
    );
    are = refl;
  };
  needs = refl;
  data_there = refl;
}

pub compare_fails : Makes (calling (a_compare ∷ [])) (need.Read 0 2) sent_blocks
    (outcome_with status.compare_failure) first_read
compare_fails = makes _ _ _ _ _ _ compare-comes

pub stops_comparing : StopComparing (need.Read 0 2) first_read
stops_comparing =
    concludes (λ needed has outcome calls. outcome.status ≡ status.compare_failure → StopComparing needed calls)
    _ _ _ _ _ compare_failure_names_the_front compare_fails refl

-- ---- The four theorems need their status.

pub status_is_needed_for_the_whole : AnyStatusIsWhole → ⊥
status_is_needed_for_the_whole law =
    let x : AreWhole (need.Read 0 2) sent_blocks first_read =
    concludes (λ needed has outcome calls. AreWhole needed has calls) _ _ _ _ _ law compare_fails in
    let size : 1 ≡ 2 = ap (λ (cs : List MediumCall). length cs) x.1 in
    omega (arith, size)

pub status_is_needed_for_a_write_fault : AnyStatusStopsWriting → ⊥
status_is_needed_for_a_write_fault law =
    concludes (λ needed has outcome calls. StopWriting needed has calls) _ _ _ _ _ law compare_fails

pub status_is_needed_for_a_read_error : AnyStatusStopsReading → ⊥
status_is_needed_for_a_read_error law =
    concludes (λ needed has outcome calls. StopReading needed calls) _ _ _ _ _ law write_succeeds

pub status_is_needed_for_a_compare_failure : AnyStatusStopsComparing → ⊥
status_is_needed_for_a_compare_failure law =
    concludes (λ needed has outcome calls. StopComparing needed calls) _ _ _ _ _ law write_succeeds

-- ---- A Write of a protected namespace.

abbrev pub protecting : Subsystem
protecting = protected_calling (a_write ∷ [])

pub denied-comes : Comes protecting a_write
    (denied_command_execution (scene_of protecting (caller (a_write ∷ []))) protection_denial)
    need.Nothing sent_blocks []
unfolding computing AreCallsOfExecution need_of verdict protected_calling
denied-comes = record {
  waits = record { at = refl; found = refl; room = refl };
  comes_to = (refl, (refl, refl));
  are = refl;
  needs = refl;
  data_there = refl;
}

pub write_is_denied : Makes protecting need.Nothing sent_blocks protected_outcome []
write_is_denied = makes _ _ _ _ _ _ denied-comes

-- statuses that differ in their type, or in their code
other-type : (x y : Status) → (x.sct == y.sct) ≡ false → x ≡ y → ⊥
other-type x y other same = distinct x.sct y.sct other (ap (λ (s : Status). s.sct) same)

other-code : (x y : Status) → (x.sc == y.sc) ≡ false → x ≡ y → ⊥
other-code x y other same = distinct x.sc y.sc other (ap (λ (s : Status). s.sc) same)

pub nothing_is_called : (calls : List MediumCall) → Makes protecting need.Nothing sent_blocks protected_outcome calls
    → calls ≡ []
nothing_is_called calls x =
    concludes (λ needed has outcome calls. outcome.status ≢ status.successful_completion
    → outcome.status ≢ status.write_fault → outcome.status ≢ status.unrecovered_read_error
    → outcome.status ≢ status.compare_failure → calls ≡ []) _ _ _ _ _ other_answers_call_nothing x
    (other-code _ _ refl) (other-type _ _ refl) (other-type _ _ refl) (other-type _ _ refl)

pub nothing_is_called_if_denied : (calls : List MediumCall) → Makes protecting need.Nothing sent_blocks
    protected_outcome calls → calls ≡ []
nothing_is_called_if_denied calls x =
    concludes (λ needed has outcome calls. outcome.rule ≢ 0 → calls ≡ []) _ _ _ _ _ denial_calls_nothing x
    (distinct 8 0 refl)

pub some-calls : (n : ℕ) (calls : List MediumCall) → length calls ≡ n → (n == 0) ≡ false → calls ≡ [] → ⊥
some-calls n calls size some none =
    distinct n 0 some (sym size ∙ ap (λ (cs : List MediumCall). length cs) none)

pub success_is_needed : NothingIsCalledUnless (status.write_fault ∷ status.unrecovered_read_error
    ∷ status.compare_failure ∷ []) → ⊥
success_is_needed law =
    some-calls 2 both_written refl refl
    (concludes (λ needed has outcome calls. AllByRecursion (λ s. outcome.status ≢ s)
    (status.write_fault ∷ status.unrecovered_read_error ∷ status.compare_failure ∷ []) → calls ≡ [])
    _ _ _ _ _ law write_succeeds (other-type _ _ refl, (other-type _ _ refl, (other-type _ _ refl, tt))))

pub write_fault_is_needed : MediumFault → NothingIsCalledUnless (status.successful_completion
    ∷ status.unrecovered_read_error ∷ status.compare_failure ∷ []) → ⊥
write_fault_is_needed fault law =
    some-calls 2 (second_not_written fault) refl refl
    (concludes (λ needed has outcome calls. AllByRecursion (λ s. outcome.status ≢ s)
    (status.successful_completion ∷ status.unrecovered_read_error ∷ status.compare_failure ∷ []) → calls ≡ [])
    _ _ _ _ _ law (write_fails fault) (other-type _ _ refl, (other-code _ _ refl, (other-code _ _ refl, tt))))

pub read_error_is_needed : MediumFault → NothingIsCalledUnless (status.successful_completion
    ∷ status.write_fault ∷ status.compare_failure ∷ []) → ⊥
read_error_is_needed fault law =
    some-calls 2 (second_not_read fault) refl refl
    (concludes (λ needed has outcome calls. AllByRecursion (λ s. outcome.status ≢ s)
    (status.successful_completion ∷ status.write_fault ∷ status.compare_failure ∷ []) → calls ≡ [])
    _ _ _ _ _ law (read_fails fault) (other-type _ _ refl, (other-code _ _ refl, (other-code _ _ refl, tt))))

pub compare_failure_is_needed : NothingIsCalledUnless (status.successful_completion
    ∷ status.write_fault ∷ status.unrecovered_read_error ∷ []) → ⊥
compare_failure_is_needed law =
    some-calls 1 first_read refl refl
    (concludes (λ needed has outcome calls. AllByRecursion (λ s. outcome.status ≢ s)
    (status.successful_completion ∷ status.write_fault ∷ status.unrecovered_read_error ∷ []) → calls ≡ [])
    _ _ _ _ _ law compare_fails (other-type _ _ refl, (other-code _ _ refl, (other-code _ _ refl, tt))))

pub denial_is_needed : AnyRuleCallsNothing → ⊥
denial_is_needed law =
    some-calls 2 both_written refl refl
    (concludes (λ needed has outcome calls. calls ≡ []) _ _ _ _ _ law write_succeeds)
