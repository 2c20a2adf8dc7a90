-- For `medium.rt`: the example runs about writes, reservations and calls, computed.
use Rattle.std.specs.List.{AllByRecursion}
use Rattle.std.specs.Prelude.{replicate, slice_get}
use Rattle.std.proofs.Common.{
  List,
  None,
  Ok,
  Option,
  Some,
  [],
  ap,
  arith,
  false,
  inl,
  inr,
  refl,
  subst,
  sym,
  true,
  ℕ,
  ◌+◌,
  ◌<◌,
  ◌∙◌,
  ◌∷◌,
  ◌≡◌,
  ◌≤◌,
  ◌⊎◌,
}
use Rattle.nvme_wire.specs.Submission.{opcode}
use Rattle.nvme_spec.specs.declared.command.Command.TheVariants.{ReservationRegister, WriteZeroes}
use Rattle.nvme_spec.specs.Bytes.{with_bytes}
use Rattle.nvme_spec.specs.ClusterExamples.{keys}
use Rattle.nvme_spec.specs.Commands.{altering, plan_of, reserving}
use Rattle.nvme_spec.specs.Execution.{denial_outcome}
use Rattle.nvme_spec.specs.Layout.{IsLaidOut, extent_of, reservation_of}
use Rattle.nvme_spec.specs.MediumCalls.{Flushes, MediumCall, Writes}
use Rattle.nvme_spec.specs.Queues.{empty_completion_tail, empty_submission_head}
use Rattle.nvme_spec.specs.Reservation.{Reservation, unreserved}
use Rattle.nvme_spec.specs.Statuses.{reservation_conflict}
use Rattle.nvme_spec.proofs.Passing.{both}
use Rattle.nvme_machine.specs.declared.event.Event.{Event}
use Rattle.nvme_machine.specs.declared.event.Event.TheVariants.{Execute, Fetch, PowerCycle}
use Rattle.nvme_machine.specs.declared.seen.Executed.TheVariants.{Posted}
use Rattle.nvme_machine.specs.declared.seen.Seen.{Seen}
use Rattle.nvme_machine.specs.declared.seen.Seen.TheVariants.{Executed}
use Rattle.nvme_machine.specs.AllowedCalls.{CallsWhere, HaveTheirOwn, IsReading, KeepsOff}
use Rattle.nvme_machine.specs.CallLaws.{IsFlushAt}
use Rattle.nvme_machine.specs.Calling.{AreCallsNth, AreCallsOfExecution}
use Rattle.nvme_machine.specs.CommandExecutions.{CommandExecution}
use Rattle.nvme_machine.specs.Controllers.{QueuePair, names, queues_of}
use Rattle.nvme_machine.specs.EventCalls.{AreCallsOfRun, AreCallsOfStep}
use Rattle.nvme_machine.specs.Executing.{Setting, scene_in, setting}
use Rattle.nvme_machine.specs.FaultFree.{
  fault_free_command_execution,
  fault_free_left,
  fault_free_seen,
  fault_free_step,
}
use Rattle.nvme_machine.specs.FaultFreeCalls.{event_calls, fault_free_calls}
use Rattle.nvme_machine.specs.Fencing.{Allows, Forgets, LeavesReservation, namespace_bytes}
use Rattle.nvme_machine.specs.Subsystems.{after_completion, controller_at}
use Rattle.nvme_machine.proofs.AllowedCalls.{calls_of_runs_are_allowed}
use Rattle.nvme_machine.proofs.CallLaws.{run_calls_exist}
use Rattle.nvme_machine.proofs.Determined.{steps}
use Rattle.nvme_machine.proofs.FencedCalls.{fenced_hosts_write_no_block}
use Rattle.nvme_theorem_runs.specs.Cluster.{
  acquire,
  cluster,
  done,
  flush,
  held_by_a1,
  ready,
  register,
  with_b2,
  zeroes,
  zeroes_entry,
  zeros,
}
use Rattle.nvme_theorem_runs.specs.Fencing.{after_fenced, fenced, fenced_events, fenced_seen}
use Rattle.nvme_theorem_runs.specs.Medium.{
  CallsAtWork,
  CallsOfAnyHost,
  CallsOfAnyList,
  CommandAtWork,
  CommandOfAnyHost,
  FlushAtWork,
  FlushOfAnyCommand,
  FlushOfAnyStatus,
  NoCallOfAnyCommand,
  ReservingAtWork,
  ReservingWithoutAStep,
  WritingAtWork,
  WritingOnAnyLayout,
  fenced_calls,
  first_block,
  fleeting,
  flushing,
  one_command,
  registering,
  writing,
}
use Rattle.nvme_theorem_runs.proofs.Computing.{
  allows_now,
  apart,
  calls-where,
  distinct,
  first_of,
  forgets_now,
  leaves,
  leaving,
  no-allowing,
  no-forgetting,
  step-calls,
}
use Rattle.nvme_theorem_runs.proofs.FencingRuns.{
  fenced-host,
  fenced-leaves,
  holding,
  holding-leaves,
  lapped,
  lapping,
  lapping-bytes,
  lapping-step,
  one_execution,
  seen-so,
}
use Rattle.nvme_theorem_runs.proofs.Laying.{laid}
use Rattle.nvme_theorem_runs.proofs.Unfolding.{computing}
use Rattle.nvme_spec.specs.Statuses as status

-- Writes and reservation commands that are allowed, and others.

allowed-write : Allows altering writing (Execute 2 1) 2
unfolding computing
allowed-write = record {
  controller = ready 2 zeros (zeroes 1 ∷ zeroes 2 ∷ []);
  command = zeroes 2;
  at = refl;
  found = refl;
  named = refl;
  allowed = record { plan = plan_of WriteZeroes (zeroes_entry 2); allowed = refl; is_one = refl };
}

not-allowed : (allows_now altering writing (Execute 2 0) 1 ≡ false)
    × (allows_now altering writing (Execute 2 1) 1 ≡ false)
    × (allows_now reserving writing (Execute 2 1) 2 ≡ false)
unfolding computing
not-allowed = (refl, refl, refl)

written-bytes : (namespace_bytes writing 2 ≡ replicate 512 2)
    × (namespace_bytes (fault_free_step writing (Execute 2 1)).left 2 ≡ replicate 512 0)
    × (namespace_bytes (fault_free_step writing (Execute 2 0)).left 1 ≡ namespace_bytes writing 1)
unfolding computing
written-bytes = (refl, refl, refl)

pub writing_at_work : WritingAtWork
writing_at_work = record {
  allowed = allowed-write;
  before = written-bytes.0;
  written = written-bytes.1;
  denied = no-allowing altering 1 writing (Execute 2 0) not-allowed.0;
  kept = written-bytes.2;
  elsewhere = no-allowing altering 1 writing (Execute 2 1) not-allowed.1;
  no_reservation = no-allowing reserving 2 writing (Execute 2 1) not-allowed.2;
  store = λ x. x;
  write = λ x. x;
  read = λ x. x;
  fetch = λ x. x;
  power = λ x. x;
}

lapping-not : allows_now altering lapping (Execute 2 0) 1 ≡ false
unfolding computing lapping
lapping-not = refl

lapped-bytes : (first_of (namespace_bytes lapping 1) ≡ 1) × (first_of (namespace_bytes lapped 1) ≡ 0)
lapped-bytes = lapping-bytes

pub writing_needs_the_layout : WritingOnAnyLayout → ⊥
writing_needs_the_layout law =
    elim (law lapping lapped (Execute 2 0) (Executed (Posted done)) 1 lapping-step) [
      | inl same ↦ apart _ _ lapped-bytes.1 lapped-bytes.0 same
      | inr allowed ↦ no-allowing altering 1 lapping (Execute 2 0) lapping-not allowed
    ]

allowed-register : Allows reserving registering (Execute 2 0) 1
unfolding computing
allowed-register = record {
  controller = ready 2 (with_bytes zeros 0 (keys 0x33 0x22)) (register ∷ acquire 1 ∷ []);
  command = register;
  at = refl;
  found = refl;
  named = refl;
  allowed = record { plan = plan_of ReservationRegister register.entry; allowed = refl; is_one = refl };
}

denied-acquire : (allows_now reserving registering (Execute 2 1) 1 ≡ false)
    × (forgets_now registering PowerCycle 1 ≡ false)
unfolding computing
denied-acquire = (refl, refl)

reservations : (reservation_of registering.world 1 ≡ Some (held_by_a1 1))
    × (reservation_of (fault_free_step registering (Execute 2 0)).left.world 1 ≡ Some (with_b2 1))
    × (reservation_of (fault_free_step registering (Execute 2 1)).left.world 1 ≡ Some (held_by_a1 1))
    × (Forgets fleeting PowerCycle 1)
    × (reservation_of (fault_free_step fleeting PowerCycle).left.world 1 ≡ Some unreserved)
    × (reservation_of (fault_free_step registering PowerCycle).left.world 1 ≡ Some (held_by_a1 1))
unfolding computing
reservations = (refl, refl, refl, refl, refl, refl)

pub reserving_at_work : ReservingAtWork
reserving_at_work = record {
  allowed = allowed-register;
  before = reservations.0;
  registered = reservations.1;
  denied = no-allowing reserving 1 registering (Execute 2 1) denied-acquire.0;
  kept = reservations.2;
  forgets = reservations.3;
  lost = reservations.4;
  persists = no-forgetting 1 registering PowerCycle denied-acquire.1;
  lasts = reservations.5;
}

generation_in : Option Reservation → ℕ
generation_in None = 0
generation_in (Some r) = r.generation

generations : (generation_in (reservation_of writing.world 1) ≡ 1)
    × (generation_in (reservation_of (cluster (with_b2 1) [] []).world 1) ≡ 2)
unfolding computing generation_in
generations = (refl, refl)

pub reserving_needs_a_step : ReservingWithoutAStep → ⊥
reserving_needs_a_step law =
    elim (law writing (cluster (with_b2 1) [] []) (Fetch 2 1) 1) [
      | inl same ↦ distinct 2 1 refl (sym generations.1 ∙ ap generation_in same ∙ generations.0)
      | inr rest ↦ elim rest [
        | inl allowed ↦ absurd allowed
        | inr forgets ↦ absurd forgets
      ]
    ]

-- Calls.

calls-so : fault_free_calls fenced fenced_events ≡ fenced_calls
unfolding computing fenced_events fenced_calls
calls-so = refl

fenced-run : AreCallsOfRun true fenced fenced_events fenced_seen after_fenced fenced_calls
fenced-run =
    subst (λ seen. AreCallsOfRun true fenced fenced_events seen after_fenced fenced_calls) seen-so
    (subst (λ cs. AreCallsOfRun true fenced fenced_events (fault_free_seen fenced fenced_events) after_fenced cs)
    calls-so
    (run_calls_exist fenced fenced_events (laid (held_by_a1 1) [] [])).0)

fenced-where : CallsWhere (LeavesReservation 1) true fenced fenced_events fenced_seen after_fenced fenced_calls
fenced-where =
    subst (λ seen. CallsWhere (LeavesReservation 1) true fenced fenced_events seen after_fenced fenced_calls) seen-so
    (subst (λ cs. CallsWhere (LeavesReservation 1) true fenced fenced_events (fault_free_seen fenced fenced_events)
    after_fenced cs) calls-so
    (calls-where (leaves 1) (LeavesReservation 1) (leaving 1) fenced fenced_events (laid (held_by_a1 1) [] [])
    fenced-leaves))

fenced-extent : extent_of fenced.world 1 ≡ Some first_block
unfolding computing
fenced-extent = refl

pub calls_at_work : CallsAtWork
calls_at_work =
    let own : HaveTheirOwn fenced.world = (laid (held_by_a1 1) [] []).apart in
    record {
      calls = fenced-run;
      allowed = calls_of_runs_are_allowed true fenced after_fenced fenced_events fenced_seen fenced_calls fenced-run;
      own = own;
      extent = fenced-extent;
      leaving = fenced-where;
      holds = fenced_hosts_write_no_block true fenced after_fenced fenced_events fenced_seen fenced_calls 1
          first_block own fenced-extent fenced-where fenced-host;
    }

holding-calls : (fault_free_calls holding (one_execution 1) ≡ Writes 0 (replicate 512 0) (Ok tt) ∷ [])
    × (extent_of holding.world 1 ≡ Some first_block)
unfolding computing one_execution
holding-calls = (refl, refl)

not-off : (((0 < 0) ⊎ (0 + 1 ≤ 0)) × Unit {0}) → ⊥
not-off both = elim both.0 [
  | inl a ↦ absurd (omega (arith, a))
  | inr b ↦ absurd (omega (arith, b))
]

pub calls_need_the_host : CallsOfAnyHost → ⊥
calls_need_the_host law =
    let on = laid (held_by_a1 1) (zeroes 1 ∷ []) [] in
    let run = calls-where (leaves 1) (LeavesReservation 1) (leaving 1) holding (one_execution 1) on holding-leaves in
    let off = law true holding (fault_free_left holding (one_execution 1)) (one_execution 1)
    (fault_free_seen holding (one_execution 1))
    (fault_free_calls holding (one_execution 1)) 1 first_block on.apart holding-calls.1 run in
    not-off (subst (λ cs. AllByRecursion (KeepsOff first_block) cs) holding-calls.0 off)

pub calls_need_a_step : CallsOfAnyList → ⊥
calls_need_a_step law =
    let event : Event = Fetch 2 1 in
    let next = fault_free_step fenced event in
    absurd (law true fenced next.left event next.seen (Flushes (Ok tt) ∷ [])
    (steps fenced event (laid (held_by_a1 1) [] []))).0

-- Flushes.

flushing-laid : IsLaidOut flushing.world flushing.device.content
flushing-laid = laid (held_by_a1 1) [] (flush 1 ∷ flush 2 ∷ zeroes 2 ∷ [])

is-flush : (i n : ℕ) → slice_get (flush 1 ∷ flush 2 ∷ zeroes 2 ∷ []) i ≡ Some (flush n) → opcode (flush n).entry ≡ 0
    → IsFlushAt flushing 2 i
unfolding computing
is-flush i n found is = record {
  controller = ready 2 zeros (flush 1 ∷ flush 2 ∷ zeroes 2 ∷ []);
  command = flush n;
  at = refl;
  found = found;
  io = refl;
  is = is;
}

opcodes : (opcode (flush 1).entry ≡ 0) × (opcode (flush 2).entry ≡ 0)
unfolding computing
opcodes = (refl, refl)

flush-calls : (event_calls flushing (Execute 2 0) ≡ []) × (event_calls flushing (Execute 2 1) ≡ Flushes (Ok tt) ∷ [])
    × (event_calls flushing (Execute 2 2) ≡ Writes 1 (replicate 512 0) (Ok tt) ∷ [])
unfolding computing
flush-calls = (refl, refl, refl)

flush-seen : ((fault_free_step flushing (Execute 2 0)).seen ≡ Executed
    (Posted (denial_outcome 7 status.reservation_conflict)))
    × ((fault_free_step flushing (Execute 2 1)).seen ≡ Executed (Posted done))
    × ((fault_free_step flushing (Execute 2 2)).seen ≡ Executed (Posted done))
unfolding computing
flush-seen = (refl, refl, refl)

stepping : (i : ℕ) (seen : Seen) (calls : List MediumCall) → (fault_free_step flushing (Execute 2 i)).seen ≡ seen
    → event_calls flushing (Execute 2 i) ≡ calls
    → AreCallsOfStep true flushing (Execute 2 i) seen (fault_free_step flushing (Execute 2 i)).left calls
stepping i seen calls s c =
    subst (λ x. AreCallsOfStep true flushing (Execute 2 i) x (fault_free_step flushing (Execute 2 i)).left calls) s
    (subst (λ x. AreCallsOfStep true flushing (Execute 2 i) (fault_free_step flushing (Execute 2 i)).seen
    (fault_free_step flushing (Execute 2 i)).left x) c
    (step-calls flushing (Execute 2 i) flushing-laid))

pub flush_at_work : FlushAtWork
flush_at_work = record {
  is_flush = is-flush 1 2 refl opcodes.1;
  calls = stepping 1 _ _ flush-seen.1 flush-calls.1;
  denied = stepping 0 _ _ flush-seen.0 flush-calls.0;
}

flushes : List MediumCall → ℕ
flushes [] = 0
flushes (Flushes answer ∷ calls) = 1
flushes (call ∷ calls) = 2

pub flush_needs_a_flush : FlushOfAnyCommand → ⊥
unfolding flushes
flush_needs_a_flush law =
    distinct 2 1 refl (ap flushes (law true flushing (fault_free_step flushing (Execute 2 2)).left 2 2 done
    (Writes 1 (replicate 512 0) (Ok tt) ∷ [])
    (stepping 2 _ _ flush-seen.2 flush-calls.2) refl))

pub flush_needs_success : FlushOfAnyStatus → ⊥
unfolding flushes
flush_needs_success law =
    distinct 0 1 refl (ap flushes (law true flushing (fault_free_step flushing (Execute 2 0)).left 2 0
    (denial_outcome 7 status.reservation_conflict) []
    (stepping 0 _ _ flush-seen.0 flush-calls.0) (is-flush 0 1 refl opcodes.0)))

-- One command.

holding-at : (controller_at holding 1 ≡ Some (ready 1 zeros (zeroes 1 ∷ []))) × (names 1 (zeroes 1) ≡ true)
    × (event_calls holding (Execute 1 0) ≡ Writes 0 (replicate 512 0) (Ok tt) ∷ [])
unfolding computing
holding-at = (refl, refl, refl)

pub command_needs_the_host : CommandOfAnyHost → ⊥
command_needs_the_host law =
    let next = fault_free_step holding (Execute 1 0) in
    let reads = law true holding next.left 1 0 1 (ready 1 zeros (zeroes 1 ∷ [])) (zeroes 1) next.seen
    (event_calls holding (Execute 1 0))
    (step-calls holding (Execute 1 0) (laid (held_by_a1 1) (zeroes 1 ∷ []) [])) holding-at.0 refl holding-at.1 in
    (subst (λ cs. AllByRecursion IsReading cs) holding-at.2 reads).0

abbrev comes : ℕ → CommandExecution
comes n = fault_free_command_execution (queues_of (ready 2 zeros (zeroes n ∷ []))) 2 (zeroes n)
    (scene_in (one_command (zeroes n)))

abbrev finished : ℕ → Setting
finished n = setting (after_completion 0 (zeroes n) queues (comes n) (ready 2 zeros (zeroes n ∷ [])))
    (comes n).left.world (comes n).left.device
  where
    queues : QueuePair
    queues = record {
      submission = record { base = 512; cqid = 1; head = empty_submission_head 4 };
      completion = record { base = 768; tail = empty_completion_tail 4 };
    }

one-writes : AreCallsNth true 0 (one_command (zeroes 2)) (Posted done) (finished 2) fenced_calls
unfolding computing fenced_calls AreCallsOfExecution
one-writes = record {
  finishes = record {
    execution = comes 2;
    comes_to = (
      refl,
      record {
        returned = [];
        effect = record {
          world = refl;
          effect = (
            inl (record { answered = refl; failures = refl }, λ told. refl),
            refl,
          );
        };
        window = refl;
        dw0 = refl;
        rule = refl;
        marks = refl;
      },
    );
    gives = refl;
    controller = refl;
    world = refl;
    device = refl;
  };
  are = record { read = []; passed = 1; answer = Ok tt; reached = (refl, refl); are = refl };
}

one-refused : AreCallsNth true 0 (one_command (zeroes 1)) (Posted (denial_outcome 7 status.reservation_conflict))
    (finished 1) []
unfolding computing AreCallsOfExecution
one-refused = record {
  finishes = record {
    execution = comes 1;
    comes_to = (refl, (refl, refl));
    gives = refl;
    controller = refl;
    world = refl;
    device = refl;
  };
  are = refl;
}

pub command_at_work : CommandAtWork
command_at_work = record { written = finished 2; writes = one-writes; refused = finished 1; denied = one-refused }

pub no_call_needs_a_denial : NoCallOfAnyCommand → ⊥
unfolding flushes fenced_calls
no_call_needs_a_denial law = distinct 2 0 refl (ap flushes (law true 0 (one_command (zeroes 2)) (finished 2) done
    fenced_calls one-writes))
