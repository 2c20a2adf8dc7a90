-- For `preempting.rt`: the example runs of preempted hosts, computed.
use Rattle.std.specs.Prelude.{if◌then◌else◌, option_map, replicate, slice_get}
use Rattle.std.proofs.Common.{List, None, Ok, Option, Some, [], ap, inl, inr, refl, sym, true, ℕ, ◌∙◌, ◌∷◌, ◌≡◌}
use Rattle.nvme_wire.specs.Submission.{opcode}
use Rattle.nvme_spec.specs.declared.command.Command.TheVariants.{ReservationAcquire}
use Rattle.nvme_spec.specs.Bytes.{with_bytes}
use Rattle.nvme_spec.specs.ClusterExamples.{keys}
use Rattle.nvme_spec.specs.Commands.{action, command_of}
use Rattle.nvme_spec.specs.Execution.{denial_outcome}
use Rattle.nvme_spec.specs.Layout.{IsLaidOut}
use Rattle.nvme_spec.specs.Queues.{empty_completion_tail, empty_submission_head}
use Rattle.nvme_spec.specs.Statuses.{command_aborted_due_to_preempt_and_abort, successful_completion}
use Rattle.nvme_spec.specs.World.{host_of}
use Rattle.nvme_machine.specs.declared.event.Event.TheVariants.{Execute}
use Rattle.nvme_machine.specs.declared.fetched.FetchedCommand.{FetchedCommand}
use Rattle.nvme_machine.specs.declared.seen.Executed.TheVariants.{Posted}
use Rattle.nvme_machine.specs.declared.seen.Seen.TheVariants.{Executed, Stored}
use Rattle.nvme_machine.specs.CommandExecutions.{judgement}
use Rattle.nvme_machine.specs.Controllers.{Controller, QueuePair, names, open_pair, power_cycled, queues_of}
use Rattle.nvme_machine.specs.FaultFree.{fault_free_left, fault_free_seen, fault_free_step}
use Rattle.nvme_machine.specs.Fencing.{namespace_bytes}
use Rattle.nvme_machine.specs.Preempted.{Preempts, RunKeeping, place_after, removed_hosts}
use Rattle.nvme_machine.specs.Runs.{IsMarkedBy, Waits}
use Rattle.nvme_machine.specs.Subsystems.{Subsystem, after_power_cycle, controller_at, is_host_among, scene_of}
use Rattle.nvme_machine.proofs.Determined.{steps}
use Rattle.nvme_machine.proofs.Preempted.{preempted_stays_out}
use Rattle.nvme_theorem_runs.specs.Cluster.{acquire, cluster, ready, stores, stores_keys, with_b2, zeroes, zeros}
use Rattle.nvme_theorem_runs.specs.Preempting.{
  MarkingAtWork,
  OthersAtWork,
  OthersOfAnyController,
  PreemptingAtWork,
  PreemptingByAnyStep,
  PreemptingOfAnyHost,
  armed,
  later,
  meanwhile,
  preempted,
}
use Rattle.nvme_theorem_runs.proofs.Computing.{distinct, first_of, followed, left-laid, rule_of, run-keeping}
use Rattle.nvme_theorem_runs.proofs.Laying.{laid}
use Rattle.nvme_theorem_runs.proofs.Unfolding.{computing}
use Rattle.nvme_spec.specs.Statuses as status

armed-laid : IsLaidOut armed.world armed.device.content
unfolding armed
armed-laid = left-laid (cluster (with_b2 1) (acquire 2 ∷ zeroes 1 ∷ []) (zeroes 1 ∷ []))
    (stores_keys 1 0x11 0x22 ∷ []) (laid (with_b2 1) (acquire 2 ∷ zeroes 1 ∷ []) (zeroes 1 ∷ []))

preempted-laid : IsLaidOut preempted.world preempted.device.content
preempted-laid = left-laid armed (Execute 1 0 ∷ []) armed-laid

later-laid : IsLaidOut later.world later.device.content
later-laid = left-laid preempted meanwhile preempted-laid

-- a controller with its stored keys and fetched commands
abbrev first-one : Controller
first-one = ready 1 (with_bytes zeros 0 (keys 0x11 0x22)) (acquire 2 ∷ zeroes 1 ∷ [])

abbrev queues : QueuePair
queues = record {
  submission = record { base = 512; cqid = 1; head = empty_submission_head 4 };
  completion = record { base = 768; tail = empty_completion_tail 4 };
}

waiting : Waits armed 1 0 first-one (acquire 2) queues
unfolding computing armed
waiting = record { at = refl; found = refl; room = refl }

facts : (names 1 (acquire 2) ≡ true) × (command_of (opcode (acquire 2).entry) ≡ Some ReservationAcquire)
    × (action (acquire 2).entry ≡ 2)
    × (judgement (queues_of first-one) 1 (acquire 2) (scene_of armed first-one) ≡ Ok tt)
unfolding computing armed judgement
facts = (refl, refl, refl, refl)

pub preempts : Preempts true 1 armed 1 0 first-one (acquire 2) preempted
preempts = record {
  pair = queues;
  seen = (fault_free_step armed (Execute 1 0)).seen;
  step = steps armed (Execute 1 0) armed-laid;
  waits = waiting;
  named = facts.0;
  acquires = facts.1;
  aborts = facts.2;
  allowed = facts.3;
}

abbrev marked-one : FetchedCommand
marked-one = record (zeroes 1) { marked = true }

abbrev second-one : Controller
second-one = ready 2 zeros (marked-one ∷ [])

found : (controller_at preempted 2 ≡ Some second-one) × (slice_get second-one.fetched 0 ≡ Some marked-one)
    × (names 1 marked-one ≡ true)
    × (is_host_among (removed_hosts armed 1 first-one (acquire 2)) (host_of preempted.world 2) ≡ true)
unfolding computing armed
found = (refl, refl, refl, refl)

place : followed preempted 2 0 meanwhile ≡ Some 0
unfolding computing armed meanwhile place_after
place = refl

outcome : ((namespace_bytes preempted 1 ≡ replicate 512 1) × (namespace_bytes later 1 ≡ replicate 512 0))
    × (fault_free_seen later (Execute 2 0 ∷ []) ≡ Executed (Posted
    (denial_outcome 1 status.command_aborted_due_to_preempt_and_abort)) ∷ [])
unfolding computing armed meanwhile
outcome = ((refl, refl), refl)

run : RunKeeping true 2 preempted 0 meanwhile (fault_free_seen preempted meanwhile) later 0
run = run-keeping 2 preempted 0 meanwhile 0 preempted-laid place

pub preempting_at_work : PreemptingAtWork
preempting_at_work = record {
  controller = first-one;
  preempts = preempts;
  other = second-one;
  command = marked-one;
  at = found.0;
  found = found.1;
  removed = found.3;
  run = run;
  holds = preempted_stays_out true 1 armed preempted later 1 0 first-one (acquire 2) preempts 2 0 second-one
      marked-one found.0 found.1 found.2 found.3
      meanwhile (fault_free_seen preempted meanwhile) 0 run;
  written = outcome.0;
  aborted = outcome.1;
}

-- The holder's own write is not aborted.

abbrev own-one : Controller
own-one = ready 1 (with_bytes zeros 0 (keys 0x11 0x22)) (zeroes 1 ∷ [])

own-found : (c : Controller) × (controller_at preempted 1 ≡ Some c) × (slice_get c.fetched 0 ≡ Some (zeroes 1))
    × (names 1 (zeroes 1) ≡ true)
    × ((p : QueuePair) × (open_pair c (zeroes 1) ≡ Some p))
unfolding computing armed
own-found = (_, refl, refl, refl, (_, refl))

own-rule : rule_of (fault_free_step preempted (Execute 1 0)).seen ≡ 0
unfolding computing armed
own-rule = refl

pub preempting_needs_the_host : PreemptingOfAnyHost → ⊥
preempting_needs_the_host law =
    let f = own-found in
    let is = law true 1 armed preempted preempted 1 0 first-one (acquire 2) preempts 1 0 f.0 (zeroes 1) f.1 f.2 f.3 []
    [] 0 (refl, refl)
    (fault_free_step preempted (Execute 1 0)).left f.0 (zeroes 1) f.4.0 (fault_free_step preempted (Execute 1 0)).seen
    (steps preempted (Execute 1 0) preempted-laid) (record { at = f.1; found = f.2; room = f.4.1 }) in
    distinct 0 1 refl (sym own-rule ∙ ap rule_of is.0)

-- A plain Preempt marks nothing.

unfoldable plain_armed : Subsystem
plain_armed = fault_free_left (cluster (with_b2 1) (acquire 1 ∷ []) (zeroes 1 ∷ [])) (stores_keys 1 0x11 0x22 ∷ [])

plain-laid : IsLaidOut plain_armed.world plain_armed.device.content
unfolding plain_armed
plain-laid = left-laid (cluster (with_b2 1) (acquire 1 ∷ []) (zeroes 1 ∷ [])) (stores_keys 1 0x11 0x22 ∷ [])
    (laid (with_b2 1) (acquire 1 ∷ []) (zeroes 1 ∷ []))

abbrev plainly : Subsystem
plainly = (fault_free_step plain_armed (Execute 1 0)).left

plainly-laid : IsLaidOut plainly.world plainly.device.content
plainly-laid = left-laid plain_armed (Execute 1 0 ∷ []) plain-laid

abbrev plain-one : Controller
plain-one = ready 1 (with_bytes zeros 0 (keys 0x11 0x22)) (acquire 1 ∷ [])

abbrev unmarked-one : Controller
unmarked-one = ready 2 zeros (zeroes 1 ∷ [])

plain-found : (controller_at plainly 2 ≡ Some unmarked-one) × (slice_get unmarked-one.fetched 0 ≡ Some (zeroes 1))
    × (names 1 (zeroes 1) ≡ true)
    × (is_host_among (removed_hosts plain_armed 1 plain-one (acquire 1)) (host_of plainly.world 2) ≡ true)
unfolding computing plain_armed
plain-found = (refl, refl, refl, refl)

plain-waits : Waits plainly 2 0 unmarked-one (zeroes 1) queues
unfolding computing plain_armed
plain-waits = record { at = refl; found = refl; room = refl }

plain-rule : rule_of (fault_free_step plainly (Execute 2 0)).seen ≡ 7
unfolding computing plain_armed
plain-rule = refl

pub preempting_needs_the_abort : PreemptingByAnyStep → ⊥
preempting_needs_the_abort law =
    let f = plain-found in
    let is = law true 1 plain_armed plainly plainly 1 0 plain-one (acquire 1)
    (fault_free_step plain_armed (Execute 1 0)).seen (steps plain_armed (Execute 1 0) plain-laid)
    2 0 unmarked-one (zeroes 1) f.0 f.1 f.2 f.3 [] [] 0 (refl, refl)
    (fault_free_step plainly (Execute 2 0)).left unmarked-one (zeroes 1) queues
    (fault_free_step plainly (Execute 2 0)).seen
    (steps plainly (Execute 2 0) plainly-laid) plain-waits in
    distinct 7 1 refl (sym plain-rule ∙ ap rule_of is.0)

-- Marks, and other controllers.

pub marking_at_work : MarkingAtWork
unfolding computing armed
marking_at_work = record { unmarked = refl; marked = refl; own = refl }

abbrev is_marked : Option Controller → ℕ
is_marked None = 2
is_marked (Some c) = by c.fetched
  where
    by : List FetchedCommand → ℕ
    by [] = 2
    by (t ∷ ts) = if t.marked then 1 else 0

before-after : (is_marked (controller_at armed 2) ≡ 0) × (is_marked (controller_at preempted 2) ≡ 1)
    × (is_marked (controller_at (after_power_cycle armed) 2) ≡ 2)
unfolding computing armed
before-after = (refl, refl, refl)

others-facts : (controller_at (fault_free_step armed (stores 1 0 (1 ∷ []))).left 2 ≡ controller_at armed 2)
    × IsMarkedBy preempted.world (fault_free_step armed (Execute 1 0)).seen 2 (controller_at armed 2)
    (controller_at preempted 2)
    × (controller_at (after_power_cycle armed) 2 ≡ option_map power_cycled (controller_at armed 2))
unfolding computing armed
others-facts = (
  refl,
  record {
    outcome = record {
      status = status.successful_completion;
      dw0 = 0;
      rule = 0;
      marks = record { nsid = 1; hosts = record { items = 0xb2 ∷ [] } };
    };
    gives = refl;
    removed = refl;
    marked = refl;
  },
  refl,
)

pub others_at_work : OthersAtWork
others_at_work = record {
  store = others-facts.0;
  marks = others-facts.1;
  changed = λ e. distinct 1 0 refl (sym before-after.1 ∙ ap is_marked e ∙ before-after.0);
  cycle = others-facts.2;
  cycled = λ e. distinct 2 0 refl (sym before-after.2 ∙ ap is_marked e ∙ before-after.0);
}

abbrev front_in : Option Controller → ℕ
front_in None = 2
front_in (Some c) = first_of c.window

own-store : (front_in (controller_at armed 1) ≡ 0x11) × (front_in
    (controller_at (fault_free_step armed (stores 1 0 (1 ∷ []))).left 1) ≡ 1)
    × ((fault_free_step armed (stores 1 0 (1 ∷ []))).seen ≡ Stored)
unfolding computing armed
own-store = (refl, refl, refl)

pub others_need_another : OthersOfAnyController → ⊥
others_need_another law =
    let event = stores 1 0 (1 ∷ []) in
    let next = fault_free_step armed event in
    elim (law true armed next.left event next.seen (steps armed event armed-laid) 1) [
      | inl same ↦ distinct 1 0x11 refl (sym own-store.1 ∙ ap front_in same ∙ own-store.0)
      | inr rest ↦ elim rest [
        | inl marks ↦ let gives = sym own-store.2 ∙ marks.gives in absurd (cc)
        | inr cycle ↦ let event_is = cycle.0 in absurd (cc)
      ]
    ]
