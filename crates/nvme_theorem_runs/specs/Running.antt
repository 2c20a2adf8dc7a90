-- Statements of `runs.rt`: example runs of the theorems on runs and on the policy. Also theorems that lack one premise,
-- and so are false.
use Rattle.std.specs.Prelude.{
  Bool,
  Err,
  List,
  Some,
  [],
  false,
  replicate,
  slice_get,
  true,
  ℕ,
  ◌-◌,
  ◌<◌,
  ◌==◌,
  ◌^◌,
  ◌∷◌,
  ◌≡◌,
}
use Rattle.nvme_spec.specs.declared.verdict.Denial.{Denial}
use Rattle.nvme_spec.specs.declared.verdict.Plan.{Plan}
use Rattle.nvme_spec.specs.declared.verdict.Verdict.TheVariants.{Allowed}
use Rattle.nvme_spec.specs.Execution.{denial_outcome}
use Rattle.nvme_spec.specs.IoData.{io_verdict}
use Rattle.nvme_spec.specs.Layout.{IsLaidOut}
use Rattle.nvme_spec.specs.Queues.{empty_completion_tail, empty_submission_head}
use Rattle.nvme_spec.specs.Statuses.{reservation_conflict}
use Rattle.nvme_machine.specs.declared.event.Event.{Event}
use Rattle.nvme_machine.specs.declared.event.Event.TheVariants.{Execute}
use Rattle.nvme_machine.specs.declared.fetched.FetchedCommand.{FetchedCommand}
use Rattle.nvme_machine.specs.declared.seen.Executed.TheVariants.{Posted}
use Rattle.nvme_machine.specs.declared.seen.Seen.{Seen}
use Rattle.nvme_machine.specs.declared.seen.Seen.TheVariants.{Executed}
use Rattle.nvme_machine.specs.CommandExecutions.{judgement}
use Rattle.nvme_machine.specs.Controllers.{Controller, QueuePair, after_posting, queues_of}
use Rattle.nvme_machine.specs.FaultFree.{fault_free_seen, fault_free_step}
use Rattle.nvme_machine.specs.Fencing.{namespace_bytes}
use Rattle.nvme_machine.specs.Runs.{DoesItsEffect, Waits}
use Rattle.nvme_machine.specs.Subsystems.{Run, Step, Subsystem, controller_at, scene_of, with_controller}
use Rattle.nvme_theorem_runs.specs.Cluster.{cluster, held_by_a1, ready, zeroes, zeros}
use Rattle.nvme_theorem_runs.specs.Fencing.{after_fenced, fenced, fenced_events, fenced_seen}
use Rattle.nvme_spec.specs.Statuses as status

-- RunIsUnique, for the run of FencingAtWork.
pub record RunAtWork : Type 0 where
  pub laid : IsLaidOut fenced.world fenced.device.content
  pub run : Run true fenced fenced_events fenced_seen after_fenced
  pub calm : after_fenced.device.failures ≡ fenced.device.failures
  pub alone : (new : Subsystem) → (seen : List Seen) → Run true fenced fenced_events seen new
      → new.device.failures ≡ fenced.device.failures → (seen ≡ fenced_seen) × (new ≡ after_fenced)

-- The theorem over a medium whose calls may fail.
abbrev pub RunOverFaults : Type 0
RunOverFaults =
    (old new : Subsystem) → (events : List Event) → (seen : List Seen) → Run true old events seen new
    → old.device.failures < 2 ^ 64 - 1
    → seen ≡ fault_free_seen old events

-- Host b2h has fetched a write of each namespace.
abbrev pub judged : Subsystem
judged = cluster (held_by_a1 1) [] (zeroes 1 ∷ zeroes 2 ∷ [])

abbrev pub judged_controller : Controller
judged_controller = ready 2 zeros (zeroes 1 ∷ zeroes 2 ∷ [])

abbrev pub empty_queues : QueuePair
empty_queues = record {
  submission = record { base = 512; cqid = 1; head = empty_submission_head 4 };
  completion = record { base = 768; tail = empty_completion_tail 4 };
}

abbrev pub conflict : Denial
conflict = record { rule = 7; status = status.reservation_conflict }

-- DeniedChangesItsEntryAlone of the first, and AllowedDoesItsEffect of the second.
pub record PolicyAtWork : Type 0 where
  pub waits : Waits judged 2 0 judged_controller (zeroes 1) empty_queues
  pub denied : judgement (queues_of judged_controller) 2 (zeroes 1) (scene_of judged judged_controller) ≡ Err conflict
  pub answered : (fault_free_step judged (Execute 2 0)).seen
      ≡ Executed (Posted (denial_outcome 7 status.reservation_conflict))
  pub leaves : (fault_free_step judged (Execute 2 0)).left
      ≡ with_controller judged 2
      (after_posting 0 (zeroes 1) empty_queues status.reservation_conflict 0 judged_controller)
  pub waits_too : Waits judged 2 1 judged_controller (zeroes 2) empty_queues
  pub plan : Plan
  pub allowed : io_verdict judged.world 2 (zeroes 2).entry false judged_controller.window ≡ Allowed plan
  pub does : DoesItsEffect true plan judged (fault_free_step judged (Execute 2 1)).left 2 1 judged_controller
      (zeroes 2) empty_queues (fault_free_step judged (Execute 2 1)).seen
  pub before : namespace_bytes judged 2 ≡ replicate 512 2
  pub written : namespace_bytes (fault_free_step judged (Execute 2 1)).left 2 ≡ replicate 512 0

-- The two theorems for any verdict of the rules, and the first one with or without room for the completion.
abbrev pub DeniedOfAnyVerdict : Type 0
DeniedOfAnyVerdict =
    (tells : Bool) → (old new : Subsystem) → (k i : ℕ) → (c : Controller) → (t : FetchedCommand) → (p : QueuePair)
    → (denial : Denial) → (seen : Seen)
    → Step tells old (Execute k i) seen new → Waits old k i c t p
    → seen ≡ Executed (Posted (denial_outcome denial.rule denial.status))

abbrev pub AllowedOfAnyVerdict : Type 0
AllowedOfAnyVerdict =
    (tells : Bool) → (old new : Subsystem) → (k i : ℕ) → (c : Controller) → (t : FetchedCommand) → (p : QueuePair)
    → (plan : Plan) → (seen : Seen)
    → Step tells old (Execute k i) seen new → Waits old k i c t p → (t.queue == 0) ≡ false
    → DoesItsEffect tells plan old new k i c t p seen

abbrev pub DeniedWithoutRoom : Type 0
DeniedWithoutRoom =
    (tells : Bool) → (old new : Subsystem) → (k i : ℕ) → (c : Controller) → (t : FetchedCommand)
    → (denial : Denial) → (seen : Seen)
    → Step tells old (Execute k i) seen new → controller_at old k ≡ Some c → slice_get c.fetched i ≡ Some t
    → judgement (queues_of c) k t (scene_of old c) ≡ Err denial
    → seen ≡ Executed (Posted (denial_outcome denial.rule denial.status))
