-- For laws about completions: a denied command is completed with the status of its denial and has no other effect; an
-- allowed command has its effect.
use Rattle.std.proofs.Common.{
  ◌≡◌,
  ℕ,
  ◌+◌,
  ◌==◌,
  Bool,
  true,
  false,
  List,
  [],
  ◌∷◌,
  Option,
  None,
  Some,
  Ok,
  Err,
  refl,
  ap,
  subst,
  ◌∙◌,
}
use Rattle.std.specs.Prelude.{if◌then◌else◌}
use Rattle.nvme_wire.specs.Submission.{opcode}
use Rattle.nvme_spec.specs.declared.command.AdminCommand.{AdminCommand}
use Rattle.nvme_spec.specs.declared.command.Command.{Command}
use Rattle.nvme_spec.specs.declared.outcome.Outcome.{Outcome}
use Rattle.nvme_spec.specs.declared.verdict.Denial.{Denial}
use Rattle.nvme_spec.specs.declared.verdict.Verdict.{Verdict}
use Rattle.nvme_spec.specs.declared.verdict.Verdict.TheVariants.{Denied}
use Rattle.nvme_spec.specs.declared.queues.Queues.{Queues}
use Rattle.nvme_spec.specs.declared.queues.QueueChange.TheVariants.{Keep}
use Rattle.nvme_spec.specs.World.{World, host_of}
use Rattle.nvme_spec.specs.Rules.{Judgement}
use Rattle.nvme_spec.specs.AdminCommands.{command_of}
use Rattle.nvme_spec.specs.Commands as io
use Rattle.nvme_spec.specs.AdminRules.{admin_judgement}
use Rattle.nvme_spec.specs.AdminEffects.{admin_execution, execution_by}
use Rattle.nvme_spec.specs.IoRules.{conclusion}
use Rattle.nvme_spec.specs.IoData.{io_judgement, io_verdict}
use Rattle.nvme_spec.specs.Execution.{Scene, ExecutesBy, no_marks, denial_outcome}
use Rattle.nvme_machine.specs.declared.event.Event.TheVariants.{Execute}
use Rattle.nvme_machine.specs.declared.fetched.FetchedCommand.{FetchedCommand}
use Rattle.nvme_machine.specs.declared.seen.Executed.TheVariants.{Posted}
use Rattle.nvme_machine.specs.declared.seen.Seen.{Seen}
use Rattle.nvme_machine.specs.declared.seen.Seen.TheVariants.{Executed}
use Rattle.nvme_machine.specs.Controllers.{Controller, QueuePair, queues_of, after_posting, after_queue_change}
use Rattle.nvme_machine.specs.CommandExecutions.{
  CommandExecution,
  CommandComesTo,
  CommandComesToAs,
  IoCommandComesTo,
  admin_command_execution,
  judgement,
  denied_command_execution,
}
use Rattle.nvme_machine.specs.Subsystems.{
  Subsystem,
  Step,
  Completes,
  ExecutesAt,
  ExecutesOne,
  ExecutesOver,
  with_controller,
  scene_of,
  is_host_among,
  marked_from,
  replaced,
  after_completion,
  after_execution,
}
use Rattle.nvme_machine.specs.Runs.{Waits, DeniedChangesItsEntryAlone, AllowedDoesItsEffect}

-- no hosts, no marks
pub not_one : (o : Option ℕ) → is_host_among [] o ≡ false
not_one None = refl
not_one (Some h) = refl

pub unmarked : (w : World) (k : ℕ) (cs : List Controller) → marked_from w no_marks k cs ≡ cs
unmarked w k [] = refl
unmarked w k (c ∷ cs) = rw (not_one (host_of w k)) (ap (λ rest. c ∷ rest) (unmarked w (k + 1) cs))

admin-denied : (s : Scene) (j : Judgement) (command : Option AdminCommand) (cntlid : ℕ) (e : List ℕ) (d : Denial)
    → j ≡ Err d
    → admin_command_execution s (execution_by j command s.world cntlid e s.window) ≡ denied_command_execution s d
admin-denied s (Ok u) command cntlid e d h = absurd (cc)
admin-denied s (Err x) command cntlid e d h = let same : x ≡ d = cc in
    ap (λ (y : Denial). denied_command_execution s y) same

pub denied-verdict : (j : Judgement) (command : Option Command) (e : List ℕ) (d : Denial)
    → j ≡ Err d → conclusion j command e ≡ Denied d.rule d.status
denied-verdict (Ok u) command e d h = absurd (cc)
denied-verdict (Err x) command e d h = let same : x ≡ d = cc in ap (λ (y : Denial). Denied y.rule y.status) same

io-denied : (tells : Bool) (s left : Scene) (cntlid : ℕ) (e : List ℕ) (v : Verdict) (d : Denial) (o : Outcome)
    → ExecutesBy v tells cntlid e s left o → v ≡ Denied d.rule d.status
    → (left ≡ s) × (o ≡ denial_outcome d.rule d.status)
io-denied tells s left cntlid e v d o h is = subst (λ x. ExecutesBy x tells cntlid e s left o) is h

-- two answers with equal parts are equal
pub same-answer : (a b : CommandExecution) → a.outcome ≡ b.outcome → a.change ≡ b.change → a.left ≡ b.left → a ≡ b
same-answer a b o c l = λ i. record { outcome = o i; change = c i; left = l i }

-- a command that a rule denies has one answer
pub denied-answer : (tells : Bool) (s : Scene) (queues : Queues) (k : ℕ) (t : FetchedCommand) (d : Denial)
    (a : CommandExecution)
    → CommandComesTo tells queues k t s a → judgement queues k t s ≡ Err d → a ≡ denied_command_execution s d
unfolding CommandComesTo judgement admin_execution
denied-answer tells s queues k t d a h f =
    elim (t.queue == 0) as (λ b. CommandComesToAs b tells queues k t s a
    → (if b then admin_judgement s.world queues k t.entry s.window
    else io_judgement s.world k t.entry t.marked s.window) ≡ Err d
    → a ≡ denied_command_execution s d) [
      | true ↦ λ x y. x ∙ admin-denied s (admin_judgement s.world queues k t.entry s.window)
          (command_of (opcode t.entry)) k t.entry d y
      | false ↦ λ x y.
          (let r = io-denied tells s a.left k t.entry (io_verdict s.world k t.entry t.marked s.window) d a.outcome x.1
          (denied-verdict (io_judgement s.world k t.entry t.marked s.window)
          (io.command_of (opcode t.entry)) t.entry d y) in
          same-answer a (denied_command_execution s d) r.1 x.0 r.0)
    ] h f

pub after-denied : (old : Subsystem) (k : ℕ) (c : Controller) (i : ℕ) (t : FetchedCommand) (p : QueuePair) (d : Denial)
    → after_execution old k c i t p (denied_command_execution (scene_of old c) d)
    ≡ with_controller old k (after_posting i t p d.status 0 c)
unfolding after_execution with_controller after_queue_change after_completion
after-denied old k c i t p d =
    ap (λ cs. record old { controllers = cs })
    (unmarked old.world 1 (replaced old.controllers k (after_posting i t p d.status 0 c)))

-- from a step to its completion
pub completion : (tells : Bool) (old new : Subsystem) (k i : ℕ) (c : Controller) (t : FetchedCommand)
    (p : QueuePair) (seen : Seen)
    → Step tells old (Execute k i) seen new → Waits old k i c t p → Completes tells old k c i t p seen new
completion tells old new k i c t p seen step waits =
    let one : ExecutesAt (Some c) tells old k i seen new =
    subst (λ o. ExecutesAt o tells old k i seen new) waits.at step in
    let two : ExecutesOne (Some t) tells old k c i seen new =
    subst (λ o. ExecutesOne o tells old k c i seen new) waits.found one in
    subst (λ o. ExecutesOver o tells old k c i t seen new) waits.room two

pub denied_changes_its_entry_alone : DeniedChangesItsEntryAlone
denied_changes_its_entry_alone tells old new k i c t p denial seen step waits refused =
    let done = completion tells old new k i c t p seen step waits in
    let same = denied-answer tells (scene_of old c) (queues_of c) k t denial done.execution done.comes_to refused in (
      done.gives ∙ ap (λ (a : CommandExecution). Executed (Posted a.outcome)) same,
      done.leaves ∙ ap (λ a. after_execution old k c i t p a) same ∙ after-denied old k c i t p denial,
    )

-- the answer of an I/O command
pub io-answer : (tells : Bool) (queues : Queues) (k : ℕ) (t : FetchedCommand) (s : Scene) (a : CommandExecution)
    → (t.queue == 0) ≡ false → CommandComesTo tells queues k t s a → IoCommandComesTo tells k t s a
unfolding CommandComesTo
io-answer tells queues k t s a io h = subst (λ b. CommandComesToAs b tells queues k t s a) io h

pub allowed_does_its_effect : AllowedDoesItsEffect
allowed_does_its_effect tells old new k i c t p plan seen step waits io allowed =
    let done = completion tells old new k i c t p seen step waits in
    let a : CommandExecution = done.execution in
    let answer = io-answer tells (queues_of c) k t (scene_of old c) a io done.comes_to in
    record {
      outcome = a.outcome;
      left = a.left;
      performed = subst (λ v. ExecutesBy v tells k t.entry (scene_of old c) a.left a.outcome) allowed answer.1;
      gives = done.gives;
      leaves = done.leaves ∙ ap (λ x. after_execution old k c i t p x)
          (same-answer a (record { outcome = a.outcome; change = Keep; left = a.left }) refl answer.0 refl);
    }
