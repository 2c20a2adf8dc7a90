-- What a journal keeps of a command is all that it changes of the access state.
use Rattle.std.proofs.Common.{
  ◌≡◌,
  ℕ,
  ◌==◌,
  ◌&&◌,
  Bool,
  true,
  false,
  not,
  List,
  [],
  ◌∷◌,
  Option,
  None,
  Some,
  Ok,
  Err,
  refl,
  sym,
  ap,
  ◌∙◌,
}
use Rattle.std.specs.Prelude.{if◌then◌else◌}
use Rattle.nvme_wire.specs.Submission.{opcode, nsid}
use Rattle.nvme_wire.specs.declared.status.Status.{Status}
use Rattle.nvme_spec.specs.declared.command.AdminCommand.{AdminCommand}
use Rattle.nvme_spec.specs.declared.command.AdminCommand.TheVariants.{SetFeatures, NamespaceAttachment}
use Rattle.nvme_spec.specs.declared.command.Command.{Command}
use Rattle.nvme_spec.specs.declared.command.Command.TheVariants.{
  ReservationRegister,
  ReservationAcquire,
  ReservationRelease,
}
use Rattle.nvme_spec.specs.declared.outcome.Outcome.{Outcome}
use Rattle.nvme_spec.specs.declared.verdict.Verdict.{Verdict}
use Rattle.nvme_spec.specs.declared.verdict.Verdict.TheVariants.{Allowed, Denied}
use Rattle.nvme_spec.specs.AdminCommands as admin
use Rattle.nvme_spec.specs.AdminEffects.{admin_execution, execution_by, world_after}
use Rattle.nvme_spec.specs.AdminRules as rules
use Rattle.nvme_spec.specs.Commands as io
use Rattle.nvme_spec.specs.Execution.{Scene, ExecutesBy, Performs}
use Rattle.nvme_spec.specs.IoData.{io_verdict, data_of}
use Rattle.nvme_spec.specs.Rules.{Judgement}
use Rattle.nvme_spec.specs.StatusLaws.{IsAmong, denials}
use Rattle.nvme_spec.specs.World.{World, with_protection}
use Rattle.nvme_spec.proofs.AdminDenials.{admin-refuses}
use Rattle.nvme_spec.proofs.Denials.{JudgementRefuses, VerdictRefuses, verdict-refuses}
use Rattle.nvme_spec.proofs.Passing.{has-passed}
use Rattle.nvme_spec.proofs.StatusLaws.{of-each}
use Rattle.nvme_journal.specs.Records.{
  Record,
  Command as Kept,
  carried_all,
  carried_by,
  is_success,
  kept,
  lasts,
  lasts_by,
}
use Rattle.nvme_journal.specs.Laws.{IoCommandsAreKept, AdminCommandsAreKept}

-- What is not kept.

not-true : (b : Bool) → not b ≡ true → b ≡ false
not-true true h = absurd (cc (h))
not-true false h = refl

pub refused : (s : Status) → IsAmong denials s → is_success s ≡ false
refused s h = not-true (is_success s) (of-each (λ x. not (is_success x)) denials s refl h)

and-false : (b : Bool) → (b && false) ≡ false
and-false true = refl
and-false false = refl

none : (b : Bool) (r : Record) (w : World) → b ≡ false → carried_all (if b then r ∷ [] else []) w ≡ w
none true r w h = absurd (cc (h))
none false r w h = refl

not-lasting : (s : Status) (k : ℕ) (e sent : List ℕ) (w : World) → lasts false e ≡ false
    → carried_all (kept s k false e sent) w ≡ w
not-lasting s k e sent w h =
    none (is_success s && lasts false e) _ w (ap (λ b. is_success s && b) h ∙ and-false (is_success s))

not-successful : (s : Status) (k : ℕ) (is_admin : Bool) (e sent : List ℕ) (w : World) → is_success s ≡ false
    → carried_all (kept s k is_admin e sent) w ≡ w
not-successful s k is_admin e sent w h =
    none (is_success s && lasts is_admin e) _ w (ap (λ b. b && lasts is_admin e) h)

-- I/O commands.

pub lasts-so : (e : List ℕ) (command : Command) → io.command_of (opcode e) ≡ Some command
    → lasts false e ≡ io.is_one_of (Some command) io.reserving
unfolding lasts
lasts-so e command h = ap (λ c. io.is_one_of c io.reserving) h

whole : (s : Status) (k : ℕ) (e sent : List ℕ) (w next : World) → is_success s ≡ true → lasts false e ≡ true
    → next ≡ carried_all (Kept k false e sent ∷ []) w → next ≡ carried_all (kept s k false e sent) w
whole s k e sent w next success lasting h =
    let both : (is_success s && lasts false e) ≡ true = ap (λ b. b && lasts false e) success ∙ lasting in
    h ∙ sym (ap (λ (b : Bool). carried_all (if b then Kept k false e sent ∷ [] else []) w) both)

reserves : (s : Status) (k : ℕ) (e sent : List ℕ) (old new : Scene) (command : Command)
    → io.is_one_of (Some command) io.reserving ≡ true → lasts false e ≡ io.is_one_of (Some command) io.reserving
    → is_success s ≡ true → new.world ≡ carried_all (Kept k false e sent ∷ []) old.world
    → new.world ≡ carried_all (kept s k false e sent) old.world
reserves s k e sent old new command is lasting success h =
    whole s k e sent old.world new.world success (lasting ∙ is) h

performs : (command : Command) (tells : Bool) (k : ℕ) (e sent : List ℕ) (old new : Scene) (answer : Status)
    (returned : List ℕ) → lasts false e ≡ io.is_one_of (Some command) io.reserving
    → Performs tells command k e sent old new answer returned
    → new.world ≡ carried_all (kept answer k false e sent) old.world
performs ReservationRegister tells k e sent old new answer returned l h =
    reserves answer k e sent old new ReservationRegister refl l (ap is_success h.answered) h.world
performs ReservationAcquire tells k e sent old new answer returned l h =
    reserves answer k e sent old new ReservationAcquire refl l (ap is_success h.answered) h.world
performs ReservationRelease tells k e sent old new answer returned l h =
    reserves answer k e sent old new ReservationRelease refl l (ap is_success h.answered) h.world
performs command tells k e sent old new answer returned l h =
    h.world ∙ sym (not-lasting answer k e sent old.world l)

by-verdict : (v : Verdict) (tells : Bool) (k : ℕ) (e : List ℕ) (marked : Bool) (old new : Scene) (o : Outcome)
    → io_verdict old.world k e marked old.window ≡ v → VerdictRefuses v → ExecutesBy v tells k e old new o
    → new.world ≡ carried_all (kept o.status k false e (data_of old.window e)) old.world
by-verdict (Denied number why) tells k e marked old new o is f h =
    let failed : is_success o.status ≡ false = ap (λ (x : Outcome). is_success x.status) h.1 ∙ refused why f in
    ap (λ (s : Scene). s.world) h.0 ∙ sym (not-successful o.status k false e _ old.world failed)
by-verdict (Allowed plan) tells k e marked old new o is f h =
    let p = has-passed old.world k e marked old.window plan is in
    performs plan.kind tells k e (data_of old.window e) old new o.status h.returned
    (lasts-so e plan.kind p.named) h.effect

pub io_commands_are_kept : IoCommandsAreKept
io_commands_are_kept tells k e marked old new o h =
    by-verdict (io_verdict old.world k e marked old.window) tells k e marked old new o refl
    (verdict-refuses old.world k e marked old.window) h

-- Admin commands.

abbrev protected : World → List ℕ → World
protected w e = with_protection w (nsid e) (admin.protection_of (admin.wps e))

effect : (command : AdminCommand) (w : World) (e sent : List ℕ)
    → world_after w command e sent ≡ (if lasts_by (Some command) e then carried_by (Some command) w e sent else w)
unfolding world_after
effect NamespaceAttachment w e sent = refl
effect SetFeatures w e sent = elim (admin.fid e == admin.write_protection) as (λ b.
    (if b then protected w e else w) ≡ (if b then (if b then protected w e else w) else w)) [
      | true ↦ refl
      | false ↦ refl
    ]
effect command w e sent = refl

executed : (j : Judgement) (o : Option AdminCommand) (w : World) (k : ℕ) (e window : List ℕ) → JudgementRefuses j
    → (execution_by j o w k e window).world
    ≡ (if is_success (execution_by j o w k e window).status && lasts_by o e
    then carried_by o w e (rules.data_of window e) else w)
executed (Err d) o w k e window f =
    sym (ap (λ b. if b && lasts_by o e then carried_by o w e (rules.data_of window e) else w) (refused d.status f))
executed (Ok u) None w k e window f = refl
executed (Ok u) (Some command) w k e window f = effect command w e (rules.data_of window e)

carried-if : (b : Bool) (k : ℕ) (e sent : List ℕ) (w : World)
    → (if b then carried_by (admin.command_of (opcode e)) w e sent else w)
    ≡ carried_all (if b then Kept k true e sent ∷ [] else []) w
carried-if true k e sent w = refl
carried-if false k e sent w = refl

pub admin_commands_are_kept : AdminCommandsAreKept
unfolding admin_execution lasts
admin_commands_are_kept w queues k e window =
    let x = admin_execution w queues k e window in
    executed (rules.admin_judgement w queues k e window) (admin.command_of (opcode e)) w k e window
    (admin-refuses w queues k e window)
    ∙ carried-if (is_success x.status && lasts_by (admin.command_of (opcode e)) e) k e (rules.data_of window e) w
