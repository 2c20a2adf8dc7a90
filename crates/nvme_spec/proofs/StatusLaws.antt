-- For proofs about completions: the statuses of each command, and that each fits its field.
use Rattle.std.proofs.Common.{
  ◌≡◌,
  inl,
  inr,
  ℕ,
  nat_lt,
  ◌&&◌,
  Bool,
  true,
  List,
  [],
  ◌∷◌,
  Option,
  None,
  Some,
  Ok,
  Err,
  refl,
  sym,
  ap,
  subst,
  ◌∙◌,
}
use Rattle.std.proofs.lemmas.Bool.{and_parts, or_cases, or_right, eqb-true, ltb-true}
use Rattle.std.specs.List.{list_all}
use Rattle.nvme_wire.specs.Submission.{opcode}
use Rattle.nvme_wire.specs.declared.status.Status.{Status}
use Rattle.nvme_spec.specs.declared.command.AdminCommand.{AdminCommand}
use Rattle.nvme_spec.specs.declared.command.Command.{Command}
use Rattle.nvme_spec.specs.declared.command.Command.TheVariants.{
  Flush,
  Write,
  Read,
  Compare,
  WriteZeroes,
  ReservationRegister,
  ReservationReport,
  ReservationAcquire,
  ReservationRelease,
}
use Rattle.nvme_spec.specs.declared.outcome.Outcome.{Outcome}
use Rattle.nvme_spec.specs.declared.verdict.Verdict.{Verdict}
use Rattle.nvme_spec.specs.declared.verdict.Verdict.TheVariants.{Allowed, Denied}
use Rattle.nvme_spec.specs.World.{World}
use Rattle.nvme_spec.specs.Rules.{Judgement}
use Rattle.nvme_spec.specs.IoData.{io_verdict, data_of}
use Rattle.nvme_spec.specs.Effects.{ReadEffect, WriteEffect, CompareEffect, FlushEffect}
use Rattle.nvme_spec.specs.Execution.{Scene, ExecutesBy, Performs}
use Rattle.nvme_spec.specs.AdminCommands as admin
use Rattle.nvme_spec.specs.AdminRules.{admin_judgement}
use Rattle.nvme_spec.specs.AdminEffects.{execution_by, admin_execution}
use Rattle.nvme_spec.specs.StatusLaws.{
  is_same,
  IsAmong,
  denials,
  answers,
  Fits,
  AnswersFit,
  ExecutionAnswers,
  AdminExecutionAnswers,
}
use Rattle.nvme_spec.proofs.Denials.{JudgementRefuses, VerdictRefuses, verdict-refuses}
use Rattle.nvme_spec.proofs.AdminDenials.{admin-refuses}

-- A property of each status of a list.

same : (x y : Status) → is_same x y ≡ true → x ≡ y
same x y h =
    let p = and_parts _ _ h in
    let type : x.sct ≡ y.sct = eqb-true _ _ p.0 in
    let code : x.sc ≡ y.sc = eqb-true _ _ p.1 in
    λ i. record { sct = type i; sc = code i }

pub of-each : (P : Status → Bool) (statuses : List Status) (s : Status)
    → list_all P statuses ≡ true → IsAmong statuses s → P s ≡ true
of-each P [] s a h = absurd (cc (h))
of-each P (x ∷ xs) s a h =
    let p = and_parts (P x) _ a in
    elim (or_cases (is_same x s) _ h) [
      | inl e ↦ ap P (sym (same x s e)) ∙ p.0
      | inr r ↦ of-each P xs s p.1 r
    ]

pub answers_fit : AnswersFit
answers_fit s h =
    let p = and_parts (nat_lt s.sct 8) _ (of-each (λ x. nat_lt x.sct 8 && nat_lt x.sc 256) answers s refl h) in
    (ltb-true _ _ p.0, ltb-true _ _ p.1)

abbrev IsAnswer : Status → Type 0
IsAnswer = IsAmong answers

denied-answers : (s : Status) → IsAmong denials s → IsAnswer s
denied-answers s h =
    or_right (is_same _ s) _ (or_right (is_same _ s) _ (or_right (is_same _ s) _ (or_right (is_same _ s) _ h)))

-- The status of a performance.

status-is : (a b : Status) → a ≡ b → IsAnswer b → IsAnswer a
status-is a b e h = subst IsAnswer (sym e) h

write-answers : (tells : Bool) (first : ℕ) (bytes : List ℕ) (old new : Scene) (answer : Status)
    → WriteEffect tells first bytes old.device new.device answer → IsAnswer answer
write-answers tells first bytes old new answer (inl done) = let c = done.0 in status-is answer _ c.answered (refl)
write-answers tells first bytes old new answer (inr stopped) = let c = stopped.0 in status-is answer _ c.answered (refl)

flush-answers : (tells : Bool) (old new : Scene) (answer : Status) → FlushEffect tells old.device new.device answer
    → IsAnswer answer
flush-answers tells old new answer (same, inl done) = status-is answer _ done.answered (refl)
flush-answers tells old new answer (same, inr failed) = status-is answer _ failed.answered (refl)

read-answers : (tells : Bool) (first bytes : ℕ) (old new : Scene) (answer : Status) (read : List ℕ)
    → ReadEffect tells first bytes old.device new.device answer read → IsAnswer answer
read-answers tells first bytes old new answer read (same, inl done) = let c = done.0 in
    status-is answer _ c.answered (refl)
read-answers tells first bytes old new answer read (same, inr failed) = let c = failed.0 in
    status-is answer _ c.answered (refl)

compare-answers : (tells : Bool) (first : ℕ) (bytes : List ℕ) (old new : Scene) (answer : Status)
    → CompareEffect tells first bytes old.device new.device answer → IsAnswer answer
compare-answers tells first bytes old new answer (same, inl done) = let c = done.0 in
    status-is answer _ c.answered (refl)
compare-answers tells first bytes old new answer (same, inr (inl differ)) = let c = differ.0 in
    status-is answer _ c.answered (refl)
compare-answers tells first bytes old new answer (same, inr (inr failed)) = let c = failed.0 in
    status-is answer _ c.answered (refl)

performs-answers : (tells : Bool) (command : Command) (k : ℕ) (e sent : List ℕ) (old new : Scene) (answer : Status)
    (returned : List ℕ)
    → Performs tells command k e sent old new answer returned → IsAnswer answer
performs-answers tells Flush k e sent old new answer returned h = let f = h.effect in
    flush-answers tells old new answer f.0
performs-answers tells Write k e sent old new answer returned h = let f = h.effect in
    write-answers tells _ _ old new answer f.0
performs-answers tells WriteZeroes k e sent old new answer returned h = let f = h.effect in
    write-answers tells _ _ old new answer f.0
performs-answers tells Read k e sent old new answer returned h = read-answers tells _ _ old new answer returned h.effect
performs-answers tells Compare k e sent old new answer returned h = let f = h.effect in
    compare-answers tells _ _ old new answer f.0
performs-answers tells ReservationRegister k e sent old new answer returned h = status-is answer _ h.answered (refl)
performs-answers tells ReservationAcquire k e sent old new answer returned h = status-is answer _ h.answered (refl)
performs-answers tells ReservationRelease k e sent old new answer returned h = status-is answer _ h.answered (refl)
performs-answers tells ReservationReport k e sent old new answer returned h = status-is answer _ h.answered (refl)

by-answers : (v : Verdict) (tells : Bool) (k : ℕ) (e : List ℕ) (old new : Scene) (o : Outcome)
    → VerdictRefuses v → ExecutesBy v tells k e old new o → IsAnswer o.status
by-answers (Denied number why) tells k e old new o f h =
    status-is o.status why (ap (λ (x : Outcome). x.status) h.1) (denied-answers why f)
by-answers (Allowed plan) tells k e old new o f h =
    performs-answers tells plan.kind k e (data_of old.window e) old new o.status h.returned h.effect

pub execution_answers : ExecutionAnswers IsAnswer
execution_answers tells k e marked old new o h =
    by-answers (io_verdict old.world k e marked old.window) tells k e old new o
    (verdict-refuses old.world k e marked old.window) h

pub execution_fits : ExecutionAnswers Fits
execution_fits tells k e marked old new o h = answers_fit o.status (execution_answers tells k e marked old new o h)

-- Admin commands.

executed-answers : (w : World) (k : ℕ) (e window : List ℕ) (j : Judgement) (o : Option AdminCommand)
    → JudgementRefuses j → IsAnswer (execution_by j o w k e window).status
executed-answers w k e window (Err d) o h = denied-answers d.status h
executed-answers w k e window (Ok u) None h = refl
executed-answers w k e window (Ok u) (Some command) h = refl

pub admin_execution_answers : AdminExecutionAnswers IsAnswer
unfolding admin_execution
admin_execution_answers w queues k e window =
    executed-answers w k e window (admin_judgement w queues k e window) (admin.command_of (opcode e))
    (admin-refuses w queues k e window)

pub admin_execution_fits : AdminExecutionAnswers Fits
admin_execution_fits w queues k e window =
    answers_fit (admin_execution w queues k e window).status (admin_execution_answers w queues k e window)
