-- An I/O command that was kept succeeds again, with the same effect on the access state.
use Rattle.std.proofs.Common.{
  ◌≡◌,
  ℕ,
  ◌&&◌,
  Bool,
  true,
  false,
  List,
  [],
  ◌∷◌,
  Option,
  None,
  Some,
  Ok,
  refl,
  sym,
  ap,
  subst,
  ◌∙◌,
}
use Rattle.std.specs.Prelude.{if◌then◌else◌}
use Rattle.nvme_wire.specs.Submission.{opcode, nsid}
use Rattle.nvme_wire.specs.declared.status.Status.{Status}
use Rattle.nvme_spec.specs.declared.command.Command.{Command}
use Rattle.nvme_spec.specs.declared.command.Command.TheVariants.{
  ReservationRegister,
  ReservationAcquire,
  ReservationRelease,
}
use Rattle.nvme_spec.specs.declared.outcome.Outcome.{Outcome}
use Rattle.nvme_spec.specs.declared.pointer.DataFault.{DataFault}
use Rattle.nvme_spec.specs.declared.verdict.Verdict.{Verdict}
use Rattle.nvme_spec.specs.declared.verdict.Verdict.TheVariants.{Allowed, Denied}
use Rattle.nvme_spec.specs.Commands.{
  command_of,
  is_one_of,
  plan_of,
  reserving,
  starting_lba,
  block_count,
  report_length,
  action,
  iekey,
  cptpl,
  rtype,
  eds,
  data_length_of,
}
use Rattle.nvme_spec.specs.DataRules.{fault_tests, pointer_rule}
use Rattle.nvme_spec.specs.Execution.{Scene, ExecutesBy, Performs, world_after}
use Rattle.nvme_spec.specs.IoData.{
  action_outcome,
  action_rule,
  data_of,
  io_judgement,
  io_verdict,
  outcome_in,
  reservation_outcome,
}
use Rattle.nvme_spec.specs.IoRules.{access_rules, conclusion, field_rule, form_rule, mark_rule, range_rule}
use Rattle.nvme_spec.specs.Rules.{Judgement, else_by, first_failing, judgement_by}
use Rattle.nvme_spec.specs.Reservation as resv
use Rattle.nvme_spec.specs.World.{World, Namespace, host_of, namespace_of}
use Rattle.nvme_spec.proofs.Denials.{VerdictRefuses, verdict-refuses}
use Rattle.nvme_spec.proofs.Judgements.{first_failing-append}
use Rattle.nvme_spec.proofs.Passing.{both, passed, planned}
use Rattle.nvme_data_buffers.specs.Entries.{moved}
use Rattle.nvme_journal.specs.Records.{Command as Kept, carried_all, is_success, kept, lasts}
use Rattle.nvme_journal.specs.Laws.{IoRecordsSucceedAgain, IsSameCommand, ReachesData}
use Rattle.nvme_journal.proofs.Worlds.{io_commands_are_kept, lasts-so, refused}

-- The rules on the same command.

same-access : (w : World) (k : ℕ) (e again : List ℕ) (marked : Bool) → IsSameCommand e again
    → access_rules w k again marked ≡ access_rules w k e marked
unfolding form_rule field_rule range_rule starting_lba block_count report_length action iekey cptpl rtype eds
same-access w k e again marked h = cc (h.opcode, h.fuse, h.psdt, h.nsid, h.cdw10, h.cdw11, h.cdw12)

same-action : (command : Command) (r : resv.Reservation) (host : ℕ) (e again keys : List ℕ) → IsSameCommand e again
    → action_outcome command r host again keys ≡ action_outcome command r host e keys
unfolding action_outcome action iekey cptpl rtype
same-action ReservationRegister r host e again keys h = cc (h.cdw10)
same-action ReservationAcquire r host e again keys h = cc (h.cdw10)
same-action ReservationRelease r host e again keys h = cc (h.cdw10)
same-action command r host e again keys h = refl

same-in : (command : Option Command) (n : Option Namespace) (host : Option ℕ) (e again keys : List ℕ)
    → IsSameCommand e again → outcome_in command n host again keys ≡ outcome_in command n host e keys
same-in (Some c) (Some n) (Some host) e again keys h = same-action c n.reservation host e again keys h
same-in (Some c) (Some n) None e again keys h = refl
same-in (Some c) None host e again keys h = refl
same-in None n host e again keys h = refl

same-outcome : (w : World) (k : ℕ) (e again keys : List ℕ) → IsSameCommand e again
    → reservation_outcome w k again keys ≡ reservation_outcome w k e keys
unfolding reservation_outcome
same-outcome w k e again keys h =
    ap (λ c. outcome_in c (namespace_of w (nsid again)) (host_of w k) again keys) (ap command_of h.opcode)
    ∙ ap (λ n. outcome_in (command_of (opcode e)) (namespace_of w n) (host_of w k) again keys) h.nsid
    ∙ same-in (command_of (opcode e)) (namespace_of w (nsid e)) (host_of w k) e again keys h

-- A command that succeeded and lasts was allowed and unmarked.

pub record WasAllowed (w : World) (k : ℕ) (e window : List ℕ) (marked : Bool) : Type 0 where
  pub command : Command
  pub named : command_of (opcode e) ≡ Some command
  pub judged : io_judgement w k e marked window ≡ Ok tt

was-allowed : (v : Verdict) (tells : Bool) (k : ℕ) (e : List ℕ) (marked : Bool) (old new : Scene) (o : Outcome)
    → io_verdict old.world k e marked old.window ≡ v → VerdictRefuses v → ExecutesBy v tells k e old new o
    → is_success o.status ≡ true → WasAllowed old.world k e old.window marked
was-allowed (Denied number why) tells k e marked old new o is f h success =
    let failed : is_success o.status ≡ false = ap (λ (x : Outcome). is_success x.status) h.1 ∙ refused why f in
    absurd (cc (failed, success))
was-allowed (Allowed plan) tells k e marked old new o is f h success =
    let p = planned (io_judgement old.world k e marked old.window) (command_of (opcode e)) e plan is in
    record { command = plan.kind; named = p.named; judged = p.passed }

abbrev access : World → ℕ → List ℕ → Bool → Judgement
access w k e marked = first_failing (access_rules w k e marked)

abbrev acts : World → ℕ → List ℕ → List ℕ → Judgement
acts w k e sent = judgement_by (action_rule (reservation_outcome w k e sent))

pub record HasPassedAll (w : World) (k : ℕ) (e sent : List ℕ) (marked : Bool) : Type 0 where
  pub access : access w k e marked ≡ Ok tt
  pub acts : acts w k e sent ≡ Ok tt

passed-all : (w : World) (k : ℕ) (e window : List ℕ) (marked : Bool) → io_judgement w k e marked window ≡ Ok tt
    → HasPassedAll w k e (data_of window e) marked
unfolding io_judgement
passed-all w k e window marked h =
    let pointer = pointer_rule (data_length_of (command_of (opcode e)) e) window e in
    let action = action_rule (reservation_outcome w k e (data_of window e)) in
    let p = both (access w k e marked) _ (sym (first_failing-append (access_rules w k e marked)
    (pointer ∷ action ∷ [])) ∙ h) in
    let q = both (judgement_by pointer) _ p.1 in
    let r = both (judgement_by action) (Ok tt) q.1 in
    record { access = p.0; acts = r.0 }

not-marked : (w : World) (k : ℕ) (e : List ℕ) (marked : Bool) → access w k e marked ≡ Ok tt → marked ≡ false
unfolding mark_rule
not-marked w k e marked h = passed 1 marked _ (both (judgement_by (mark_rule marked)) _ h).0

pub no-fault : (o : Option DataFault) → o ≡ None → judgement_by (record { number = 10; tests = fault_tests o }) ≡ Ok tt
unfolding judgement_by
no-fault None h = refl
no-fault (Some f) h = absurd (cc (h))

passes-pointer : (window again : List ℕ) → ReachesData false window again
    → judgement_by (pointer_rule (data_length_of (command_of (opcode again)) again) window again) ≡ Ok tt
unfolding pointer_rule moved
passes-pointer window again h = no-fault _ h

passes-again : (w : World) (k : ℕ) (e again window : List ℕ) → access w k again false ≡ Ok tt
    → ReachesData false window again → acts w k again (data_of window again) ≡ Ok tt
    → io_judgement w k again false window ≡ Ok tt
unfolding io_judgement
passes-again w k e again window a p b =
    let pointer = pointer_rule (data_length_of (command_of (opcode again)) again) window again in
    let action = action_rule (reservation_outcome w k again (data_of window again)) in
    first_failing-append (access_rules w k again false) (pointer ∷ action ∷ [])
    ∙ ap (λ j. else_by j (first_failing (pointer ∷ action ∷ []))) a
    ∙ ap (λ j. else_by j (else_by (judgement_by action) (Ok tt))) (passes-pointer window again p)
    ∙ ap (λ j. else_by j (Ok tt)) b

-- A reservation command that is allowed succeeds.
succeeds : (command : Command) (tells : Bool) (k : ℕ) (e sent : List ℕ) (old new : Scene) (answer : Status)
    (returned : List ℕ) → is_one_of (Some command) reserving ≡ true
    → Performs tells command k e sent old new answer returned → is_success answer ≡ true
succeeds ReservationRegister tells k e sent old new answer returned is h = ap is_success h.answered
succeeds ReservationAcquire tells k e sent old new answer returned is h = ap is_success h.answered
succeeds ReservationRelease tells k e sent old new answer returned is h = ap is_success h.answered
succeeds command tells k e sent old new answer returned is h = absurd (cc (is))

executed-again : (command : Command) (tells : Bool) (k : ℕ) (e : List ℕ) (old new : Scene) (o : Outcome)
    → is_one_of (Some command) reserving ≡ true → command_of (opcode e) ≡ Some command
    → io_judgement old.world k e false old.window ≡ Ok tt
    → ExecutesBy (io_verdict old.world k e false old.window) tells k e old new o → is_success o.status ≡ true
executed-again command tells k e old new o is named judged h =
    let v : io_verdict old.world k e false old.window ≡ Allowed (plan_of command e) =
    ap (λ j. conclusion j (command_of (opcode e)) e) judged ∙ ap (λ c. conclusion (Ok tt) c e) named in
    let p = subst (λ v. ExecutesBy v tells k e old new o) v h in
    succeeds command tells k e (data_of old.window e) old new o.status p.returned is p.effect

-- the access state after a command that succeeded and lasts
abbrev pub after : World → ℕ → List ℕ → List ℕ → World
after w k e sent = world_after w (nsid e) (reservation_outcome w k e sent)

kept-world : (s : Status) (k : ℕ) (e sent : List ℕ) (w : World) → is_success s ≡ true → lasts false e ≡ true
    → carried_all (kept s k false e sent) w ≡ after w k e sent
kept-world s k e sent w success lasting =
    let yes : (is_success s && lasts false e) ≡ true = ap (λ b. b && lasts false e) success ∙ lasting in
    ap (λ (b : Bool). carried_all (if b then Kept k false e sent ∷ [] else []) w) yes

pub same-after : (w there : World) (k : ℕ) (e again sent read : List ℕ) → there ≡ w → IsSameCommand e again
    → read ≡ sent → after there k again read ≡ after w k e sent
same-after w there k e again sent read worlds h same =
    ap (λ x. world_after x (nsid again) (reservation_outcome x k again read)) worlds
    ∙ ap (λ d. world_after w (nsid again) (reservation_outcome w k again d)) same
    ∙ ap (λ n. world_after w n (reservation_outcome w k again sent)) h.nsid
    ∙ ap (world_after w (nsid e)) (same-outcome w k e again sent h)

-- the rules pass for it again
judged-again : (w there : World) (k : ℕ) (e again sent window : List ℕ) (marked : Bool)
    → HasPassedAll w k e sent marked → there ≡ w → IsSameCommand e again → ReachesData false window again
    → data_of window again ≡ sent → io_judgement there k again false window ≡ Ok tt
judged-again w there k e again sent window marked p worlds h reaches same =
    let unmarked = not-marked w k e marked p.access in
    let a : access there k again false ≡ Ok tt =
    ap (λ x. access x k again false) worlds ∙ ap first_failing (same-access w k e again false h)
    ∙ ap (access w k e) (sym unmarked) ∙ p.access in
    let b : acts there k again (data_of window again) ≡ Ok tt =
    ap (λ x. acts x k again (data_of window again)) worlds ∙ ap (acts w k again) same
    ∙ ap (λ o. judgement_by (action_rule o)) (same-outcome w k e again sent h) ∙ p.acts in
    passes-again there k e again window a reaches b

pub io_records_succeed_again : IoRecordsSucceedAgain
io_records_succeed_again tells k e marked old new o h success lasting tells_there again there left other
    worlds same reaches read done =
    let v = io_verdict old.world k e marked old.window in
    let was = was-allowed v tells k e marked old new o refl (verdict-refuses old.world k e marked old.window) h
    success in
    let reserving : is_one_of (Some was.command) reserving ≡ true = sym (lasts-so e was.command was.named) ∙ lasting in
    let named : command_of (opcode again) ≡ Some was.command = ap command_of same.opcode ∙ was.named in
    let lasting_again : lasts false again ≡ true = lasts-so again was.command named ∙ reserving in
    let judged = judged-again old.world there.world k e again (data_of old.window e) there.window marked
    (passed-all old.world k e old.window marked was.judged) worlds same reaches read in
    let good = executed-again was.command tells_there k again there left other reserving named judged done in
    record {
      succeeds = good;
      world = io_commands_are_kept tells_there k again false there left other done
          ∙ kept-world other.status k again (data_of there.window again) there.world good lasting_again
          ∙ same-after old.world there.world k e again _ _ worlds same read
          ∙ sym (kept-world o.status k e (data_of old.window e) old.world success lasting)
          ∙ sym (io_commands_are_kept tells k e marked old new o h);
    }
