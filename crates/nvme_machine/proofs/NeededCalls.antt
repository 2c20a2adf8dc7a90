-- For `laws.rt`: which of the needed calls were made, by the answer.
use Rattle.std.proofs.Common.{
  ◌≡◌,
  ◌≢◌,
  ◌⊎◌,
  inl,
  inr,
  ℕ,
  ◌+◌,
  ◌==◌,
  not,
  Bool,
  true,
  false,
  List,
  [],
  ◌∷◌,
  Option,
  None,
  Some,
  Ok,
  Err,
  refl,
  sym,
  ap,
  subst,
  ◌∙◌,
  arith,
}
use Rattle.std.specs.Prelude.{slice_get, if◌then◌else◌}
use Rattle.std.proofs.lemmas.Bool.{false≢true}
use Rattle.nvme_wire.specs.Submission.{opcode, nsid}
use Rattle.nvme_wire.specs.declared.status.Status.{Status}
use Rattle.nvme_spec.specs.declared.command.AdminCommand.{AdminCommand}
use Rattle.nvme_spec.specs.declared.command.Command.{Command}
use Rattle.nvme_spec.specs.declared.command.Command.TheVariants.{
  Flush,
  Write,
  Read,
  Compare,
  WriteZeroes,
  ReservationRegister,
  ReservationReport,
  ReservationAcquire,
  ReservationRelease,
}
use Rattle.nvme_spec.specs.declared.outcome.Outcome.{Outcome}
use Rattle.nvme_spec.specs.declared.queues.Queues.{Queues}
use Rattle.nvme_spec.specs.AdminCommands as admin
use Rattle.nvme_spec.specs.AdminEffects.{admin_execution, execution_by}
use Rattle.nvme_spec.specs.AdminRules.{admin_judgement}
use Rattle.nvme_spec.specs.BlockCommands.{ComparesUpTo, answer_of}
use Rattle.nvme_spec.specs.CommandCalls.{AreCallsOf, AreCallsBy}
use Rattle.nvme_spec.specs.Commands.{block_count, command_of, plan_of}
use Rattle.nvme_spec.specs.Execution.{Scene, ExecutesBy, Performs, start_of, medium_block}
use Rattle.nvme_spec.specs.IoData.{io_judgement, data_of}
use Rattle.nvme_spec.specs.IoRules.{conclusion, verdict}
use Rattle.nvme_spec.specs.MediumCalls.{
  MediumAnswer,
  MediumCall,
  Flushes,
  EndsAt,
  course,
  passing,
  reads_from,
  writes_from,
}
use Rattle.nvme_spec.specs.Rules.{Judgement}
use Rattle.nvme_spec.specs.Statuses as status
use Rattle.nvme_spec.specs.StatusLaws.{IsAmong, is_same, denials}
use Rattle.nvme_spec.specs.World.{World, namespace_of}
use Rattle.nvme_spec.proofs.AdminDenials.{admin-refuses}
use Rattle.nvme_spec.proofs.Denials.{JudgementRefuses, VerdictRefuses, verdict-refuses}
use Rattle.nvme_spec.proofs.StatusLaws.{of-each}
use Rattle.nvme_machine.specs.declared.fetched.FetchedCommand.{FetchedCommand}
use Rattle.nvme_machine.specs.declared.need.Need.{Need}
use Rattle.nvme_machine.specs.declared.need.Need.TheVariants as need
use Rattle.nvme_machine.specs.declared.seen.Executed.TheVariants.{Posted}
use Rattle.nvme_machine.specs.declared.seen.Seen.TheVariants.{Executed}
use Rattle.nvme_machine.specs.Calling.{AreCallsAs, AreCallsOfExecution}
use Rattle.nvme_machine.specs.CommandExecutions.{CommandExecution, CommandComesTo, CommandComesToAs}
use Rattle.nvme_machine.specs.Controllers.{Controller, QueuePair, queues_of, open_pair}
use Rattle.nvme_machine.specs.EventCalls.{CallingOver, CallingOne, CallingAt}
use Rattle.nvme_machine.specs.NeededCalls.{
  AreWhole,
  StopWriting,
  StopReading,
  StopComparing,
  OfEachAnswer,
  SuccessIsWhole,
  WriteFaultNamesTheFront,
  ReadErrorNamesTheFront,
  CompareFailureNamesTheFront,
  OtherAnswersCallNothing,
  DenialCallsNothing,
  sent_of_its,
  sent_of_one,
  zero_blocks,
}
use Rattle.nvme_machine.specs.Needs.{need_by, need_in, need_of, need_of_one, need_of_its}
use Rattle.nvme_machine.specs.Subsystems.{Subsystem, controller_at, scene_of}
use Rattle.nvme_machine.proofs.Needs.{front-passes}

-- What an answer implies for the calls, in one record.
record Settles (n : Need) (sent : List ℕ) (o : Outcome) (calls : List MediumCall) : Type 0 where
  success : o.status ≡ status.successful_completion → AreWhole n sent calls
  write_fault : o.status ≡ status.write_fault → StopWriting n sent calls
  read_error : o.status ≡ status.unrecovered_read_error → StopReading n calls
  compare_failure : o.status ≡ status.compare_failure → StopComparing n calls
  other : o.status ≢ status.successful_completion → o.status ≢ status.write_fault
      → o.status ≢ status.unrecovered_read_error → o.status ≢ status.compare_failure → calls ≡ []
  denial : o.rule ≢ 0 → calls ≡ []

-- Equal statuses have equal parts.

same-type : (x y : Status) → x ≡ y → x.sct ≡ y.sct
same-type x y h = ap (λ (s : Status). s.sct) h

same-code : (x y : Status) → x ≡ y → x.sc ≡ y.sc
same-code x y h = ap (λ (s : Status). s.sc) h

-- One answer at a time: the others have another status.

whole : (n : Need) (sent : List ℕ) (o : Outcome) (calls : List MediumCall) → o.status ≡ status.successful_completion
    → o.rule ≡ 0 → AreWhole n sent calls → Settles n sent o calls
whole n sent o calls is allowed h = record {
  success = λ s. h;
  write_fault = λ s. (let no : 0 ≡ 2 = same-type _ _ (sym is ∙ s) in absurd (omega (arith, no)));
  read_error = λ s. (let no : 0 ≡ 2 = same-type _ _ (sym is ∙ s) in absurd (omega (arith, no)));
  compare_failure = λ s. (let no : 0 ≡ 2 = same-type _ _ (sym is ∙ s) in absurd (omega (arith, no)));
  other = λ a b c d. absurd (a is);
  denial = λ r. absurd (r allowed);
}

writing : (n : Need) (sent : List ℕ) (o : Outcome) (calls : List MediumCall)
    → o.status ≡ status.write_fault → o.rule ≡ 0 → StopWriting n sent calls → Settles n sent o calls
writing n sent o calls is allowed h = record {
  success = λ s. (let no : 2 ≡ 0 = same-type _ _ (sym is ∙ s) in absurd (omega (arith, no)));
  write_fault = λ s. h;
  read_error = λ s. (let no : 0x80 ≡ 0x81 = same-code _ _ (sym is ∙ s) in absurd (omega (arith, no)));
  compare_failure = λ s. (let no : 0x80 ≡ 0x85 = same-code _ _ (sym is ∙ s) in absurd (omega (arith, no)));
  other = λ a b c d. absurd (b is);
  denial = λ r. absurd (r allowed);
}

reading : (n : Need) (sent : List ℕ) (o : Outcome) (calls : List MediumCall) → o.status ≡ status.unrecovered_read_error
    → o.rule ≡ 0 → StopReading n calls → Settles n sent o calls
reading n sent o calls is allowed h = record {
  success = λ s. (let no : 2 ≡ 0 = same-type _ _ (sym is ∙ s) in absurd (omega (arith, no)));
  write_fault = λ s. (let no : 0x81 ≡ 0x80 = same-code _ _ (sym is ∙ s) in absurd (omega (arith, no)));
  read_error = λ s. h;
  compare_failure = λ s. (let no : 0x81 ≡ 0x85 = same-code _ _ (sym is ∙ s) in absurd (omega (arith, no)));
  other = λ a b c d. absurd (c is);
  denial = λ r. absurd (r allowed);
}

comparing : (n : Need) (sent : List ℕ) (o : Outcome) (calls : List MediumCall) → o.status ≡ status.compare_failure
    → o.rule ≡ 0 → StopComparing n calls → Settles n sent o calls
comparing n sent o calls is allowed h = record {
  success = λ s. (let no : 2 ≡ 0 = same-type _ _ (sym is ∙ s) in absurd (omega (arith, no)));
  write_fault = λ s. (let no : 0x85 ≡ 0x80 = same-code _ _ (sym is ∙ s) in absurd (omega (arith, no)));
  read_error = λ s. (let no : 0x85 ≡ 0x81 = same-code _ _ (sym is ∙ s) in absurd (omega (arith, no)));
  compare_failure = λ s. h;
  other = λ a b c d. absurd (d is);
  denial = λ r. absurd (r allowed);
}

-- Denied commands: their statuses are not those of an execution.

abbrev Refuses : Status → Type 0
Refuses = IsAmong denials

no-success : (s : Status) → Refuses s → s ≡ status.successful_completion → ⊥
no-success s h is = false≢true (of-each
    (λ x. not (is_same x status.successful_completion)) denials status.successful_completion refl (subst Refuses is h))

no-write : (s : Status) → Refuses s → s ≡ status.write_fault → ⊥
no-write s h is =
    false≢true (of-each (λ x. not (is_same x status.write_fault)) denials status.write_fault refl (subst Refuses is h))

no-read : (s : Status) → Refuses s → s ≡ status.unrecovered_read_error → ⊥
no-read s h is = false≢true (of-each (λ x. not (is_same x status.unrecovered_read_error)) denials
    status.unrecovered_read_error refl (subst Refuses is h))

no-compare : (s : Status) → Refuses s → s ≡ status.compare_failure → ⊥
no-compare s h is = false≢true
    (of-each (λ x. not (is_same x status.compare_failure)) denials status.compare_failure refl (subst Refuses is h))

denied : (n : Need) (sent : List ℕ) (o : Outcome) (calls : List MediumCall)
    → Refuses o.status → calls ≡ [] → Settles n sent o calls
denied n sent o calls h none = record {
  success = λ s. absurd (no-success o.status h s);
  write_fault = λ s. absurd (no-write o.status h s);
  read_error = λ s. absurd (no-read o.status h s);
  compare_failure = λ s. absurd (no-compare o.status h s);
  other = λ a b c d. none;
  denial = λ r. none;
}

-- An allowed I/O command, by its kind.

abbrev need_as : Command → World → List ℕ → Need
need_as kind w e = need_by kind (start_of (namespace_of w (nsid e)) + (plan_of kind e).first) (plan_of kind e).blocks

flush-tells : (sent : List ℕ) (o : Outcome) (calls : List MediumCall) (answer : MediumAnswer)
    → o.status ≡ answer_of answer status.write_fault → o.rule ≡ 0 → calls ≡ Flushes answer ∷ []
    → Settles need.Flush sent o calls
flush-tells sent o calls (Ok u) is allowed are = whole need.Flush sent o calls is allowed are
flush-tells sent o calls (Err fault) is allowed are = writing need.Flush sent o calls is allowed (fault, are)

write-tells : (sent : List ℕ) (first blocks passed : ℕ) (o : Outcome) (calls : List MediumCall) (answer : MediumAnswer)
    → EndsAt blocks passed answer → o.status ≡ answer_of answer status.write_fault → o.rule ≡ 0
    → calls ≡ course (writes_from first sent) passed answer → Settles (need.Write first blocks) sent o calls
write-tells sent first blocks passed o calls (Ok u) ends is allowed are =
    whole _ sent o calls is allowed (are ∙ ap (passing (writes_from first sent)) ends)
write-tells sent first blocks passed o calls (Err fault) ends is allowed are =
    writing _ sent o calls is allowed (record { passed = passed; below = ends; fault = fault; are = are })

zero-tells : (sent : List ℕ) (first blocks passed : ℕ) (o : Outcome) (calls : List MediumCall) (answer : MediumAnswer)
    → EndsAt blocks passed answer → o.status ≡ answer_of answer status.write_fault → o.rule ≡ 0
    → calls ≡ course (writes_from first (zero_blocks blocks)) passed answer
    → Settles (need.Zero first blocks) sent o calls
zero-tells sent first blocks passed o calls (Ok u) ends is allowed are =
    whole _ sent o calls is allowed (are ∙ ap (passing (writes_from first (zero_blocks blocks))) ends)
zero-tells sent first blocks passed o calls (Err fault) ends is allowed are =
    writing _ sent o calls is allowed (record { passed = passed; below = ends; fault = fault; are = are })

read-tells :
    (sent read : List ℕ) (first blocks passed : ℕ) (o : Outcome) (calls : List MediumCall) (answer : MediumAnswer)
    → EndsAt blocks passed answer → o.status ≡ answer_of answer status.unrecovered_read_error → o.rule ≡ 0
    → calls ≡ course (reads_from first read) passed answer → Settles (need.Read first blocks) sent o calls
read-tells sent read first blocks passed o calls (Ok u) ends is allowed are =
    whole _ sent o calls is allowed (read, are ∙ ap (passing (reads_from first read)) ends)
read-tells sent read first blocks passed o calls (Err fault) ends is allowed are =
    reading _ sent o calls is allowed (read, record { passed = passed; below = ends; fault = fault; are = are })

compare-tells : (sent bytes read : List ℕ) (first blocks passed : ℕ) (o : Outcome) (calls : List MediumCall)
    (answer : MediumAnswer) → ComparesUpTo blocks bytes passed read answer o.status → o.rule ≡ 0
    → calls ≡ course (reads_from first read) passed answer → Settles (need.Read first blocks) sent o calls
compare-tells sent bytes read first blocks passed o calls (Ok u) (inl h) allowed are =
    whole _ sent o calls h.2 allowed (read, are ∙ ap (passing (reads_from first read)) h.0)
compare-tells sent bytes read first blocks passed o calls (Ok u) (inr h) allowed are =
    let differs = h.1 in
    comparing _ sent o calls h.2 allowed
    (record { read = read; passed = passed; some = omega (arith, differs.last); within = h.0; are = are })
compare-tells sent bytes read first blocks passed o calls (Err fault) h allowed are =
    reading _ sent o calls h.2 allowed (read, record { passed = passed; below = h.0; fault = fault; are = are })

of-command : (kind : Command) (tells : Bool) (k : ℕ) (e sent returned : List ℕ) (old new : Scene)
    (stored : ℕ → List ℕ → Type 0) (o : Outcome) (calls : List MediumCall)
    → Performs tells kind k e sent old new o.status returned → o.rule ≡ 0
    → AreCallsOf kind (medium_block old.world e) (block_count e) sent stored o.status calls
    → Settles (need_as kind old.world e) sent o calls
of-command Flush tells k e sent returned old new stored o calls performed allowed h =
    flush-tells sent o calls h.answer h.reached allowed h.are
of-command Write tells k e sent returned old new stored o calls performed allowed h =
    write-tells sent _ _ h.passed o calls h.answer h.reached.0 h.reached.1 allowed h.are
of-command WriteZeroes tells k e sent returned old new stored o calls performed allowed h =
    zero-tells sent _ _ h.passed o calls h.answer h.reached.0 h.reached.1 allowed h.are
of-command Read tells k e sent returned old new stored o calls performed allowed h =
    read-tells sent h.read _ _ h.passed o calls h.answer h.reached.0 h.reached.1 allowed h.are
of-command Compare tells k e sent returned old new stored o calls performed allowed h =
    compare-tells sent sent h.read _ _ h.passed o calls h.answer h.reached allowed h.are
of-command ReservationRegister tells k e sent returned old new stored o calls performed allowed h =
    whole need.Nothing sent o calls performed.answered allowed h.are
of-command ReservationReport tells k e sent returned old new stored o calls performed allowed h =
    whole need.Nothing sent o calls performed.answered allowed h.are
of-command ReservationAcquire tells k e sent returned old new stored o calls performed allowed h =
    whole need.Nothing sent o calls performed.answered allowed h.are
of-command ReservationRelease tells k e sent returned old new stored o calls performed allowed h =
    whole need.Nothing sent o calls performed.answered allowed h.are

-- Each command, by the verdict of the rules.

admin-status : (s : Scene) (j : Judgement) (o : Option AdminCommand) (k : ℕ) (e : List ℕ) → JudgementRefuses j
    → Refuses (execution_by j o s.world k e s.window).status
    ⊎ (((execution_by j o s.world k e s.window).status ≡ status.successful_completion)
    × ((execution_by j o s.world k e s.window).rule ≡ 0))
admin-status s (Err d) o k e h = inl h
admin-status s (Ok u) None k e h = inl refl
admin-status s (Ok u) (Some command) k e h = inr (refl, refl)

admin-tells : (sent : List ℕ) (o : Outcome) (calls : List MediumCall)
    → Refuses o.status ⊎ ((o.status ≡ status.successful_completion) × (o.rule ≡ 0)) → calls ≡ []
    → Settles need.Nothing sent o calls
admin-tells sent o calls (inl h) none = denied need.Nothing sent o calls h none
admin-tells sent o calls (inr h) none = whole need.Nothing sent o calls h.0 h.1 none

need-admin : (w : World) (k : ℕ) (t : FetchedCommand) → (t.queue == 0) ≡ true → need_of w k t ≡ need.Nothing
unfolding need_of
need-admin w k t io =
    ap (λ b. if b then need.Nothing else need_in (verdict w k t.entry t.marked) (namespace_of w (nsid t.entry))) io

need-passed : (w : World) (k : ℕ) (t : FetchedCommand) (window : List ℕ)
    → (t.queue == 0) ≡ false → io_judgement w k t.entry t.marked window ≡ Ok tt
    → need_of w k t ≡ need_in (conclusion (Ok tt) (command_of (opcode t.entry)) t.entry) (namespace_of w (nsid t.entry))
unfolding need_of verdict
need-passed w k t window io h =
    ap (λ b. if b then need.Nothing else need_in (verdict w k t.entry t.marked) (namespace_of w (nsid t.entry))) io
    ∙ ap (λ j. need_in (conclusion j (command_of (opcode t.entry)) t.entry) (namespace_of w (nsid t.entry)))
    (front-passes w k t.entry t.marked window h)

module _ (tells : Bool) (k : ℕ) (t : FetchedCommand) (s : Scene) (a : CommandExecution) (calls : List MediumCall) where
  by-command : (command : Option Command) → VerdictRefuses (conclusion (Ok tt) command t.entry)
      → ExecutesBy (conclusion (Ok tt) command t.entry) tells k t.entry s a.left a.outcome
      → AreCallsBy (conclusion (Ok tt) command t.entry) s.world s.window t.entry a.outcome.status a.left.window calls
      → Settles (need_in (conclusion (Ok tt) command t.entry) (namespace_of s.world (nsid t.entry)))
      (data_of s.window t.entry) a.outcome calls
  by-command None refuses does are =
      denied need.Nothing _ a.outcome calls (subst Refuses (sym (ap (λ (o : Outcome). o.status) does.1)) refuses) are
  by-command (Some kind) refuses does are = of-command kind tells k t.entry
      (data_of s.window t.entry) does.returned s a.left _ a.outcome calls does.effect does.rule are

  by-judgement : (j : Judgement) → io_judgement s.world k t.entry t.marked s.window ≡ j → (t.queue == 0) ≡ false
      → VerdictRefuses (conclusion j (command_of (opcode t.entry)) t.entry)
      → ExecutesBy (conclusion j (command_of (opcode t.entry)) t.entry) tells k t.entry s a.left a.outcome
      → AreCallsBy (conclusion j (command_of (opcode t.entry)) t.entry) s.world s.window t.entry a.outcome.status
      a.left.window calls
      → Settles (need_of s.world k t) (data_of s.window t.entry) a.outcome calls
  by-judgement (Err denial) is io refuses does are = denied (need_of s.world k t) _ a.outcome calls
      (subst Refuses (sym (ap (λ (o : Outcome). o.status) does.1)) refuses) are
  by-judgement (Ok tt) is io refuses does are =
      subst (λ n. Settles n (data_of s.window t.entry) a.outcome calls) (sym (need-passed s.world k t s.window io is))
      (by-command (command_of (opcode t.entry)) refuses does are)

  by-queue : (queues : Queues) (from_admin : Bool) → (t.queue == 0) ≡ from_admin
      → CommandComesToAs from_admin tells queues k t s a → AreCallsAs from_admin k t s a calls
      → Settles (need_of s.world k t) (data_of s.window t.entry) a.outcome calls
  unfolding admin_execution
  by-queue queues true io comes are =
      let judged = admin_judgement s.world queues k t.entry s.window in
      subst (λ n. Settles n (data_of s.window t.entry) a.outcome calls) (sym (need-admin s.world k t io))
      (admin-tells (data_of s.window t.entry) a.outcome calls
      (subst (λ (x : CommandExecution).
      Refuses x.outcome.status ⊎ ((x.outcome.status ≡ status.successful_completion) × (x.outcome.rule ≡ 0))) (sym comes)
      (admin-status s judged (admin.command_of (opcode t.entry)) k t.entry
      (admin-refuses s.world queues k t.entry s.window))) are)
  by-queue queues false io comes are =
      by-judgement (io_judgement s.world k t.entry t.marked s.window) refl io
      (verdict-refuses s.world k t.entry t.marked s.window) comes.1 are

-- From the step to its command.

posted-one : (x y : Outcome) → Executed (Posted x) ≡ Executed (Posted y) → x ≡ y
posted-one x y h = cc

module _ (tells : Bool) (old new : Subsystem) (k i : ℕ) (outcome : Outcome) (calls : List MediumCall) where
  of-over : (c : Controller) (t : FetchedCommand) (o : Option QueuePair)
      → CallingOver o tells old k c i t (Executed (Posted outcome)) new calls
      → Settles (need_of old.world k t) (data_of c.window t.entry) outcome calls
  unfolding AreCallsOfExecution CommandComesTo
  of-over c t None h = let no = h.0 in absurd (cc)
  of-over c t (Some p) h =
      let a = h.completes.execution in
      subst (λ x. Settles (need_of old.world k t) (data_of c.window t.entry) x calls)
      (sym (posted-one outcome a.outcome h.completes.gives))
      (by-queue tells k t (scene_of old c) a calls (queues_of c) (t.queue == 0) refl h.completes.comes_to h.are)

  of-one : (c : Controller) (o : Option FetchedCommand)
      → CallingOne o tells old k c i (Executed (Posted outcome)) new calls
      → Settles (need_of_one old.world k o) (sent_of_one c.window o) outcome calls
  of-one c None h = let no = h.0 in absurd (cc)
  of-one c (Some t) h = of-over c t (open_pair c t) h

  of-its : (o : Option Controller) → CallingAt o tells old k i (Executed (Posted outcome)) new calls
      → Settles (need_of_its old.world k i o) (sent_of_its i o) outcome calls
  of-its None h = let no = h.0 in absurd (cc)
  of-its (Some c) h = of-one c (slice_get c.fetched i) h

tells_calls : OfEachAnswer Settles
tells_calls tells old new k i outcome calls made = of-its tells old new k i outcome calls (controller_at old k) made

pub success_is_whole : SuccessIsWhole
success_is_whole tells old new k i outcome calls made = (tells_calls tells old new k i outcome calls made).success

pub write_fault_names_the_front : WriteFaultNamesTheFront
write_fault_names_the_front tells old new k i outcome calls made =
    (tells_calls tells old new k i outcome calls made).write_fault

pub read_error_names_the_front : ReadErrorNamesTheFront
read_error_names_the_front tells old new k i outcome calls made =
    (tells_calls tells old new k i outcome calls made).read_error

pub compare_failure_names_the_front : CompareFailureNamesTheFront
compare_failure_names_the_front tells old new k i outcome calls made =
    (tells_calls tells old new k i outcome calls made).compare_failure

pub other_answers_call_nothing : OtherAnswersCallNothing
other_answers_call_nothing tells old new k i outcome calls made =
    (tells_calls tells old new k i outcome calls made).other

pub denial_calls_nothing : DenialCallsNothing
denial_calls_nothing tells old new k i outcome calls made = (tells_calls tells old new k i outcome calls made).denial
