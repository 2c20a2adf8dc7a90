-- For the answer of `admit` and for `Judging`: the verdict of all rules, by that of the rules on access and by the
-- data.
use Rattle.std.proofs.Common.{
  ◌≡◌,
  ℕ,
  ◌*◌,
  ◌≤◌,
  Bool,
  true,
  false,
  ◌||◌,
  ◌==◌,
  nat_lt,
  List,
  [],
  ◌∷◌,
  Option,
  None,
  Some,
  Ok,
  Err,
  refl,
  sym,
  ap,
  ◌∙◌,
  arith,
}
use Rattle.std.specs.Prelude.{if◌then◌else◌}
use Rattle.std.specs.List.{AllByRecursion}
use Rattle.std.proofs.lemmas.Bool.Decides.{nat_tests}
use Rattle.nvme_wire.specs.Submission.{opcode, nsid}
use Rattle.nvme_wire.specs.declared.status.Status.{Status}
use Rattle.nvme_spec.specs.Limits.{most_bytes}
use Rattle.nvme_spec.specs.declared.command.Command.{Command}
use Rattle.nvme_spec.specs.declared.command.Command.TheVariants.{
  Write,
  Read,
  Compare,
  ReservationReport,
  ReservationAcquire,
}
use Rattle.nvme_spec.specs.declared.verdict.Denial.{Denial}
use Rattle.nvme_spec.specs.declared.verdict.Plan.{Plan}
use Rattle.nvme_spec.specs.declared.verdict.Verdict.TheVariants.{Allowed, Denied}
use Rattle.nvme_spec.specs.Reservation as resv
use Rattle.nvme_spec.specs.World.{World, host_of, namespace_of}
use Rattle.nvme_spec.specs.Commands.{
  command_of,
  data_length,
  data_length_of,
  plan_of,
  block_count,
  report_length,
  rtype,
  action,
  iekey,
}
use Rattle.nvme_spec.specs.Rules.{Rule, Test, Judgement, denial_by, judgement_by, else_by, first_failing, first_failure}
use Rattle.nvme_spec.specs.IoRules.{field_rule, access_rules, conclusion, verdict}
use Rattle.nvme_spec.specs.DataRules.{pointer_rule, data_fault, fault_tests}
use Rattle.nvme_spec.specs.IoData.{
  action_rule,
  outcome_tests,
  data_of,
  outcome_in,
  reservation_outcome,
  io_judgement,
  io_verdict,
}
use Rattle.nvme_spec.proofs.Judgements.{first_failing-append}
use Rattle.nvme_exec.specs.Carrying.{IsUnrefused}

-- the rules on the data
abbrev data_rules : ℕ → Option resv.ActionOutcome → List ℕ → List ℕ → List Rule
data_rules bytes outcome window e = pointer_rule bytes window e ∷ action_rule outcome ∷ []

-- the outcome of a command for its reservation
abbrev outcome_now : Option Command → World → ℕ → List ℕ → List ℕ → Option resv.ActionOutcome
outcome_now command w cntlid window e =
    outcome_in command (namespace_of w (nsid e)) (host_of w cntlid) e (data_of window e)

judged : (w : World) (cntlid : ℕ) (e : List ℕ) (marked : Bool) (window : List ℕ)
    → io_verdict w cntlid e marked window
    ≡ conclusion (else_by (first_failing (access_rules w cntlid e marked))
    (first_failing (data_rules (data_length_of (command_of (opcode e)) e)
    (outcome_now (command_of (opcode e)) w cntlid window e) window e)))
    (command_of (opcode e)) e
unfolding io_judgement reservation_outcome
judged w cntlid e marked window =
    ap (λ j. conclusion j (command_of (opcode e)) e)
    (first_failing-append (access_rules w cntlid e marked)
    (data_rules (data_length_of (command_of (opcode e)) e)
    (outcome_now (command_of (opcode e)) w cntlid window e) window e))

denied-still : (j : Judgement) (command : Option Command) (w : World) (cntlid : ℕ) (window e : List ℕ) (rule : ℕ)
    (status : Status)
    → conclusion j command e ≡ Denied rule status
    → conclusion
    (else_by j (first_failing (data_rules (data_length_of command e) (outcome_now command w cntlid window e) window e)))
    command e ≡ Denied rule status
unfolding judgement_by pointer_rule action_rule
denied-still (Err d) command w cntlid window e rule status h = h
denied-still (Ok u) None w cntlid window e rule status h = h
denied-still (Ok u) (Some command) w cntlid window e rule status h = absurd (cc)

-- a denial by a rule on access is the verdict
pub denied : (w : World) (cntlid : ℕ) (e : List ℕ) (marked : Bool) (window : List ℕ) (rule : ℕ) (status : Status)
    → verdict w cntlid e marked ≡ Denied rule status → io_verdict w cntlid e marked window ≡ Denied rule status
unfolding verdict
denied w cntlid e marked window rule status h =
    judged w cntlid e marked window
    ∙ denied-still (first_failing (access_rules w cntlid e marked))
    (command_of (opcode e)) w cntlid window e rule status h

-- the properties of an allowed plan
pub record IsPlanned (j : Judgement) (command : Option Command) (e : List ℕ) (plan : Plan) : Type 0 where
  pub passed : j ≡ Ok tt
  pub named : command ≡ Some plan.kind
  pub plan_is : plan ≡ plan_of plan.kind e

planned : (j : Judgement) (command : Option Command) (e : List ℕ) (plan : Plan) → conclusion j command e ≡ Allowed plan
    → IsPlanned j command e plan
planned (Err d) command e plan h = absurd (cc)
planned (Ok tt) None e plan h = absurd (cc)
planned (Ok tt) (Some command) e plan h =
    let same : plan_of command e ≡ plan = cc in
    let kind : command ≡ plan.kind = ap (λ (p : Plan). p.kind) same in
    record { passed = refl; named = ap Some kind; plan_is = sym same ∙ ap (λ k. plan_of k e) kind }

pub planned-by : (w : World) (cntlid : ℕ) (e : List ℕ) (marked : Bool) (plan : Plan)
    → verdict w cntlid e marked ≡ Allowed plan
    → IsPlanned (first_failing (access_rules w cntlid e marked)) (command_of (opcode e)) e plan
unfolding verdict
planned-by w cntlid e marked plan h = planned _ _ e plan h

-- the data decide about a plan
decided : (w : World) (cntlid : ℕ) (e : List ℕ) (marked : Bool) (window : List ℕ) (plan : Plan)
    → verdict w cntlid e marked ≡ Allowed plan
    → io_verdict w cntlid e marked window
    ≡ conclusion (first_failing
    (data_rules (data_length plan.kind e) (outcome_now (command_of (opcode e)) w cntlid window e) window e))
    (Some plan.kind) e
decided w cntlid e marked window plan h =
    let p = planned-by w cntlid e marked plan h in
    let outcome = outcome_now (command_of (opcode e)) w cntlid window e in
    judged w cntlid e marked window
    ∙ ap (λ j.
    conclusion (else_by j (first_failing (data_rules (data_length_of (command_of (opcode e)) e) outcome window e)))
    (command_of (opcode e)) e) p.passed
    ∙ ap (λ c. conclusion (first_failing (data_rules (data_length_of c e) outcome window e)) c e) p.named

pointer-fails : (bytes : ℕ) (command : Command) (outcome : Option resv.ActionOutcome) (window e : List ℕ) (d : Denial)
    → judgement_by (pointer_rule bytes window e) ≡ Err d
    → conclusion (first_failing (data_rules bytes outcome window e)) (Some command) e ≡ Denied d.rule d.status
pointer-fails bytes command outcome window e d h =
    ap (λ j. conclusion (else_by j (first_failing (action_rule outcome ∷ []))) (Some command) e) h

-- a data pointer that has a fault denies
pub pointer-denied : (w : World) (cntlid : ℕ) (e : List ℕ) (marked : Bool) (window : List ℕ) (plan : Plan) (d : Denial)
    → verdict w cntlid e marked ≡ Allowed plan
    → judgement_by (pointer_rule plan.bytes window e) ≡ Err d
    → io_verdict w cntlid e marked window ≡ Denied d.rule d.status
pointer-denied w cntlid e marked window plan d h f =
    let bytes : plan.bytes ≡ data_length plan.kind e =
    ap (λ (p : Plan). p.bytes) (planned-by w cntlid e marked plan h).plan_is in
    decided w cntlid e marked window plan h
    ∙ pointer-fails (data_length plan.kind e) plan.kind _ window e d (rw bytes at f)

data-sound : (bytes : ℕ) (command : Command) (window e : List ℕ) (now outcome : Option resv.ActionOutcome)
    → data_fault bytes window e ≡ None → now ≡ outcome
    → conclusion (first_failing (data_rules bytes now window e)) (Some command) e
    ≡ conclusion (else_by (denial_by 11 (first_failure (outcome_tests outcome))) (Ok tt)) (Some command) e
unfolding judgement_by pointer_rule action_rule
data-sound bytes command window e now outcome h o =
    ap (λ f. conclusion (else_by (denial_by 10 (first_failure (fault_tests f))) (first_failing (action_rule now ∷ [])))
    (Some command) e) h
    ∙ ap (λ r. conclusion (else_by (denial_by 11 (first_failure (outcome_tests r))) (Ok tt)) (Some command) e) o

sound-by : (w : World) (cntlid : ℕ) (e : List ℕ) (marked : Bool) (window : List ℕ) (plan : Plan)
    (outcome : Option resv.ActionOutcome) → verdict w cntlid e marked ≡ Allowed plan
    → data_fault (data_length plan.kind e) window e ≡ None → reservation_outcome w cntlid e (data_of window e) ≡ outcome
    → io_verdict w cntlid e marked window
    ≡ conclusion (else_by (denial_by 11 (first_failure (outcome_tests outcome))) (Ok tt)) (Some plan.kind) e
unfolding reservation_outcome
sound-by w cntlid e marked window plan outcome h f o =
    decided w cntlid e marked window plan h ∙ data-sound (data_length plan.kind e) plan.kind window e _ outcome f o

-- a reservation that refuses the action denies
pub action-denied : (w : World) (cntlid : ℕ) (e : List ℕ) (marked : Bool) (window : List ℕ) (plan : Plan)
    (refusal : Status) → verdict w cntlid e marked ≡ Allowed plan
    → data_fault (data_length plan.kind e) window e ≡ None
    → reservation_outcome w cntlid e (data_of window e) ≡ Some (Err refusal)
    → io_verdict w cntlid e marked window ≡ Denied 11 refusal
action-denied w cntlid e marked window plan refusal h f o =
    sound-by w cntlid e marked window plan (Some (Err refusal)) h f o

passes : (plan : Plan) (e : List ℕ) (outcome : Option resv.ActionOutcome) → IsUnrefused outcome
    → conclusion (else_by (denial_by 11 (first_failure (outcome_tests outcome))) (Ok tt)) (Some plan.kind) e
    ≡ Allowed (plan_of plan.kind e)
passes plan e None h = refl
passes plan e (Some (Ok t)) h = refl
passes plan e (Some (Err why)) h = absurd (cc (h))

-- otherwise the command is allowed
pub allowed : (w : World) (cntlid : ℕ) (e : List ℕ) (marked : Bool) (window : List ℕ) (plan : Plan)
    → verdict w cntlid e marked ≡ Allowed plan
    → data_fault (data_length plan.kind e) window e ≡ None
    → IsUnrefused (reservation_outcome w cntlid e (data_of window e))
    → io_verdict w cntlid e marked window ≡ Allowed plan
allowed w cntlid e marked window plan h f unrefused =
    sound-by w cntlid e marked window plan (reservation_outcome w cntlid e (data_of window e)) h f refl
    ∙ passes plan e (reservation_outcome w cntlid e (data_of window e)) unrefused
    ∙ ap Allowed (sym (planned-by w cntlid e marked plan h).plan_is)

-- Fields that the rules let pass.

ok-both : (a b : Judgement) → else_by a b ≡ Ok tt → (a ≡ Ok tt) × (b ≡ Ok tt)
ok-both (Ok u) b h = (refl, h)
ok-both (Err d) b h = absurd (cc)

all-pass : (rs : List Rule) → first_failing rs ≡ Ok tt → AllByRecursion (λ r. judgement_by r ≡ Ok tt) rs
all-pass [] h = tt
all-pass (r ∷ rs) h = let p = ok-both (judgement_by r) (first_failing rs) h in (p.0, all-pass rs p.1)

passes-on : (b : Bool) (why : Status) (later : Option Status) → (if b then Some why else later) ≡ None
    → (b ≡ false) × (later ≡ None)
passes-on true why later h = absurd (cc)
passes-on false why later h = (refl, h)

all-tests-pass : (ts : List Test) → first_failure ts ≡ None → AllByRecursion (λ (t : Test). t.fails ≡ false) ts
all-tests-pass [] h = tt
all-tests-pass (t ∷ ts) h = let p = passes-on t.fails t.status (first_failure ts) h in (p.0, all-tests-pass ts p.1)

no-failure : (number : ℕ) (o : Option Status) → denial_by number o ≡ Ok tt → o ≡ None
no-failure number None h = refl
no-failure number (Some why) h = absurd (cc)

-- the tests of the rule on fields
pub fields-pass : (w : World) (cntlid : ℕ) (e : List ℕ) (marked : Bool) (plan : Plan)
    → verdict w cntlid e marked ≡ Allowed plan
    → AllByRecursion (λ (t : Test). t.fails ≡ false) (field_rule (Some plan.kind) e).tests
unfolding judgement_by
fields-pass w cntlid e marked plan h =
    let p = planned-by w cntlid e marked plan h in
    let all = all-pass (access_rules w cntlid e marked) p.passed in
    all-tests-pass _ (no-failure _ _ (ap (λ c. judgement_by (field_rule c e)) (sym p.named) ∙ all.1.1.1.1.1.0))

few : (n : ℕ) → nat_lt 256 n ≡ false → 512 * n ≤ most_bytes
few n h = grind (arith, nat_tests)

small : (n : ℕ) → nat_lt most_bytes n ≡ false → n ≤ most_bytes
small n h = grind (arith, nat_tests)

-- no command transfers more than 131,072 bytes
bytes-few : (command : Command) (e : List ℕ)
    → AllByRecursion (λ (t : Test). t.fails ≡ false) (field_rule (Some command) e).tests
    → data_length command e ≤ most_bytes
unfolding field_rule
bytes-few Write e h = few (block_count e) h.0
bytes-few Read e h = few (block_count e) h.0
bytes-few Compare e h = few (block_count e) h.0
bytes-few ReservationReport e h = small (report_length e) h.1.1.1.1.1.0
bytes-few command e h = omega arith

pub plan-bytes : (w : World) (cntlid : ℕ) (e : List ℕ) (marked : Bool) (plan : Plan)
    → verdict w cntlid e marked ≡ Allowed plan → data_length plan.kind e ≤ most_bytes
plan-bytes w cntlid e marked plan h = bytes-few plan.kind e (fields-pass w cntlid e marked plan h)

type-by : (n : ℕ) (a b : Bool) → (a || b || (n == 0) || nat_lt 6 n) ≡ false → (1 ≤ n) × (n ≤ 6)
type-by n a b h = (grind (arith, nat_tests), grind (arith, nat_tests))

type-of : (e : List ℕ) → AllByRecursion (λ (t : Test). t.fails ≡ false) (field_rule (Some ReservationAcquire) e).tests
    → (1 ≤ rtype e) × (rtype e ≤ 6)
unfolding field_rule
type-of e h = type-by (rtype e) (nat_lt 2 (action e)) (iekey e) h.1.1.0

-- Acquire names one of the six types
pub type-known : (w : World) (cntlid : ℕ) (e : List ℕ) (marked : Bool) (plan : Plan)
    → verdict w cntlid e marked ≡ Allowed plan → plan.kind ≡ ReservationAcquire
    → (1 ≤ rtype e) × (rtype e ≤ 6)
type-known w cntlid e marked plan h is = type-of e (rw is at (fields-pass w cntlid e marked plan h))
