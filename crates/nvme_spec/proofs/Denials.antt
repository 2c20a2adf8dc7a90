-- For laws about statuses and calls: the statuses with which rules deny an I/O command.
use Rattle.std.proofs.Common.{
  ℕ,
  ◌==◌,
  not,
  ◌&&◌,
  ◌||◌,
  filter,
  Bool,
  true,
  false,
  List,
  [],
  ◌∷◌,
  ◌++◌,
  Option,
  None,
  Some,
  Result,
  Ok,
  Err,
  refl,
}
use Rattle.std.specs.Prelude.{if◌then◌else◌}
use Rattle.std.specs.List.{AllByRecursion}
use Rattle.nvme_wire.specs.Submission.{opcode, nsid}
use Rattle.nvme_wire.specs.declared.status.Status.{Status}
use Rattle.nvme_spec.specs.declared.command.Command.{Command}
use Rattle.nvme_spec.specs.declared.command.Command.TheVariants.{
  ReservationRegister,
  ReservationAcquire,
  ReservationRelease,
}
use Rattle.nvme_spec.specs.declared.pointer.DataFault.{DataFault}
use Rattle.nvme_spec.specs.declared.pointer.DataFault.TheVariants.{Offset, Outside}
use Rattle.nvme_spec.specs.declared.verdict.Verdict.{Verdict}
use Rattle.nvme_spec.specs.declared.verdict.Verdict.TheVariants.{Allowed, Denied}
use Rattle.nvme_spec.specs.Reservation as resv
use Rattle.nvme_spec.specs.World.{World, Namespace, host_of, namespace_of}
use Rattle.nvme_spec.specs.declared.access.Hold.TheVariants.{Free}
use Rattle.nvme_spec.specs.Commands.{command_of, data_length_of, action, iekey, rtype, cptpl}
use Rattle.nvme_spec.specs.Rules.{
  Rule,
  Test,
  Judgement,
  judgement_by,
  denial_by,
  first_failure,
  first_failing,
  else_by,
  refusal_tests,
}
use Rattle.nvme_spec.specs.IoRules.{
  mark_rule,
  opcode_rule,
  form_rule,
  nsid_rule,
  attachment_rule,
  field_rule,
  reservation_rule,
  protection_rule,
  range_rule,
  conclusion,
}
use Rattle.nvme_spec.specs.DataRules.{pointer_rule, data_fault, fault_tests}
use Rattle.nvme_spec.specs.IoData.{
  current_key,
  other_key,
  action_outcome,
  outcome_in,
  outcome_tests,
  reservation_outcome,
  action_rule,
  io_judgement,
  io_rules,
  io_verdict,
  data_of,
}
use Rattle.nvme_spec.specs.Statuses as status
use Rattle.nvme_spec.specs.StatusLaws.{IsAmong, denials}

abbrev pub Refuses : Status → Type 0
Refuses = IsAmong denials

-- Tests, rules and judgements whose statuses are denials.

abbrev pub TestsRefuse : List Test → Type 0
TestsRefuse tests = AllByRecursion (λ (t : Test). Refuses t.status) tests

abbrev pub RuleRefuses : Rule → Type 0
RuleRefuses r = TestsRefuse r.tests

abbrev pub JudgementRefuses : Judgement → Type 0
JudgementRefuses (Ok u) = Unit {0}
JudgementRefuses (Err d) = Refuses d.status

abbrev pub FailureRefuses : Option Status → Type 0
FailureRefuses None = Unit {0}
FailureRefuses (Some s) = Refuses s

if-refuses : (b : Bool) (s : Status) (o : Option Status)
    → Refuses s → FailureRefuses o → FailureRefuses (if b then Some s else o)
if-refuses true s o f g = f
if-refuses false s o f g = g

pub failure-refuses : (ts : List Test) → TestsRefuse ts → FailureRefuses (first_failure ts)
failure-refuses [] h = tt
failure-refuses (t ∷ ts) h = if-refuses t.fails t.status (first_failure ts) h.0 (failure-refuses ts h.1)

denial-refuses : (number : ℕ) (o : Option Status) → FailureRefuses o → JudgementRefuses (denial_by number o)
denial-refuses number None h = tt
denial-refuses number (Some s) h = h

rule-refuses : (r : Rule) → RuleRefuses r → JudgementRefuses (judgement_by r)
unfolding judgement_by
rule-refuses r h = denial-refuses r.number (first_failure r.tests) (failure-refuses r.tests h)

else-refuses : (j k : Judgement) → JudgementRefuses j → JudgementRefuses k → JudgementRefuses (else_by j k)
else-refuses (Ok u) k f g = g
else-refuses (Err d) k f g = f

pub rules-refuse : (rs : List Rule) → AllByRecursion RuleRefuses rs → JudgementRefuses (first_failing rs)
rules-refuse [] h = tt
rules-refuse (r ∷ rs) h = else-refuses (judgement_by r) (first_failing rs) (rule-refuses r h.0) (rules-refuse rs h.1)

pub tests-joined : (xs ys : List Test) → TestsRefuse xs → TestsRefuse ys → TestsRefuse (xs ++ ys)
tests-joined [] ys f g = g
tests-joined (x ∷ xs) ys f g = (f.0, tests-joined xs ys f.1 g)

-- Results whose refusals are denials.

unfoldable pub RefusalRefuses : {T : Type 0} → Result T Status → Type 0
RefusalRefuses (Ok next) = Unit {0}
RefusalRefuses (Err s) = Refuses s

pub if-refusal : {T : Type 0} (b : Bool) (x y : Result T Status) → RefusalRefuses x → RefusalRefuses y
    → RefusalRefuses (if b then x else y)
if-refusal true x y f g = f
if-refusal false x y f g = g

pub refusal-refuses : {T : Type 0} (o : Result T Status) → RefusalRefuses o → TestsRefuse (refusal_tests o)
unfolding RefusalRefuses
refusal-refuses (Ok next) h = tt
refusal-refuses (Err s) h = (h, tt)

-- The actions of reservations.

abbrev ActionRefuses : Option resv.ActionOutcome → Type 0
ActionRefuses None = Unit {0}
ActionRefuses (Some o) = RefusalRefuses o

becoming : (next : resv.Transition) → RefusalRefuses (Ok next)
unfolding RefusalRefuses
becoming next = tt

conflict : RefusalRefuses {T = resv.Transition} (Err status.reservation_conflict)
unfolding RefusalRefuses
conflict = refl

invalid : RefusalRefuses {T = resv.Transition} (Err status.invalid_field_in_command)
unfolding RefusalRefuses
invalid = refl

register-refuses : (r : resv.Reservation) (host key : ℕ) → RefusalRefuses (resv.register r host key)
register-refuses r host key = if-refusal _ _ _ conflict (becoming _)

unregister-refuses : (r : resv.Reservation) (host : ℕ) (ignore : Bool) (key : ℕ)
    → RefusalRefuses (resv.unregister r host ignore key)
unregister-refuses r host ignore key = if-refusal _ _ _ (becoming _) conflict

replace-refuses : (r : resv.Reservation) (host : ℕ) (ignore : Bool) (key new : ℕ)
    → RefusalRefuses (resv.replace r host ignore key new)
replace-refuses r host ignore key new = if-refusal _ _ _ (becoming _) conflict

acquire-refuses : (r : resv.Reservation) (host type key : ℕ) → RefusalRefuses (resv.acquire r host type key)
acquire-refuses r host type key =
    if-refusal _ _ _ conflict
    (if-refusal (resv.is_free r.hold) (resv.becomes (record r { hold = resv.taken_by host type })) _ (becoming _)
    (if-refusal (resv.is_of_type r.hold type && resv.is_holder r host) (resv.becomes r)
    (Err status.reservation_conflict) (becoming _) conflict))

-- key 0, and any other key
all-refuses : (r : resv.Reservation) (host type : ℕ)
    → RefusalRefuses (if resv.is_of_all r.hold
    then resv.preempts r (resv.next_generation r (filter (λ x. x.host == host) r.registrants) (resv.taken_by host type))
    else Err status.invalid_field_in_command)
all-refuses r host type = if-refusal _ _ _ (becoming _) invalid

in-use-refuses : (r : resv.Reservation) (other : ℕ)
    → RefusalRefuses (if resv.is_key_in_use r.registrants other then resv.preempts r
    (resv.remaining r (filter (λ x. not (x.key == other)) r.registrants)) else Err status.reservation_conflict)
in-use-refuses r other = if-refusal _ _ _ (becoming _) conflict

preempt-refuses : (r : resv.Reservation) (host type key other : ℕ) → RefusalRefuses (resv.preempt r host type key other)
preempt-refuses r host type key other =
    if-refusal _ _ _ conflict
    (if-refusal (other == 0) _ _ (all-refuses r host type)
    (if-refusal (resv.is_holders_key r other)
    (resv.preempts r (resv.next_generation r (filter (λ x. (x.host == host) || not (x.key == other)) r.registrants)
    (resv.taken_by host type))) _ (becoming _)
    (in-use-refuses r other)))

release-refuses : (r : resv.Reservation) (host type key : ℕ) → RefusalRefuses (resv.release r host type key)
release-refuses r host type key =
    if-refusal _ _ _ conflict
    (if-refusal (not (resv.is_holder r host)) (resv.becomes r) _ (becoming _)
    (if-refusal (resv.is_of_type r.hold type) (resv.becomes (record r { hold = Free }))
    (Err status.invalid_field_in_command) (becoming _) invalid))

clear-refuses : (r : resv.Reservation) (host key : ℕ) → RefusalRefuses (resv.clear r host key)
clear-refuses r host key = if-refusal _ _ _ (becoming _) conflict

persisting-refuses : (change : ℕ) (o : resv.ActionOutcome)
    → RefusalRefuses o → RefusalRefuses (resv.persisting change o)
unfolding RefusalRefuses
persisting-refuses change (Ok t) h = tt
persisting-refuses change (Err s) h = h

action-refuses : (command : Command) (r : resv.Reservation) (host : ℕ) (e keys : List ℕ)
    → ActionRefuses (action_outcome command r host e keys)
unfolding action_outcome
action-refuses ReservationRegister r host e keys =
    persisting-refuses (cptpl e) _ (if-refusal (action e == 0) _ _ (register-refuses r host (other_key keys))
    (if-refusal (action e == 1) _ _ (unregister-refuses r host (iekey e) (current_key keys))
    (replace-refuses r host (iekey e) (current_key keys) (other_key keys))))
action-refuses ReservationAcquire r host e keys =
    if-refusal (action e == 0) _ _ (acquire-refuses r host (rtype e) (current_key keys))
    (preempt-refuses r host (rtype e) (current_key keys) (other_key keys))
action-refuses ReservationRelease r host e keys =
    if-refusal (action e == 0) _ _ (release-refuses r host (rtype e) (current_key keys))
    (clear-refuses r host (current_key keys))
action-refuses command r host e keys = tt

outcome-refuses : (command : Option Command) (n : Option Namespace) (host : Option ℕ) (e keys : List ℕ)
    → ActionRefuses (outcome_in command n host e keys)
outcome-refuses None n host e keys = tt
outcome-refuses (Some c) None host e keys = tt
outcome-refuses (Some c) (Some n) None e keys = tt
outcome-refuses (Some c) (Some n) (Some host) e keys = action-refuses c n.reservation host e keys

action-tests : (o : Option resv.ActionOutcome) → ActionRefuses o → TestsRefuse (outcome_tests o)
action-tests None h = tt
action-tests (Some o) h = refusal-refuses o h

pub fault-refuses : (o : Option DataFault) → TestsRefuse (fault_tests o)
fault-refuses None = tt
fault-refuses (Some Offset) = (refl, tt)
fault-refuses (Some Outside) = (refl, tt)

-- The rules of I/O commands.

pub io-refuses : (w : World) (k : ℕ) (e : List ℕ) (marked : Bool) (window : List ℕ)
    → JudgementRefuses (io_judgement w k e marked window)
unfolding io_judgement mark_rule opcode_rule form_rule nsid_rule attachment_rule field_rule reservation_rule
    protection_rule range_rule pointer_rule action_rule reservation_outcome
io-refuses w k e marked window =
    rules-refuse (io_rules w k e marked window) (
      (refl, tt),
      (
        (refl, tt),
        (
          (refl, tt),
          (
            (refl, tt),
            (
              (refl, tt),
              (
                (refl, (refl, (refl, (refl, (refl, (refl, tt)))))),
                (
                  (refl, tt),
                  (
                    (refl, tt),
                    (
                      (refl, tt),
                      (
                        fault-refuses (data_fault (data_length_of (command_of (opcode e)) e) window e),
                        (
                          action-tests (outcome_in (command_of (opcode e)) (namespace_of w (nsid e)) (host_of w k) e
                              (data_of window e))
                              (outcome-refuses (command_of (opcode e)) (namespace_of w (nsid e)) (host_of w k) e
                              (data_of window e)),
                          tt,
                        ),
                      ),
                    ),
                  ),
                ),
              ),
            ),
          ),
        ),
      ),
    )

abbrev pub VerdictRefuses : Verdict → Type 0
VerdictRefuses (Allowed plan) = Unit {0}
VerdictRefuses (Denied number why) = Refuses why

conclusion-refuses : (j : Judgement) (o : Option Command) (e : List ℕ)
    → JudgementRefuses j → VerdictRefuses (conclusion j o e)
conclusion-refuses (Err d) o e h = h
conclusion-refuses (Ok u) None e h = refl
conclusion-refuses (Ok u) (Some c) e h = tt

pub verdict-refuses : (w : World) (k : ℕ) (e : List ℕ) (marked : Bool) (window : List ℕ)
    → VerdictRefuses (io_verdict w k e marked window)
verdict-refuses w k e marked window =
    conclusion-refuses (io_judgement w k e marked window) (command_of (opcode e)) e (io-refuses w k e marked window)
