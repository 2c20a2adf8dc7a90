-- For `laws.rt`: the calls of an execution are among those that its command needs.
use Rattle.std.proofs.Common.{
  ◌≡◌,
  ℕ,
  ◌+◌,
  ◌<◌,
  ◌==◌,
  not,
  Bool,
  true,
  false,
  List,
  [],
  ◌∷◌,
  Some,
  Ok,
  Result,
  refl,
  sym,
  ap,
  subst,
  ◌∙◌,
  arith,
}
use Rattle.std.specs.Prelude.{if◌then◌else◌}
use Rattle.std.proofs.lemmas.Bool.{and_parts, eqb-true}
use Rattle.nvme_wire.specs.Submission.{opcode, nsid}
use Rattle.nvme_spec.specs.declared.command.Command.{Command}
use Rattle.nvme_spec.specs.declared.command.Command.TheVariants.{
  Flush,
  Write,
  Read,
  Compare,
  WriteZeroes,
  ReservationRegister,
  ReservationReport,
  ReservationAcquire,
  ReservationRelease,
}
use Rattle.nvme_spec.specs.declared.medium.MediumFault.{MediumFault}
use Rattle.nvme_spec.specs.declared.verdict.Plan.{Plan}
use Rattle.nvme_spec.specs.declared.verdict.Verdict.TheVariants.{Allowed}
use Rattle.nvme_spec.specs.Commands.{
  altering,
  readers,
  is_one_of,
  block_count,
  starting_lba,
  command_of,
  plan_of,
  data_length_of,
}
use Rattle.nvme_spec.specs.DataRules.{pointer_rule}
use Rattle.nvme_spec.specs.Execution.{start_of}
use Rattle.nvme_spec.specs.IoData.{io_verdict, io_judgement, action_rule, reservation_outcome, data_of}
use Rattle.nvme_spec.specs.IoRules.{access_rules, conclusion, verdict}
use Rattle.nvme_spec.specs.MediumCalls.{MediumAnswer, MediumCall, Reads, Writes, Flushes}
use Rattle.nvme_spec.specs.Rules.{Rule, first_failing}
use Rattle.nvme_spec.specs.World.{World, Namespace, namespace_of}
use Rattle.nvme_spec.proofs.Judgements.{first_failing-append}
use Rattle.nvme_spec.proofs.Passing.{both, planned}
use Rattle.nvme_machine.specs.declared.event.Event.TheVariants.{Execute}
use Rattle.nvme_machine.specs.declared.fetched.FetchedCommand.{FetchedCommand}
use Rattle.nvme_machine.specs.declared.need.Need.{Need}
use Rattle.nvme_machine.specs.declared.need.Need.TheVariants as need
use Rattle.nvme_machine.specs.Subsystems.{Subsystem}
use Rattle.nvme_machine.specs.Fencing.{IsAllowedAt}
use Rattle.nvme_machine.specs.Examples.{OtherCallsAreNotNeeded}
use Rattle.nvme_machine.specs.AllowedCalls.{IsCallOf}
use Rattle.nvme_machine.specs.Needs.{
  need_by,
  need_in,
  need_of,
  need_of_one,
  need_of_its,
  need_at,
  IsNeeded,
  CallsAreNeeded,
}
use Rattle.nvme_machine.proofs.AllowedCalls.{all-mapped, calls_are_allowed}

-- The rules on access pass if all rules do.

-- the rules after them
abbrev data_rules : World → ℕ → List ℕ → List ℕ → List Rule
data_rules w k window e =
    pointer_rule (data_length_of (command_of (opcode e)) e) window e
    ∷ action_rule (reservation_outcome w k e (data_of window e)) ∷ []

pub front-passes : (w : World) (k : ℕ) (e : List ℕ) (marked : Bool) (window : List ℕ)
    → io_judgement w k e marked window ≡ Ok tt → first_failing (access_rules w k e marked) ≡ Ok tt
unfolding io_judgement
front-passes w k e marked window h =
    (both (first_failing (access_rules w k e marked)) (first_failing (data_rules w k window e))
    (sym (first_failing-append (access_rules w k e marked) (data_rules w k window e)) ∙ h)).0

allowed : (w : World) (k : ℕ) (e : List ℕ) (marked : Bool) (window : List ℕ) (plan : Plan)
    → io_verdict w k e marked window ≡ Allowed plan
    → verdict w k e marked ≡ Allowed (plan_of plan.kind e)
unfolding verdict
allowed w k e marked window plan h =
    let p = planned (io_judgement w k e marked window) (command_of (opcode e)) e plan h in
    ap (λ j. conclusion j (command_of (opcode e)) e) (front-passes w k e marked window p.passed)
    ∙ ap (λ c. conclusion (Ok tt) c e) p.named

-- what an allowed command needs
abbrev need_as : Command → World → List ℕ → Need
need_as kind w e = need_by kind (start_of (namespace_of w (nsid e)) + (plan_of kind e).first) (plan_of kind e).blocks

need-of : (w : World) (k : ℕ) (t : FetchedCommand) (window : List ℕ) (plan : Plan) → (t.queue == 0) ≡ false
    → io_verdict w k t.entry t.marked window ≡ Allowed plan → need_of w k t ≡ need_as plan.kind w t.entry
unfolding need_of
need-of w k t window plan io h =
    ap (λ b. if b then need.Nothing else need_in (verdict w k t.entry t.marked) (namespace_of w (nsid t.entry))) io
    ∙ ap (λ v. need_in v (namespace_of w (nsid t.entry))) (allowed w k t.entry t.marked window plan h)

not-admin : (b : Bool) → not b ≡ true → b ≡ false
not-admin true h = absurd (cc)
not-admin false h = refl

module _ (s : Subsystem) (k i n : ℕ) (commands : List Command) (is : IsAllowedAt commands s k i n) where
  parts : (not (is.command.queue == 0) ≡ true) × ((nsid is.command.entry == n) ≡ true)
  parts = and_parts (not (is.command.queue == 0)) (nsid is.command.entry == n) is.named

  need-is : need_at s k i ≡ need_as is.allowed.plan.kind s.world is.command.entry
  need-is =
      ap (need_of_its s.world k i) is.at
      ∙ ap (need_of_one s.world k) is.found
      ∙ need-of s.world k is.command is.controller.window is.allowed.plan (not-admin _ parts.0) is.allowed.allowed

  start-is : (space : Namespace) → namespace_of s.world n ≡ Some space
      → start_of (namespace_of s.world (nsid is.command.entry)) ≡ space.first
  start-is space there =
      ap (λ m. start_of (namespace_of s.world m)) (eqb-true (nsid is.command.entry) n parts.1) ∙ ap start_of there

reads : (kind : Command) (e : List ℕ) (start nth b : ℕ) (answer : Result (List ℕ) MediumFault)
    → is_one_of (Some kind) readers ≡ true → nth < block_count e → b ≡ start + (starting_lba e + nth)
    → IsNeeded (need_by kind (start + (plan_of kind e).first) (plan_of kind e).blocks) (Reads b answer)
reads Read e start nth b answer is below place = (omega (arith, place), omega (arith, place, below))
reads Compare e start nth b answer is below place = (omega (arith, place), omega (arith, place, below))
reads Flush e start nth b answer is below place = absurd (cc)
reads Write e start nth b answer is below place = absurd (cc)
reads WriteZeroes e start nth b answer is below place = absurd (cc)
reads ReservationRegister e start nth b answer is below place = absurd (cc)
reads ReservationReport e start nth b answer is below place = absurd (cc)
reads ReservationAcquire e start nth b answer is below place = absurd (cc)
reads ReservationRelease e start nth b answer is below place = absurd (cc)

writes : (kind : Command) (e : List ℕ) (start nth b : ℕ) (bytes : List ℕ) (answer : MediumAnswer)
    → is_one_of (Some kind) altering ≡ true → nth < block_count e → b ≡ start + (starting_lba e + nth)
    → IsNeeded (need_by kind (start + (plan_of kind e).first) (plan_of kind e).blocks) (Writes b bytes answer)
writes Write e start nth b bytes answer is below place = (omega (arith, place), omega (arith, place, below))
writes WriteZeroes e start nth b bytes answer is below place = (omega (arith, place), omega (arith, place, below))
writes Flush e start nth b bytes answer is below place = absurd (cc)
writes Read e start nth b bytes answer is below place = absurd (cc)
writes Compare e start nth b bytes answer is below place = absurd (cc)
writes ReservationRegister e start nth b bytes answer is below place = absurd (cc)
writes ReservationReport e start nth b bytes answer is below place = absurd (cc)
writes ReservationAcquire e start nth b bytes answer is below place = absurd (cc)
writes ReservationRelease e start nth b bytes answer is below place = absurd (cc)

flushes : (kind : Command) (first blocks : ℕ) (answer : MediumAnswer) → is_one_of (Some kind) (Flush ∷ []) ≡ true
    → IsNeeded (need_by kind first blocks) (Flushes answer)
flushes Flush first blocks answer is = tt
flushes Write first blocks answer is = absurd (cc)
flushes Read first blocks answer is = absurd (cc)
flushes Compare first blocks answer is = absurd (cc)
flushes WriteZeroes first blocks answer is = absurd (cc)
flushes ReservationRegister first blocks answer is = absurd (cc)
flushes ReservationReport first blocks answer is = absurd (cc)
flushes ReservationAcquire first blocks answer is = absurd (cc)
flushes ReservationRelease first blocks answer is = absurd (cc)

needed : (s : Subsystem) (k i : ℕ) (call : MediumCall) → IsCallOf s k i call → IsNeeded (need_at s k i) call
needed s k i (Reads b answer) (n, r) =
    let x = r.block in
    let start = start-is s k i n readers x.is x.space x.there in
    subst (λ o. IsNeeded o (Reads b answer)) (sym (need-is s k i n readers x.is))
    (reads x.is.allowed.plan.kind x.is.command.entry _ x.nth b answer x.is.allowed.is_one x.below
    (x.place ∙ ap (λ m. m + (starting_lba x.is.command.entry + x.nth)) (sym start)))
needed s k i (Writes b bytes answer) (n, r) =
    let x = r.block in
    let start = start-is s k i n altering x.is x.space x.there in
    subst (λ o. IsNeeded o (Writes b bytes answer)) (sym (need-is s k i n altering x.is))
    (writes x.is.allowed.plan.kind x.is.command.entry _ x.nth b bytes answer x.is.allowed.is_one x.below
    (x.place ∙ ap (λ m. m + (starting_lba x.is.command.entry + x.nth)) (sym start)))
needed s k i (Flushes answer) (n, r) =
    subst (λ o. IsNeeded o (Flushes answer)) (sym (need-is s k i n (Flush ∷ []) r.is))
    (flushes r.is.allowed.plan.kind _ _ answer r.is.allowed.is_one)

pub calls_are_needed : CallsAreNeeded
calls_are_needed tells old new k i seen calls h =
    all-mapped (IsCallOf old k i) (IsNeeded (need_at old k i)) calls (needed old k i)
    (calls_are_allowed tells old new (Execute k i) seen calls h)

pub other_calls_are_not_needed : OtherCallsAreNotNeeded
other_calls_are_not_needed = (
  λ h. absurd (omega (arith, h.0)),
  λ h. absurd (omega (arith, h.1)),
  λ h. h,
  λ h. absurd (omega (arith, h.1)),
  λ h. h,
  λ h. absurd (omega (arith, h.0)),
  λ h. h,
  λ h. h,
  λ h. h,
)
