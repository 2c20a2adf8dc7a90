-- For laws about executions: what is known of an I/O command that all rules let pass.
use Rattle.std.proofs.Common.{
  ◌≡◌,
  ℕ,
  ◌+◌,
  ◌||◌,
  ◌&&◌,
  ◌++◌,
  Bool,
  true,
  false,
  not,
  List,
  [],
  ◌∷◌,
  Option,
  None,
  Some,
  Ok,
  Err,
  refl,
  sym,
  ap,
  ◌∙◌,
}
use Rattle.std.specs.Prelude.{is_some}
use Rattle.nvme_wire.specs.Submission.{opcode, nsid}
use Rattle.nvme_wire.specs.declared.status.Status.{Status}
use Rattle.nvme_spec.specs.declared.access.Group.TheVariants.{Write as Writing, Read as Reading}
use Rattle.nvme_spec.specs.declared.command.Command.{Command}
use Rattle.nvme_spec.specs.declared.verdict.Plan.{Plan}
use Rattle.nvme_spec.specs.declared.verdict.Verdict.TheVariants.{Allowed}
use Rattle.nvme_spec.specs.World.{World, host_of, namespace_of, is_attached}
use Rattle.nvme_spec.specs.Commands.{
  command_of,
  is_one_of,
  readers,
  writers,
  ranged,
  plan_of,
  starting_lba,
  block_count,
  data_length_of,
  altering,
}
use Rattle.nvme_spec.specs.Rules.{Rule, Judgement, rule, judgement_by, else_by, first_failing}
use Rattle.nvme_spec.specs.IoRules.{
  mark_rule,
  opcode_rule,
  form_rule,
  nsid_rule,
  attachment_rule,
  field_rule,
  reservation_rule,
  protection_rule,
  range_rule,
  access_rules,
  conclusion,
  permits_group,
  is_protected,
  has_blocks_below,
}
use Rattle.nvme_spec.specs.DataRules.{pointer_rule}
use Rattle.nvme_spec.specs.IoData.{io_rules, io_judgement, io_verdict, action_rule, reservation_outcome, data_of}

pub both : (j later : Judgement) → else_by j later ≡ Ok tt → (j ≡ Ok tt) × (later ≡ Ok tt)
both (Ok u) later h = (refl, h)
both (Err d) later h = absurd (cc)

pub passed : (number : ℕ) (fails : Bool) (status : Status) → judgement_by (rule number fails status) ≡ Ok tt
    → fails ≡ false
unfolding judgement_by
passed number true status h = absurd (cc)
passed number false status h = refl

pub not_false : (b : Bool) → not b ≡ false → b ≡ true
not_false true h = refl
not_false false h = absurd (cc)

-- what is known of a command that passed
pub record HasPassed (w : World) (k : ℕ) (e : List ℕ) (command : Command) : Type 0 where
  pub named : command_of (opcode e) ≡ Some command
  pub attached : (is_some (namespace_of w (nsid e)) && is_attached w k (nsid e)) ≡ true
  pub permitted :
      ((is_one_of (Some command) readers && not (permits_group (namespace_of w (nsid e)) (host_of w k) Reading))
      || (is_one_of (Some command) writers && not (permits_group (namespace_of w (nsid e)) (host_of w k) Writing)))
      ≡ false
  pub fields : judgement_by (field_rule (Some command) e) ≡ Ok tt
  pub unprotected : (is_one_of (Some command) altering && is_protected (namespace_of w (nsid e))) ≡ false
  pub fits : (is_one_of (Some command) ranged
      && not (has_blocks_below (namespace_of w (nsid e)) (starting_lba e + block_count e))) ≡ false

pub record IsPlanned (j : Judgement) (command : Option Command) (plan : Plan) : Type 0 where
  pub passed : j ≡ Ok tt
  pub named : command ≡ Some plan.kind

pub planned : (j : Judgement) (command : Option Command) (e : List ℕ) (plan : Plan)
    → conclusion j command e ≡ Allowed plan → IsPlanned j command plan
planned (Err d) command e plan h = absurd (cc)
planned (Ok u) None e plan h = absurd (cc)
planned (Ok u) (Some command) e plan h =
    let same : plan_of command e ≡ plan = cc in
    record { passed = refl; named = ap (λ (p : Plan). Some p.kind) same }

judged : (w : World) (k : ℕ) (e : List ℕ) (marked : Bool) (window : List ℕ) (plan : Plan)
    → io_verdict w k e marked window ≡ Allowed plan
    → IsPlanned (first_failing (io_rules w k e marked window)) (command_of (opcode e)) plan
unfolding io_judgement
judged w k e marked window plan h =
    planned (first_failing (io_rules w k e marked window)) (command_of (opcode e)) e plan h

pub passes : (w : World) (k : ℕ) (e : List ℕ) (marked : Bool) (later : List Rule) (command : Command)
    → first_failing (access_rules w k e marked ++ later) ≡ Ok tt → command_of (opcode e) ≡ Some command
    → HasPassed w k e command
unfolding attachment_rule reservation_rule protection_rule range_rule
passes w k e marked later command h named =
    let a = both (judgement_by (mark_rule marked)) _ h in
    let b = both (judgement_by (opcode_rule (command_of (opcode e)))) _ a.1 in
    let c = both (judgement_by (form_rule e)) _ b.1 in
    let d = both (judgement_by (nsid_rule (nsid e))) _ c.1 in
    let f = both (judgement_by (attachment_rule w k (nsid e))) _ d.1 in
    let g = both (judgement_by (field_rule (command_of (opcode e)) e)) _ f.1 in
    let i =
    both (judgement_by (reservation_rule (command_of (opcode e)) (namespace_of w (nsid e)) (host_of w k))) _ g.1 in
    let j = both (judgement_by (protection_rule (command_of (opcode e)) (namespace_of w (nsid e)))) _ i.1 in
    let l = both (judgement_by (range_rule (command_of (opcode e)) (namespace_of w (nsid e)) e)) _ j.1 in
    record {
      named = named;
      attached = not_false _ (passed 5 _ _ f.0);
      permitted = ap (λ o. (is_one_of o readers && not (permits_group (namespace_of w (nsid e)) (host_of w k) Reading))
          || (is_one_of o writers && not (permits_group (namespace_of w (nsid e)) (host_of w k) Writing))) (sym named)
          ∙ passed 7 _ _ i.0;
      fields = ap (λ o. judgement_by (field_rule o e)) (sym named) ∙ g.0;
      unprotected =
          ap (λ o. is_one_of o altering && is_protected (namespace_of w (nsid e))) (sym named) ∙ passed 8 _ _ j.0;
      fits = ap (λ o. is_one_of o ranged
          && not (has_blocks_below (namespace_of w (nsid e)) (starting_lba e + block_count e))) (sym named)
          ∙ passed 9 _ _ l.0;
    }

-- an allowed command has passed
pub has-passed : (w : World) (k : ℕ) (e : List ℕ) (marked : Bool) (window : List ℕ) (plan : Plan)
    → io_verdict w k e marked window ≡ Allowed plan
    → HasPassed w k e plan.kind
has-passed w k e marked window plan h =
    let p = judged w k e marked window plan h in
    let pointer = pointer_rule (data_length_of (command_of (opcode e)) e) window e in
    let action = action_rule (reservation_outcome w k e (data_of window e)) in
    passes w k e marked (pointer ∷ action ∷ []) plan.kind p.passed p.named

-- the namespace of a command that passed
pub some_of : {X : Type 0} (o : Option X) (b : Bool) → (is_some o && b) ≡ true → (x : X) × (o ≡ Some x)
some_of None b h = absurd (cc)
some_of (Some x) b h = (x, refl)
