-- For laws about executions: changes of queues that all rules let pass.
use Rattle.std.proofs.Common.{
  ◌≡◌,
  ℕ,
  ◌+◌,
  ◌*◌,
  ◌%◌,
  ◌≤◌,
  ◌==◌,
  nat_lt,
  Bool,
  true,
  false,
  not,
  ◌||◌,
  List,
  [],
  ◌∷◌,
  Option,
  None,
  Some,
  Ok,
  Err,
  refl,
  subst,
  arith,
}
use Rattle.std.proofs.lemmas.Bool.{eqb-false, eqb-true, ltb-false}
use Rattle.nvme_wire.specs.Submission.{opcode, nsid, prp1}
use Rattle.nvme_wire.specs.declared.status.Status.{Status}
use Rattle.nvme_spec.specs.declared.command.AdminCommand.{AdminCommand}
use Rattle.nvme_spec.specs.declared.command.AdminCommand.TheVariants.{
  DeleteSubmissionQueue,
  CreateSubmissionQueue,
  DeleteCompletionQueue,
  CreateCompletionQueue,
}
use Rattle.nvme_spec.specs.declared.queues.Queues.{Queues}
use Rattle.nvme_spec.specs.Memory.{window_size}
use Rattle.nvme_spec.specs.World.{World, Namespace, namespace_of}
use Rattle.nvme_spec.specs.Rules.{Test, Judgement, test, judgement_by, denial_by, first_failure}
use Rattle.nvme_spec.specs.IoRules.{opcode_rule, form_rule}
use Rattle.nvme_spec.specs.Statuses as status
use Rattle.nvme_spec.specs.RegisterLaws.{IsQueuePlace}
use Rattle.nvme_spec.specs.ExistingQueues.{has_completion_queue, has_submission_queue, is_used}
use Rattle.nvme_spec.specs.AdminCommands.{command_of, pc, queue_size, qid, cqid}
use Rattle.nvme_spec.specs.AdminRules.{
  is_foreign,
  base_tests,
  size_test,
  nsid_rule,
  attachment_rule,
  field_rule,
  completion_queue_rule,
  submission_queue_rule,
  submission_deletion_rule,
  completion_deletion_rule,
  admin_judgement,
}
use Rattle.nvme_spec.specs.AdminEffects.{queue_change, execution_by, admin_execution}
use Rattle.nvme_spec.specs.QueueChanges.{IsIoQueue, Suits, AdminChangesSuit}
use Rattle.nvme_spec.proofs.Passing.{both, not_false}

-- a rule that passes has no failing test
pub no-failure : (number : ℕ) (o : Option Status) → denial_by number o ≡ Ok tt → o ≡ None
no-failure number None h = refl
no-failure number (Some why) h = absurd (cc)

pub next-test : (b : Bool) (why : Status) (rest : List Test) → first_failure (test b why ∷ rest) ≡ None
    → (b ≡ false) × (first_failure rest ≡ None)
next-test true why rest h = absurd (cc)
next-test false why rest h = (refl, h)

pub neither : (a b : Bool) → (a || b) ≡ false → (a ≡ false) × (b ≡ false)
neither true b h = absurd (cc)
neither false b h = (refl, h)

above : (n : ℕ) → (n == 0) ≡ false → 1 ≤ n
above n h = let other = eqb-false n 0 h in omega (arith, other)

io-queue : (n : ℕ) → is_foreign n ≡ false → IsIoQueue n
io-queue n h =
    let two = neither (n == 0) _ h in
    (above n two.0, ltb-false _ _ two.1)

pub field-passes : (w : World) (queues : Queues) (k : ℕ) (e window : List ℕ) (command : AdminCommand)
    → admin_judgement w queues k e window ≡ Ok tt → command_of (opcode e) ≡ Some command
    → judgement_by (field_rule (Some command) queues (namespace_of w (nsid e)) e) ≡ Ok tt
unfolding admin_judgement
field-passes w queues k e window command h named =
    let a = both (judgement_by (opcode_rule (command_of (opcode e)))) _ h in
    let b = both (judgement_by (form_rule e)) _ a.1 in
    let c = both (judgement_by (nsid_rule (command_of (opcode e)) e)) _ b.1 in
    let d = both (judgement_by (attachment_rule (command_of (opcode e)) w k e)) _ c.1 in
    let f = both (judgement_by (field_rule (command_of (opcode e)) queues (namespace_of w (nsid e)) e)) _ d.1 in
    subst (λ o. judgement_by (field_rule o queues (namespace_of w (nsid e)) e) ≡ Ok tt) named f.0

-- size and address of a queue
placed : (width : ℕ) (e : List ℕ) → (nat_lt (queue_size e) 2 || nat_lt 64 (queue_size e)) ≡ false
    → first_failure (base_tests width e) ≡ None → IsQueuePlace (prp1 e) (queue_size e) width
placed width e size base =
    let s = neither (nat_lt (queue_size e) 2) (nat_lt 64 (queue_size e)) size in
    let p = next-test (not (prp1 e % 4096 == 0)) status.prp_offset_invalid
    (test (nat_lt window_size (prp1 e + width * queue_size e)) status.invalid_field_in_command ∷ []) base in
    let q = next-test (nat_lt window_size (prp1 e + width * queue_size e)) status.invalid_field_in_command [] p.1 in
    record {
      size = (ltb-false _ _ s.0, ltb-false _ _ s.1);
      page = eqb-true _ _ (not_false _ p.0);
      inside = ltb-false _ _ q.0;
    }

makes-completion : (queues : Queues) (e : List ℕ) → judgement_by (completion_queue_rule queues e) ≡ Ok tt
    → IsIoQueue (qid e) × IsQueuePlace (prp1 e) (queue_size e) 16 × (has_completion_queue queues (qid e) ≡ false)
unfolding judgement_by completion_queue_rule
makes-completion queues e h =
    let none = no-failure 6 _ h in
    let a = next-test (not (pc e)) status.invalid_field_in_command
    (test (is_foreign (qid e) || has_completion_queue queues (qid e)) status.invalid_queue_identifier ∷ size_test e
    ∷ base_tests 16 e) none in
    let b = next-test (is_foreign (qid e) || has_completion_queue queues (qid e)) status.invalid_queue_identifier
    (size_test e ∷ base_tests 16 e) a.1 in
    let c =
    next-test (nat_lt (queue_size e) 2 || nat_lt 64 (queue_size e)) status.invalid_queue_size (base_tests 16 e) b.1 in
    let two = neither (is_foreign (qid e)) _ b.0 in
    (io-queue (qid e) two.0, placed 16 e c.0 c.1, two.1)

makes-submission : (queues : Queues) (e : List ℕ) → judgement_by (submission_queue_rule queues e) ≡ Ok tt
    → IsIoQueue (qid e) × IsQueuePlace (prp1 e) (queue_size e) 64 × (has_completion_queue queues (cqid e) ≡ true)
    × (has_submission_queue queues (qid e) ≡ false)
unfolding judgement_by submission_queue_rule
makes-submission queues e h =
    let none = no-failure 6 _ h in
    let last : List Test =
    test (not (has_completion_queue queues (cqid e))) status.completion_queue_invalid ∷ base_tests 64 e in
    let later : List Test = test (is_foreign (cqid e)) status.invalid_queue_identifier ∷ last in
    let a = next-test (not (pc e)) status.invalid_field_in_command
    (test (is_foreign (qid e) || has_submission_queue queues (qid e)) status.invalid_queue_identifier ∷ size_test e
    ∷ later) none in
    let b = next-test (is_foreign (qid e) || has_submission_queue queues (qid e)) status.invalid_queue_identifier
    (size_test e ∷ later) a.1 in
    let c = next-test (nat_lt (queue_size e) 2 || nat_lt 64 (queue_size e)) status.invalid_queue_size later b.1 in
    let d = next-test (is_foreign (cqid e)) status.invalid_queue_identifier last c.1 in
    let f =
    next-test (not (has_completion_queue queues (cqid e))) status.completion_queue_invalid (base_tests 64 e) d.1 in
    let two = neither (is_foreign (qid e)) _ b.0 in
    (io-queue (qid e) two.0, placed 64 e c.0 f.1, not_false _ f.0, two.1)

deletes-submission : (queues : Queues) (e : List ℕ) → judgement_by (submission_deletion_rule queues e) ≡ Ok tt
    → (1 ≤ qid e) × (has_submission_queue queues (qid e) ≡ true)
unfolding judgement_by submission_deletion_rule
deletes-submission queues e h =
    let none = no-failure 6 _ h in
    let a =
    next-test ((qid e == 0) || not (has_submission_queue queues (qid e))) status.invalid_queue_identifier [] none in
    let two = neither (qid e == 0) _ a.0 in
    (above (qid e) two.0, not_false _ two.1)

deletes-completion : (queues : Queues) (e : List ℕ) → judgement_by (completion_deletion_rule queues e) ≡ Ok tt
    → (1 ≤ qid e) × (has_completion_queue queues (qid e) ≡ true) × (is_used queues (qid e) ≡ false)
unfolding judgement_by completion_deletion_rule
deletes-completion queues e h =
    let none = no-failure 6 _ h in
    let a = next-test ((qid e == 0) || not (has_completion_queue queues (qid e))) status.invalid_queue_identifier
    (test (is_used queues (qid e)) status.invalid_queue_deletion ∷ []) none in
    let b = next-test (is_used queues (qid e)) status.invalid_queue_deletion [] a.1 in
    let two = neither (qid e == 0) _ a.0 in
    (above (qid e) two.0, not_false _ two.1, b.0)

change-suits : (queues : Queues) (o : Option Namespace) (e : List ℕ) (command : AdminCommand)
    → judgement_by (field_rule (Some command) queues o e) ≡ Ok tt → Suits queues (queue_change command e)
unfolding queue_change
change-suits queues o e DeleteSubmissionQueue h = deletes-submission queues e h
change-suits queues o e CreateSubmissionQueue h = makes-submission queues e h
change-suits queues o e DeleteCompletionQueue h = deletes-completion queues e h
change-suits queues o e CreateCompletionQueue h = makes-completion queues e h
change-suits queues o e command h = tt

execution-suits : (w : World) (queues : Queues) (k : ℕ) (e window : List ℕ) (j : Judgement) (o : Option AdminCommand)
    → admin_judgement w queues k e window ≡ j → command_of (opcode e) ≡ o
    → Suits queues (execution_by j o w k e window).change
execution-suits w queues k e window (Err d) o is named = tt
execution-suits w queues k e window (Ok u) None is named = tt
execution-suits w queues k e window (Ok u) (Some command) is named =
    change-suits queues (namespace_of w (nsid e)) e command (field-passes w queues k e window command is named)

pub admin_changes_suit : AdminChangesSuit
unfolding admin_execution
admin_changes_suit w queues k e window =
    execution-suits w queues k e window (admin_judgement w queues k e window) (command_of (opcode e)) refl refl
