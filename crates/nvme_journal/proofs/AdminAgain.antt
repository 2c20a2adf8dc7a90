-- An admin command that was kept succeeds again, with the same effect on the access state.
use Rattle.std.proofs.Common.{
  ◌≡◌,
  ℕ,
  ◌==◌,
  ◌&&◌,
  true,
  false,
  List,
  [],
  ◌∷◌,
  Option,
  None,
  Some,
  Ok,
  Err,
  refl,
  sym,
  ap,
  ◌∙◌,
}
use Rattle.std.proofs.lemmas.Bool.{eqb-true}
use Rattle.nvme_wire.specs.Submission.{opcode, nsid}
use Rattle.nvme_spec.specs.declared.command.AdminCommand.{AdminCommand}
use Rattle.nvme_spec.specs.declared.command.AdminCommand.TheVariants.{SetFeatures, NamespaceAttachment}
use Rattle.nvme_spec.specs.declared.queues.Queues.{Queues}
use Rattle.nvme_spec.specs.AdminCommands.{
  command_of,
  cns,
  data_length_of,
  fid,
  ncqr,
  nsqr,
  number_of_queues,
  sel,
  sv,
  wps,
  write_protection,
}
use Rattle.nvme_spec.specs.AdminEffects.{admin_execution, execution_by, world_after, world_of}
use Rattle.nvme_spec.specs.AdminRules.{
  admin_access_rules,
  admin_judgement,
  attachment_outcome,
  attachment_rule,
  data_of,
  field_rule,
  list_rule,
  listed_controllers,
  nsid_rule,
  selection_rule,
  set_features_rule,
}
use Rattle.nvme_spec.specs.DataRules.{pointer_rule}
use Rattle.nvme_spec.specs.ExistingQueues.{has_io_queue}
use Rattle.nvme_spec.specs.IoRules.{form_rule}
use Rattle.nvme_spec.specs.Rules.{Judgement, else_by, first_failing, judgement_by}
use Rattle.nvme_spec.specs.World.{World, Namespace, namespace_of}
use Rattle.nvme_spec.proofs.AdminDenials.{admin-refuses}
use Rattle.nvme_spec.proofs.Denials.{JudgementRefuses}
use Rattle.nvme_spec.proofs.Judgements.{first_failing-append}
use Rattle.nvme_spec.proofs.Passing.{both}
use Rattle.nvme_data_buffers.specs.Entries.{moved}
use Rattle.nvme_journal.specs.Records.{is_success, lasts, lasts_by}
use Rattle.nvme_journal.specs.Laws.{AdminRecordsSucceedAgain, IsSameCommand, ReachesData}
use Rattle.nvme_journal.proofs.Again.{no-fault}
use Rattle.nvme_journal.proofs.Worlds.{refused}

-- The rules on the same command do not depend on the queues, if it lasts.

no-queues : (e : List ℕ) (queues there : Queues) → fid e ≡ write_protection
    → ((fid e == number_of_queues) && has_io_queue there) ≡ ((fid e == number_of_queues) && has_io_queue queues)
no-queues e queues there is =
    let none : (fid e == number_of_queues) ≡ false = ap (λ f. f == number_of_queues) is in
    ap (λ b. b && has_io_queue there) none ∙ sym (ap (λ b. b && has_io_queue queues) none)

other-queues : (n : Option Namespace) (e : List ℕ) (queues there : Queues) → fid e ≡ write_protection
    → set_features_rule there n e ≡ set_features_rule queues n e
unfolding set_features_rule
other-queues n e queues there is = let same = no-queues e queues there is in cc (same)

same-features : (n : Option Namespace) (queues : Queues) (e again : List ℕ) → IsSameCommand e again
    → set_features_rule queues n again ≡ set_features_rule queues n e
unfolding set_features_rule fid sv nsqr ncqr wps
same-features n queues e again h = cc (h.cdw10, h.cdw11)

same-selection : (n : Option Namespace) (e again : List ℕ) → IsSameCommand e again
    → selection_rule n again ≡ selection_rule n e
unfolding selection_rule sel
same-selection n e again h = cc (h.cdw10)

same-fields : (o : Option AdminCommand) (n : Option Namespace) (e again : List ℕ) (queues there : Queues)
    → IsSameCommand e again → lasts_by o e ≡ true → field_rule o there n again ≡ field_rule o queues n e
same-fields (Some NamespaceAttachment) n e again queues there same h = same-selection n e again same
same-fields (Some SetFeatures) n e again queues there same h =
    same-features n there e again same ∙ other-queues n e queues there (eqb-true (fid e) write_protection h)
same-fields (Some command) n e again queues there same h = absurd (cc (h))
same-fields None n e again queues there same h = absurd (cc (h))

same-form : (e again : List ℕ) → IsSameCommand e again → form_rule again ≡ form_rule e
unfolding form_rule
same-form e again h = cc (h.fuse, h.psdt)

same-nsid : (o : Option AdminCommand) (e again : List ℕ) → IsSameCommand e again → nsid_rule o again ≡ nsid_rule o e
unfolding nsid_rule fid cns
same-nsid o e again h = cc (h.nsid, h.cdw10)

same-place : (o : Option AdminCommand) (w : World) (k : ℕ) (e again : List ℕ) → IsSameCommand e again
    → attachment_rule o w k again ≡ attachment_rule o w k e
unfolding attachment_rule fid
same-place o w k e again h = cc (h.nsid, h.cdw10)

same-access : (w : World) (queues there : Queues) (k : ℕ) (e again : List ℕ) → IsSameCommand e again
    → lasts_by (command_of (opcode e)) e ≡ true → admin_access_rules w there k again ≡ admin_access_rules w queues k e
same-access w queues there k e again h lasting =
    let form = same-form e again h in
    let named = same-nsid (command_of (opcode e)) e again h in
    let place = same-place (command_of (opcode e)) w k e again h in
    let fields = same-fields (command_of (opcode e)) (namespace_of w (nsid e)) e again queues there h lasting in
    cc (h.opcode, h.nsid, form, named, place, fields)

same-attachment : (w : World) (e again sent read : List ℕ) → IsSameCommand e again
    → listed_controllers read ≡ listed_controllers sent
    → attachment_outcome w again read ≡ attachment_outcome w e sent
unfolding sel
same-attachment w e again sent read h lists = cc (h.cdw10, h.nsid, lists)

same-list : (o : Option AdminCommand) (w : World) (e again sent read : List ℕ) → IsSameCommand e again
    → listed_controllers read ≡ listed_controllers sent → list_rule o w again read ≡ list_rule o w e sent
unfolding list_rule
same-list (Some NamespaceAttachment) w e again sent read h lists =
    let same = same-attachment w e again sent read h lists in cc (same)
same-list (Some command) w e again sent read h lists = refl
same-list None w e again sent read h lists = refl

pub same-effect : (command : AdminCommand) (w : World) (e again sent read : List ℕ) → IsSameCommand e again
    → listed_controllers read ≡ listed_controllers sent
    → world_after w command again read ≡ world_after w command e sent
unfolding world_after fid wps
same-effect NamespaceAttachment w e again sent read h lists =
    ap (world_of w) (same-attachment w e again sent read h lists)
same-effect SetFeatures w e again sent read h lists = cc (h.nsid, h.cdw10, h.cdw11)
same-effect command w e again sent read h lists = refl

-- A command that succeeded was allowed.

pub record WasAllowed (w : World) (queues : Queues) (k : ℕ) (e window : List ℕ) : Type 0 where
  pub command : AdminCommand
  pub named : command_of (opcode e) ≡ Some command
  pub judged : admin_judgement w queues k e window ≡ Ok tt

was-allowed : (j : Judgement) (o : Option AdminCommand) (w : World) (queues : Queues) (k : ℕ) (e window : List ℕ)
    → admin_judgement w queues k e window ≡ j → command_of (opcode e) ≡ o → JudgementRefuses j
    → is_success (execution_by j o w k e window).status ≡ true → WasAllowed w queues k e window
was-allowed (Err d) o w queues k e window is named f h =
    let failed = refused d.status f in absurd (cc (failed, h))
was-allowed (Ok u) None w queues k e window is named f h = absurd (cc (h))
was-allowed (Ok u) (Some command) w queues k e window is named f h =
    record { command = command; named = named; judged = is }

-- The rules pass again.

abbrev access : World → Queues → ℕ → List ℕ → Judgement
access w queues k e = first_failing (admin_access_rules w queues k e)

abbrev lists : World → List ℕ → List ℕ → Judgement
lists w e sent = judgement_by (list_rule (command_of (opcode e)) w e sent)

passed-all : (w : World) (queues : Queues) (k : ℕ) (e window : List ℕ) → admin_judgement w queues k e window ≡ Ok tt
    → (access w queues k e ≡ Ok tt) × (lists w e (data_of window e) ≡ Ok tt)
unfolding admin_judgement
passed-all w queues k e window h =
    let pointer = pointer_rule (data_length_of (command_of (opcode e)) e) window e in
    let list = list_rule (command_of (opcode e)) w e (data_of window e) in
    let p = both (access w queues k e) _ (sym (first_failing-append (admin_access_rules w queues k e)
    (pointer ∷ list ∷ [])) ∙ h) in
    let q = both (judgement_by pointer) _ p.1 in
    let r = both (judgement_by list) (Ok tt) q.1 in
    (p.0, r.0)

passes-pointer : (window again : List ℕ) → ReachesData true window again
    → judgement_by (pointer_rule (data_length_of (command_of (opcode again)) again) window again) ≡ Ok tt
unfolding pointer_rule moved
passes-pointer window again h = no-fault _ h

passes-again : (w : World) (queues : Queues) (k : ℕ) (again window : List ℕ) → access w queues k again ≡ Ok tt
    → ReachesData true window again → lists w again (data_of window again) ≡ Ok tt
    → admin_judgement w queues k again window ≡ Ok tt
unfolding admin_judgement
passes-again w queues k again window a p b =
    let pointer = pointer_rule (data_length_of (command_of (opcode again)) again) window again in
    let list = list_rule (command_of (opcode again)) w again (data_of window again) in
    first_failing-append (admin_access_rules w queues k again) (pointer ∷ list ∷ [])
    ∙ ap (λ j. else_by j (first_failing (pointer ∷ list ∷ []))) a
    ∙ ap (λ j. else_by j (else_by (judgement_by list) (Ok tt))) (passes-pointer window again p)
    ∙ ap (λ j. else_by j (Ok tt)) b

performed : (w : World) (queues : Queues) (k : ℕ) (e window : List ℕ) (command : AdminCommand)
    → admin_judgement w queues k e window ≡ Ok tt → command_of (opcode e) ≡ Some command
    → admin_execution w queues k e window ≡ execution_by (Ok tt) (Some command) w k e window
unfolding admin_execution
performed w queues k e window command judged named =
    ap (λ j. execution_by j (command_of (opcode e)) w k e window) judged
    ∙ ap (λ o. execution_by (Ok tt) o w k e window) named

pub admin_records_succeed_again : AdminRecordsSucceedAgain
unfolding lasts admin_execution
admin_records_succeed_again w queues there k e again window other success lasting same reaches read =
    let was = was-allowed (admin_judgement w queues k e window) (command_of (opcode e)) w queues k e window refl refl
    (admin-refuses w queues k e window) success in
    let p = passed-all w queues k e window was.judged in
    let a : access w there k again ≡ Ok tt =
    ap first_failing (same-access w queues there k e again same lasting) ∙ p.0 in
    let named : command_of (opcode again) ≡ Some was.command = ap command_of same.opcode ∙ was.named in
    let b : lists w again (data_of other again) ≡ Ok tt =
    ap (λ c. judgement_by (list_rule c w again (data_of other again))) (ap command_of same.opcode)
    ∙ ap judgement_by (same-list (command_of (opcode e)) w e again (data_of window e) (data_of other again) same read)
    ∙ p.1 in
    let judged = passes-again w there k again other a reaches b in
    let then = performed w there k again other was.command judged named in
    record {
      succeeds = ap (λ x. is_success x.status) then;
      world = ap (λ x. x.world) then
          ∙ same-effect was.command w e again (data_of window e) (data_of other again) same read
          ∙ sym (ap (λ x. x.world) (performed w queues k e window was.command was.judged was.named));
    }
