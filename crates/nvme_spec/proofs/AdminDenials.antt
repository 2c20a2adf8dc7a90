-- For laws about statuses and calls: the statuses with which rules deny an admin command.
use Rattle.std.proofs.Common.{ℕ, Bool, true, List, [], ◌∷◌, ◌++◌, Option, None, Some, refl}
use Rattle.nvme_wire.specs.Submission.{opcode, nsid}
use Rattle.nvme_wire.specs.declared.status.Status.{Status}
use Rattle.nvme_spec.specs.declared.command.AdminCommand.{AdminCommand}
use Rattle.nvme_spec.specs.declared.command.AdminCommand.TheVariants.{
  DeleteSubmissionQueue,
  CreateSubmissionQueue,
  DeleteCompletionQueue,
  CreateCompletionQueue,
  Identify,
  SetFeatures,
  GetFeatures,
  NamespaceAttachment,
}
use Rattle.nvme_spec.specs.declared.queues.Queues.{Queues}
use Rattle.nvme_spec.specs.World.{World, Namespace, namespace_of}
use Rattle.nvme_spec.specs.Rules.{first_failure}
use Rattle.nvme_spec.specs.IoRules.{opcode_rule, form_rule}
use Rattle.nvme_spec.specs.DataRules.{pointer_rule, data_fault}
use Rattle.nvme_spec.specs.Attachments as attaching
use Rattle.nvme_spec.specs.AdminCommands as admin
use Rattle.nvme_spec.specs.AdminRules as adminrule
use Rattle.nvme_spec.proofs.Denials.{
  TestsRefuse,
  RuleRefuses,
  JudgementRefuses,
  FailureRefuses,
  RefusalRefuses,
  failure-refuses,
  tests-joined,
  if-refusal,
  refusal-refuses,
  fault-refuses,
  rules-refuse,
}

attach-one : (w : World) (n : ℕ) (other : Bool) (k : ℕ) → TestsRefuse (attaching.attach_tests w n other k)
unfolding attaching.attach_tests
attach-one w n other k = (refl, (refl, tt))

attach-each : (w : World) (n : ℕ) (other : Bool) (ks : List ℕ) → TestsRefuse (attaching.attach_each w n other ks)
attach-each w n other [] = tt
attach-each w n other (k ∷ ks) = tests-joined (attaching.attach_tests w n other k) (attaching.attach_each w n true ks)
    (attach-one w n other k) (attach-each w n true ks)

detach-one : (w : World) (n k : ℕ) → TestsRefuse (attaching.detach_tests w n k)
unfolding attaching.detach_tests
detach-one w n k = (refl, tt)

detach-each : (w : World) (n : ℕ) (ks : List ℕ) → TestsRefuse (attaching.detach_each w n ks)
detach-each w n [] = tt
detach-each w n (k ∷ ks) =
    tests-joined (attaching.detach_tests w n k) (attaching.detach_each w n ks) (detach-one w n k) (detach-each w n ks)

listed : (w : World) (ks : List ℕ) → TestsRefuse (attaching.list_tests w ks)
unfolding attaching.list_tests
listed w ks = (refl, (refl, tt))

unless-refuses : (o : Option Status) (next : World)
    → FailureRefuses o → RefusalRefuses (attaching.unless_refused o next)
unfolding RefusalRefuses
unless-refuses None next h = tt
unless-refuses (Some s) next h = h

attach-refuses : (w : World) (n : ℕ) (ks : List ℕ) → RefusalRefuses (attaching.attach w n ks)
unfolding attaching.attach
attach-refuses w n ks =
    unless-refuses
    (first_failure (attaching.list_tests w ks ++ attaching.attach_each w n (attaching.has_controller w n) ks))
    (attaching.with_attached w n ks)
    (failure-refuses _ (tests-joined (attaching.list_tests w ks) (attaching.attach_each w n
    (attaching.has_controller w n) ks) (listed w ks) (attach-each w n (attaching.has_controller w n) ks)))

detach-refuses : (w : World) (n : ℕ) (ks : List ℕ) → RefusalRefuses (attaching.detach w n ks)
unfolding attaching.detach
detach-refuses w n ks =
    unless-refuses (first_failure (attaching.list_tests w ks ++ attaching.detach_each w n ks))
    (attaching.without_attached w n ks)
    (failure-refuses _
    (tests-joined (attaching.list_tests w ks) (attaching.detach_each w n ks) (listed w ks) (detach-each w n ks)))

list-refuses : (o : Option AdminCommand) (w : World) (e sent : List ℕ) → RuleRefuses (adminrule.list_rule o w e sent)
unfolding adminrule.list_rule
list-refuses None w e sent = tt
list-refuses (Some NamespaceAttachment) w e sent =
    refusal-refuses _ (if-refusal _ _ _ (attach-refuses w (nsid e) (adminrule.listed_controllers sent))
    (detach-refuses w (nsid e) (adminrule.listed_controllers sent)))
list-refuses (Some command) w e sent = tt

field-refuses : (o : Option AdminCommand) (queues : Queues) (n : Option Namespace) (e : List ℕ)
    → RuleRefuses (adminrule.field_rule o queues n e)
unfolding adminrule.submission_deletion_rule adminrule.submission_queue_rule adminrule.completion_deletion_rule
    adminrule.completion_queue_rule adminrule.identify_rule adminrule.set_features_rule adminrule.get_features_rule
    adminrule.selection_rule
field-refuses None queues n e = tt
field-refuses (Some DeleteSubmissionQueue) queues n e = (refl, tt)
field-refuses (Some CreateSubmissionQueue) queues n e = (refl, (refl, (refl, (refl, (refl, (refl, (refl, tt)))))))
field-refuses (Some DeleteCompletionQueue) queues n e = (refl, (refl, tt))
field-refuses (Some CreateCompletionQueue) queues n e = (refl, (refl, (refl, (refl, (refl, tt)))))
field-refuses (Some Identify) queues n e = (refl, tt)
field-refuses (Some SetFeatures) queues n e = (refl, (refl, (refl, (refl, (refl, (refl, tt))))))
field-refuses (Some GetFeatures) queues n e = (refl, (refl, tt))
field-refuses (Some NamespaceAttachment) queues n e = (refl, (refl, tt))

pub admin-refuses : (w : World) (queues : Queues) (k : ℕ) (e window : List ℕ)
    → JudgementRefuses (adminrule.admin_judgement w queues k e window)
unfolding adminrule.admin_judgement opcode_rule form_rule adminrule.nsid_rule adminrule.attachment_rule
    adminrule.reservation_rule pointer_rule
admin-refuses w queues k e window =
    rules-refuse (adminrule.admin_rules w queues k e window) (
      (refl, tt),
      (
        (refl, tt),
        (
          (refl, (refl, tt)),
          (
            (refl, tt),
            (
              field-refuses (admin.command_of (opcode e)) queues (namespace_of w (nsid e)) e,
              (
                (refl, tt),
                (
                  fault-refuses (data_fault (admin.data_length_of (admin.command_of (opcode e)) e) window e),
                  (list-refuses (admin.command_of (opcode e)) w e (adminrule.data_of window e), tt),
                ),
              ),
            ),
          ),
        ),
      ),
    )
