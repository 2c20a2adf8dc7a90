-- The rules for admin commands, in order. A rule passes for a command that it doesn't name. The order of the rules and
-- tests is this subsystem's; each rule is the standard's (Base Specification: Admin Command Set, Namespace Identifier
-- Usage, Features, Reservations, Physical Region Page Entry and List, Controller List).
use Rattle.std.specs.Prelude.{
  ℕ,
  ◌+◌,
  ◌*◌,
  ◌%◌,
  ◌==◌,
  nat_lt,
  nat_le,
  Bool,
  true,
  false,
  not,
  ◌&&◌,
  ◌||◌,
  if◌then◌else◌,
  List,
  [],
  ◌∷◌,
  ◌++◌,
  map,
  Option,
  None,
  Some,
  is_none,
  is_some,
}
use Rattle.std.specs.List.{range_with_len}
use Rattle.nvme_wire.specs.Entry.{word_at}
use Rattle.nvme_wire.specs.Submission.{opcode, nsid, prp1}
use Rattle.nvme_spec.specs.declared.access.Group.TheVariants.{Write as Writing}
use Rattle.nvme_spec.specs.declared.access.Protection.{Protection}
use Rattle.nvme_spec.specs.declared.access.Protection.TheVariants.{Open, Protected, UntilCycle}
use Rattle.nvme_spec.specs.declared.command.AdminCommand.{AdminCommand}
use Rattle.nvme_spec.specs.declared.command.AdminCommand.TheVariants.{
  DeleteSubmissionQueue,
  CreateSubmissionQueue,
  DeleteCompletionQueue,
  CreateCompletionQueue,
  Identify,
  SetFeatures,
  GetFeatures,
  NamespaceAttachment,
}
use Rattle.nvme_spec.specs.declared.queues.Queues.{Queues}
use Rattle.nvme_spec.specs.Limits.{highest_queue, fewest_entries, most_entries}
use Rattle.nvme_spec.specs.Memory.{window_size}
use Rattle.nvme_spec.specs.World.{World, Namespace, host_of, namespace_of, is_attached}
use Rattle.nvme_spec.specs.Rules.{Rule, Test, Judgement, test, rule, refusal_tests, first_failing}
use Rattle.nvme_spec.specs.IoRules.{opcode_rule, form_rule, is_no_nsid, permits_group}
use Rattle.nvme_spec.specs.DataRules.{data_in, pointer_rule}
use Rattle.nvme_spec.specs.Attachments.{AttachmentOutcome, attach, detach}
use Rattle.nvme_spec.specs.ExistingQueues.{has_completion_queue, has_submission_queue, is_used, has_io_queue}
use Rattle.nvme_spec.specs.AdminCommands.{
  command_of,
  is_one_of,
  qid,
  queue_size,
  pc,
  cqid,
  cns,
  namespace_structure,
  namespace_list_structure,
  fid,
  number_of_queues,
  host_identifier,
  write_protection,
  sv,
  nsqr,
  ncqr,
  wps,
  exhid,
  sel,
  names_feature,
  asks_for,
  data_length_of,
}
use Rattle.nvme_spec.specs.Statuses as status

-- the command names one namespace
abbrev pub names_namespace : Option AdminCommand → List ℕ → Bool
names_namespace command e =
    is_one_of command (NamespaceAttachment ∷ []) || names_feature command write_protection e
    || asks_for command namespace_structure e

-- 4: no namespace can have this identifier, or no list of namespaces can begin above it
unfoldable pub nsid_rule : Option AdminCommand → List ℕ → Rule
nsid_rule command e = record {
  number = 4;
  tests =
      test (names_namespace command e && is_no_nsid (nsid e)) status.invalid_namespace_or_format
      ∷ test (asks_for command namespace_list_structure e
      && nat_le 0xfffffffe (nsid e)) status.invalid_namespace_or_format
      ∷ [];
}

-- 5: the identifier names no namespace that is attached to the controller
unfoldable pub attachment_rule : Option AdminCommand → World → ℕ → List ℕ → Rule
attachment_rule command w cntlid e =
    rule 5 (names_feature command write_protection e
    && not (is_some (namespace_of w (nsid e)) && is_attached w cntlid (nsid e))) status.invalid_field_in_command

-- 6, for each command: a field has a value that the command does not take.

-- the identifier is not that of an I/O queue
abbrev pub is_foreign : ℕ → Bool
is_foreign identifier = (identifier == 0) || nat_lt highest_queue identifier

-- the tests of a queue at this address, whose entries have this width
abbrev pub base_tests : ℕ → List ℕ → List Test
base_tests width e =
    test (not (prp1 e % 4096 == 0)) status.prp_offset_invalid
    ∷ test (nat_lt window_size (prp1 e + width * queue_size e)) status.invalid_field_in_command
    ∷ []

abbrev pub size_test : List ℕ → Test
size_test e =
    test (nat_lt (queue_size e) fewest_entries || nat_lt most_entries (queue_size e)) status.invalid_queue_size

unfoldable pub completion_queue_rule : Queues → List ℕ → Rule
completion_queue_rule queues e = record {
  number = 6;
  tests =
      test (not (pc e)) status.invalid_field_in_command
      ∷ test (is_foreign (qid e) || has_completion_queue queues (qid e)) status.invalid_queue_identifier
      ∷ size_test e
      ∷ base_tests 16 e;
}

unfoldable pub submission_queue_rule : Queues → List ℕ → Rule
submission_queue_rule queues e = record {
  number = 6;
  tests =
      test (not (pc e)) status.invalid_field_in_command
      ∷ test (is_foreign (qid e) || has_submission_queue queues (qid e)) status.invalid_queue_identifier
      ∷ size_test e
      ∷ test (is_foreign (cqid e)) status.invalid_queue_identifier
      ∷ test (not (has_completion_queue queues (cqid e))) status.completion_queue_invalid
      ∷ base_tests 64 e;
}

unfoldable pub submission_deletion_rule : Queues → List ℕ → Rule
submission_deletion_rule queues e =
    rule 6 ((qid e == 0) || not (has_submission_queue queues (qid e))) status.invalid_queue_identifier

unfoldable pub completion_deletion_rule : Queues → List ℕ → Rule
completion_deletion_rule queues e = record {
  number = 6;
  tests =
      test ((qid e == 0) || not (has_completion_queue queues (qid e))) status.invalid_queue_identifier
      ∷ test (is_used queues (qid e)) status.invalid_queue_deletion
      ∷ [];
}

unfoldable pub identify_rule : List ℕ → Rule
identify_rule e = rule 6 (nat_lt namespace_list_structure (cns e)) status.invalid_field_in_command

-- the namespace is write protected until a power cycle, which no command changes
abbrev pub is_protected_until_cycle : Option Namespace → Bool
is_protected_until_cycle None = false
is_protected_until_cycle (Some n) = lasts_until_cycle n.protection
  where
    lasts_until_cycle : Protection → Bool
    lasts_until_cycle Open = false
    lasts_until_cycle Protected = false
    lasts_until_cycle UntilCycle = true

unfoldable pub set_features_rule : Queues → Option Namespace → List ℕ → Rule
set_features_rule queues namespace e =
    let queues_are_set = fid e == number_of_queues in
    let protection_is_set = fid e == write_protection in
    record {
      number = 6;
      tests =
          test (not (queues_are_set || protection_is_set)) status.invalid_field_in_command
          ∷ test (sv e) status.feature_identifier_not_saveable
          ∷ test (queues_are_set && ((nsqr e == 0xffff) || (ncqr e == 0xffff))) status.invalid_field_in_command
          ∷ test (queues_are_set && has_io_queue queues) status.command_sequence_error
          ∷ test (protection_is_set && nat_lt 2 (wps e)) status.invalid_field_in_command
          ∷ test (protection_is_set && is_protected_until_cycle namespace) status.feature_not_changeable
          ∷ [];
    }

unfoldable pub get_features_rule : List ℕ → Rule
get_features_rule e = record {
  number = 6;
  tests =
      test (not ((fid e == number_of_queues) || (fid e == write_protection)
      || (fid e == host_identifier))) status.invalid_field_in_command
      ∷ test ((fid e == host_identifier) && not (exhid e)) status.invalid_field_in_command
      ∷ [];
}

unfoldable pub selection_rule : Option Namespace → List ℕ → Rule
selection_rule namespace e = record {
  number = 6;
  tests = test (nat_lt 1 (sel e)) status.invalid_field_in_command
      ∷ test (is_none namespace) status.invalid_field_in_command ∷ [];
}

abbrev pub field_rule : Option AdminCommand → Queues → Option Namespace → List ℕ → Rule
field_rule None queues namespace e = record { number = 6; tests = [] }
field_rule (Some DeleteSubmissionQueue) queues namespace e = submission_deletion_rule queues e
field_rule (Some CreateSubmissionQueue) queues namespace e = submission_queue_rule queues e
field_rule (Some DeleteCompletionQueue) queues namespace e = completion_deletion_rule queues e
field_rule (Some CreateCompletionQueue) queues namespace e = completion_queue_rule queues e
field_rule (Some Identify) queues namespace e = identify_rule e
field_rule (Some SetFeatures) queues namespace e = set_features_rule queues namespace e
field_rule (Some GetFeatures) queues namespace e = get_features_rule e
field_rule (Some NamespaceAttachment) queues namespace e = selection_rule namespace e

-- 7: the reservation does not permit its host to write
unfoldable pub reservation_rule : Option AdminCommand → Option Namespace → Option ℕ → Rule
reservation_rule command namespace host =
    rule 7 (is_one_of command (NamespaceAttachment ∷ [])
    && not (permits_group namespace host Writing)) status.reservation_conflict

-- the rules before those on the data
abbrev pub admin_access_rules : World → Queues → ℕ → List ℕ → List Rule
admin_access_rules w queues cntlid e =
    let command = command_of (opcode e) in
    let namespace = namespace_of w (nsid e) in
    opcode_rule command
    ∷ form_rule e
    ∷ nsid_rule command e
    ∷ attachment_rule command w cntlid e
    ∷ field_rule command queues namespace e
    ∷ reservation_rule command namespace (host_of w cntlid)
    ∷ []

-- the number of controllers of a Controller List: its first two bytes
unfoldable pub list_count : List ℕ → ℕ
list_count bytes = word_at bytes 0

-- the controllers of a list: two bytes each
unfoldable pub listed_controllers : List ℕ → List ℕ
listed_controllers bytes = map (λ i. word_at bytes (2 + 2 * i)) (range_with_len 0 (list_count bytes))

-- the world after a namespace is attached to the listed controllers, or detached from them
abbrev pub attachment_outcome : World → List ℕ → List ℕ → AttachmentOutcome
attachment_outcome w e sent =
    if sel e == 0 then attach w (nsid e) (listed_controllers sent) else detach w (nsid e) (listed_controllers sent)

-- 11: the list is refused
unfoldable pub list_rule : Option AdminCommand → World → List ℕ → List ℕ → Rule
list_rule (Some NamespaceAttachment) w e sent =
    record { number = 11; tests = refusal_tests (attachment_outcome w e sent) }
list_rule command w e sent = record { number = 11; tests = [] }

-- the data of a command in its host's memory
abbrev pub data_of : List ℕ → List ℕ → List ℕ
data_of window e = data_in (data_length_of (command_of (opcode e)) e) window e

-- all rules for an admin command, in order
abbrev pub admin_rules : World → Queues → ℕ → List ℕ → List ℕ → List Rule
admin_rules w queues cntlid e window =
    let command = command_of (opcode e) in
    admin_access_rules w queues cntlid e
    ++ pointer_rule (data_length_of command e) window e
    ∷ list_rule command w e (data_of window e)
    ∷ []

-- the verdict of all rules on an admin command of a controller, by its queues and its host's memory
unfoldable pub admin_judgement : World → Queues → ℕ → List ℕ → List ℕ → Judgement
admin_judgement w queues cntlid e window = first_failing (admin_rules w queues cntlid e window)
