-- The statuses that a command may be answered with, by their standard names (Base Specification: Generic Command
-- Status, Command Specific Status, Media and Data Integrity Errors; NVM Command Set Specification: status values).
use Rattle.std.specs.Prelude.{ℕ}
use Rattle.nvme_wire.specs.declared.status.Status.{Status}

abbrev pub generic : ℕ → Status
generic code = record { sct = 0; sc = code }

abbrev pub specific : ℕ → Status
specific code = record { sct = 1; sc = code }

abbrev pub media : ℕ → Status
media code = record { sct = 2; sc = code }

abbrev pub successful_completion : Status
successful_completion = generic 0x00

abbrev pub invalid_command_opcode : Status
invalid_command_opcode = generic 0x01

abbrev pub invalid_field_in_command : Status
invalid_field_in_command = generic 0x02

abbrev pub data_transfer_error : Status
data_transfer_error = generic 0x04

abbrev pub invalid_namespace_or_format : Status
invalid_namespace_or_format = generic 0x0b

abbrev pub command_sequence_error : Status
command_sequence_error = generic 0x0c

abbrev pub prp_offset_invalid : Status
prp_offset_invalid = generic 0x13

abbrev pub host_identifier_inconsistent_format : Status
host_identifier_inconsistent_format = generic 0x18

abbrev pub command_aborted_due_to_preempt_and_abort : Status
command_aborted_due_to_preempt_and_abort = generic 0x1b

abbrev pub namespace_is_write_protected : Status
namespace_is_write_protected = generic 0x20

abbrev pub lba_out_of_range : Status
lba_out_of_range = generic 0x80

abbrev pub reservation_conflict : Status
reservation_conflict = generic 0x83

abbrev pub completion_queue_invalid : Status
completion_queue_invalid = specific 0x00

abbrev pub invalid_queue_identifier : Status
invalid_queue_identifier = specific 0x01

abbrev pub invalid_queue_size : Status
invalid_queue_size = specific 0x02

abbrev pub invalid_queue_deletion : Status
invalid_queue_deletion = specific 0x0c

abbrev pub feature_identifier_not_saveable : Status
feature_identifier_not_saveable = specific 0x0d

abbrev pub feature_not_changeable : Status
feature_not_changeable = specific 0x0e

abbrev pub namespace_already_attached : Status
namespace_already_attached = specific 0x18

abbrev pub namespace_is_private : Status
namespace_is_private = specific 0x19

abbrev pub namespace_not_attached : Status
namespace_not_attached = specific 0x1a

abbrev pub controller_list_invalid : Status
controller_list_invalid = specific 0x1c

abbrev pub write_fault : Status
write_fault = media 0x80

abbrev pub unrecovered_read_error : Status
unrecovered_read_error = media 0x81

abbrev pub compare_failure : Status
compare_failure = media 0x85
