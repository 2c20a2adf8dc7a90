-- Statuses of commands that are not executed (NVM Express Base Specification 2.0, Status Code).
use Rattle.std.specs.Prelude.{}
use Rattle.nvme_wire.specs.declared.status.Status.{Status}

abbrev pub invalid_field_in_command : Status
invalid_field_in_command = record { sct = 0; sc = 0x02 }

abbrev pub command_id_conflict : Status
command_id_conflict = record { sct = 0; sc = 0x03 }

abbrev pub command_sequence_error : Status
command_sequence_error = record { sct = 0; sc = 0x0c }

abbrev pub data_sgl_length_invalid : Status
data_sgl_length_invalid = record { sct = 0; sc = 0x0f }

abbrev pub sgl_descriptor_type_invalid : Status
sgl_descriptor_type_invalid = record { sct = 0; sc = 0x11 }

abbrev pub sgl_offset_invalid : Status
sgl_offset_invalid = record { sct = 0; sc = 0x16 }

abbrev pub transient_transport_error : Status
transient_transport_error = record { sct = 0; sc = 0x22 }

abbrev pub authentication_required : Status
authentication_required = record { sct = 1; sc = 0x91 }
