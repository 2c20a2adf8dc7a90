-- The events of a controller, by double word 0 of the answer to an Asynchronous Event Request (Base Specification:
-- Asynchronous Event Request command, Completion Queue Entry Dword 0).
use Rattle.std.specs.Prelude.{ℕ, ◌/◌, ◌%◌, ◌^◌, ◌==◌, if◌then◌else◌}
use Rattle.nvme_host.specs.declared.events.Event.{Event}

-- Error Status (1); SMART / Health Status (2); Namespace Attribute Changed (3) and Firmware Activation Starting (4);
-- Reservation Log Page Available (5) and Sanitize Operation Completed (6); another one (0)
abbrev pub notice_kind : ℕ → ℕ
notice_kind info = if info == 0 then 3 else (if info == 1 then 4 else 0)

abbrev pub command_set_kind : ℕ → ℕ
command_set_kind info = if info == 0 then 5 else (if info == 1 then 6 else 0)

abbrev pub event_kind : ℕ → ℕ → ℕ
event_kind event_type info =
    if event_type == 0 then 1
    else (if event_type == 1 then 2
    else (if event_type == 2 then notice_kind info
    else (if event_type == 6 then command_set_kind info else 0)))

-- the type in bits 2:0, its information in bits 15:8, the log page in bits 23:16
abbrev pub event_of : ℕ → Event
event_of word = record {
  kind = event_kind (word % 2 ^ 3) (word / 2 ^ 8 % 2 ^ 8);
  event_type = word % 2 ^ 3;
  info = word / 2 ^ 8 % 2 ^ 8;
  log_page = word / 2 ^ 16 % 2 ^ 8;
}
