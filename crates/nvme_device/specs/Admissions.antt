-- Which requests a driver sends to a device: only those that the device was asked about (Base Specification: Identify
-- Controller data structure, ONCS and MDTS; NVM Command Set Specification: Identify Namespace data structure, NSZE).
use Rattle.std.specs.Prelude.{
  ℕ,
  ◌+◌,
  ◌^◌,
  ◌==◌,
  nat_lt,
  nat_le,
  Bool,
  true,
  ◌||◌,
  if◌then◌else◌,
  Option,
  None,
  Some,
  Result,
  Ok,
  Err,
}
use Rattle.nvme_wire.specs.Entry.{bits}
use Rattle.nvme_spec.specs.declared.command.Command.{Command}
use Rattle.nvme_spec.specs.declared.command.Command.TheVariants.{
  Flush,
  Write,
  Read,
  Compare,
  WriteZeroes,
  ReservationRegister,
  ReservationReport,
  ReservationAcquire,
  ReservationRelease,
}
use Rattle.nvme_device.specs.declared.controller.ControllerFacts.{ControllerFacts}
use Rattle.nvme_device.specs.declared.controller.ControllerFault.{ControllerFault}
use Rattle.nvme_device.specs.declared.namespace.NamespaceFacts.{NamespaceFacts}
use Rattle.nvme_device.specs.declared.namespace.NamespaceFault.{NamespaceFault}
use Rattle.nvme_device.specs.declared.admission.Span.{Span}
use Rattle.nvme_device.specs.declared.admission.Admission.{Admission}
use Rattle.nvme_device.specs.declared.admission.Admission.TheVariants.{
  Admitted,
  ControllerNotAsked,
  Controller,
  NamespaceNotAsked,
  Namespace,
  NotSupported,
  TooLong,
  PastTheEnd,
}

-- ONCS: Compare is bit 0, Write Zeroes bit 3, the commands on reservations are bit 5
abbrev pub is_supported : Command → ℕ → Bool
is_supported Flush oncs = true
is_supported Write oncs = true
is_supported Read oncs = true
is_supported Compare oncs = bits oncs 0 0 == 1
is_supported WriteZeroes oncs = bits oncs 3 3 == 1
is_supported ReservationRegister oncs = bits oncs 5 5 == 1
is_supported ReservationReport oncs = bits oncs 5 5 == 1
is_supported ReservationAcquire oncs = bits oncs 5 5 == 1
is_supported ReservationRelease oncs = bits oncs 5 5 == 1

-- MDTS: a command transfers at most 2 ^ mdts pages of 2 ^ 12 bytes; 0 is no limit, and one above 51 is above all
-- numbers of 64 bits
abbrev pub is_short : ℕ → ℕ → Bool
is_short mdts count = (mdts == 0) || (nat_lt 51 mdts || nat_le count (2 ^ (mdts + 12)))

-- the first reason to refuse a request, over what is known of its controller and its namespace
abbrev pub judged : ControllerFacts → NamespaceFacts → Command → Span → Admission
judged controller namespace command span =
    if is_supported command controller.oncs
    then (if is_short controller.mdts span.bytes
    then (if nat_le (span.slba + span.blocks) namespace.blocks then Admitted else PastTheEnd)
    else TooLong)
    else NotSupported

abbrev pub admission_of :
    Option (Result ControllerFacts ControllerFault) → Option (Result NamespaceFacts NamespaceFault) → Command → Span
    → Admission
admission_of None namespace command span = ControllerNotAsked
admission_of (Some (Err fault)) namespace command span = Controller fault
admission_of (Some (Ok controller)) None command span = NamespaceNotAsked
admission_of (Some (Ok controller)) (Some (Err fault)) command span = Namespace fault
admission_of (Some (Ok controller)) (Some (Ok namespace)) command span = judged controller namespace command span
