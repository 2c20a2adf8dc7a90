-- The access state after a power cycle (Base Specification: Persist Through Power Loss of Reservations; Namespace Write
-- Protection, Write Protect Until Power Cycle).
use Rattle.std.specs.Prelude.{if◌then◌else◌, map}
use Rattle.nvme_spec.specs.declared.access.Protection.{Protection}
use Rattle.nvme_spec.specs.declared.access.Protection.TheVariants.{Open, Protected, UntilCycle}
use Rattle.nvme_spec.specs.Reservation.{Reservation, unreserved}
use Rattle.nvme_spec.specs.World.{Namespace, World}

-- Registrants, reservation and generation persist if PTPL is set; else nobody is registered any more.
abbrev pub cycled_reservation : Reservation → Reservation
cycled_reservation r = if r.ptpl then r else unreserved

-- a protection until a power cycle ends
abbrev pub cycled_protection : Protection → Protection
cycled_protection Open = Open
cycled_protection Protected = Protected
cycled_protection UntilCycle = Open

abbrev pub cycled_namespace : Namespace → Namespace
cycled_namespace n =
    record n { protection = cycled_protection n.protection; reservation = cycled_reservation n.reservation }

-- controllers, attachments and the places of namespaces are unchanged
unfoldable pub cycled_world : World → World
cycled_world w = record w { namespaces = map cycled_namespace w.namespaces }
