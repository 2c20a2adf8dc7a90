-- The access state for C: attachments, registrants and holders, as contracts of `access.rt` cite them.
use Rattle.std.specs.Prelude.{ℕ, ◌/◌, ◌%◌, ◌^◌, length, false, if◌then◌else◌, Option, Some, None, slice_get}
use Rattle.nvme_spec.specs.declared.access.Hold.{Hold as Holding}
use Rattle.nvme_spec.specs.declared.access.Hold.TheVariants.{Free, One, All}
use Rattle.nvme_spec.specs.declared.access.Registrant.{Registrant as Registered}
use Rattle.nvme_spec.specs.AdminCommands.{state_of}
use Rattle.nvme_spec.specs.World.{World, Namespace, namespace_of, is_attached}
use Rattle.nvme_library.specs.declared.answer.Answer.{Answer}
use Rattle.nvme_library.specs.declared.access.Hold.{Hold}
use Rattle.nvme_library.specs.declared.access.Registrant.{Registrant}
use Rattle.nvme_library.specs.Answers.{value_answer, closed}
use Rattle.nvme_library.specs.Holding.{Inside}

-- whether a controller is attached to a namespace
abbrev pub attachment : ℕ → ℕ → Option Inside → Answer
attachment cntlid nsid None = closed
attachment cntlid nsid (Some s) = value_answer (if is_attached s.state.world cntlid nsid then 1 else 0)

-- the type of a reservation and its one holder, 0 each if there is none
abbrev pub holder_of : Holding → ℕ × ℕ
holder_of Free = (0, 0)
holder_of (One type holder) = (type, holder)
holder_of (All type) = (type, 0)

abbrev pub without_hold : ℕ → Hold
without_hold what = record {
  host_low = 0;
  host_high = 0;
  registrants = 0;
  what = what;
  generation = 0;
  protection = 0;
  rtype = 0;
  ptpl = false;
}

abbrev pub hold_of : Namespace → Hold
hold_of n = record {
  host_low = (holder_of n.reservation.hold).1 % 2 ^ 64;
  host_high = (holder_of n.reservation.hold).1 / 2 ^ 64;
  registrants = length n.reservation.registrants;
  what = 0;
  generation = n.reservation.generation;
  protection = state_of n.protection;
  rtype = (holder_of n.reservation.hold).0;
  ptpl = n.reservation.ptpl;
}

abbrev pub if_reserved : Option Namespace → Hold
if_reserved None = without_hold 31
if_reserved (Some n) = hold_of n

abbrev pub reservation_in : ℕ → World → Hold
reservation_in nsid w = if_reserved (namespace_of w nsid)

-- the reservation of a namespace
abbrev pub hold_seen : ℕ → Option Inside → Hold
hold_seen nsid None = without_hold 16
hold_seen nsid (Some s) = reservation_in nsid s.state.world

abbrev pub without_registrant : ℕ → Registrant
without_registrant what = record { host_low = 0; host_high = 0; key = 0; what = what }

abbrev pub registrant_of : Registered → Registrant
registrant_of r = record { host_low = r.host % 2 ^ 64; host_high = r.host / 2 ^ 64; key = r.key; what = 0 }

abbrev pub if_registered : Option Registered → Registrant
if_registered None = without_registrant 32
if_registered (Some r) = registrant_of r

abbrev pub registrant_at : ℕ → Option Namespace → Registrant
registrant_at i None = without_registrant 31
registrant_at i (Some n) = if_registered (slice_get n.reservation.registrants i)

abbrev pub registrant_in : ℕ → ℕ → World → Registrant
registrant_in nsid i w = registrant_at i (namespace_of w nsid)

-- the i-th of the hosts that are registered with a namespace
abbrev pub registrant_seen : ℕ → ℕ → Option Inside → Registrant
registrant_seen nsid i None = without_registrant 16
registrant_seen nsid i (Some s) = registrant_in nsid i s.state.world
