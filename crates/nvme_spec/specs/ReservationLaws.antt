-- Predicates of the laws of reservations.
use Rattle.std.specs.Prelude.{not, ◌==◌, IsTrue, List, length, Ok, Err}
use Rattle.nvme_spec.specs.declared.access.Registrant.{Registrant}
use Rattle.nvme_spec.specs.declared.access.Hold.{Hold}
use Rattle.nvme_spec.specs.declared.access.Hold.TheVariants.{Free, One, All}
use Rattle.nvme_spec.specs.Reservation.{Reservation, ActionOutcome, is_registered}

-- the action is not denied, and the next state has this property
abbrev pub Gives : ActionOutcome → (Reservation → Type 0) → Type 0
Gives (Ok transition) P = P transition.next
Gives (Err status) P = ⊥

-- if the action is not denied, the next state has this property
abbrev pub Keeps : ActionOutcome → (Reservation → Type 0) → Type 0
Keeps (Ok transition) P = P transition.next
Keeps (Err status) P = Unit {0}

-- a single holder is a registrant; if all registrants hold the reservation, there is one
abbrev pub IsHoldOf : Hold → List Registrant → Type 0
IsHoldOf Free registrants = Unit {0}
IsHoldOf (One type holder) registrants = IsTrue (is_registered registrants holder)
IsHoldOf (All type) registrants = IsTrue (not (length registrants == 0))

abbrev pub IsHeldByRegistrants : Reservation → Type 0
IsHeldByRegistrants r = IsHoldOf r.hold r.registrants
