-- Hosts, reservations and outcomes of the worked examples.
use Rattle.std.specs.Prelude.{ℕ, ◌+◌, ◌^◌, Bool, List, [], ◌∷◌, Ok, Err, true, false}
use Rattle.nvme_spec.specs.declared.access.Registrant.{Registrant}
use Rattle.nvme_spec.specs.declared.access.Hold.{Hold}
use Rattle.nvme_spec.specs.declared.access.Role.{Role}
use Rattle.nvme_spec.specs.declared.access.Role.TheVariants.{Outsider, Registrant as OnlyRegistrant, Holder}
use Rattle.nvme_spec.specs.declared.access.Group.TheVariants.{Read, Write}
use Rattle.nvme_spec.specs.Reservation.{Reservation, ActionOutcome, becomes}
use Rattle.nvme_spec.specs.Access.{is_permitted_under}
use Rattle.nvme_spec.specs.Report.{ControllerHost}

-- the outcome of a Preempt: the next state, and the removed hosts
abbrev pub preempting : Reservation → List ℕ → ActionOutcome
preempting state hosts = Ok (record { next = state; removed = hosts })

-- one action after another, up to the first that is denied
abbrev pub and_then : ActionOutcome → (Reservation → ActionOutcome) → ActionOutcome
and_then (Ok transition) action = action transition.next
and_then (Err status) action = Err status

abbrev pub steps : Reservation → List (Reservation → ActionOutcome) → ActionOutcome
steps r [] = becomes r
steps r (action ∷ []) = action r
steps r (action ∷ next ∷ rest) = and_then (action r) (λ state. steps state (next ∷ rest))

-- whether a role may read, and whether it may write
abbrev pub reads_and_writes : ℕ → Role → Bool × Bool
reads_and_writes type role = (is_permitted_under type role Read, is_permitted_under type role Write)

-- the permissions of a host that is not registered, of a registrant and of a holder under a type
abbrev pub permissions : ℕ → List (Bool × Bool)
permissions type =
    reads_and_writes type Outsider ∷ reads_and_writes type OnlyRegistrant ∷ reads_and_writes type Holder ∷ []

-- the registrants a1h, b2h and c3h, by their keys
abbrev pub a1 : ℕ → Registrant
a1 key_of_a1 = record { host = 0xa1; key = key_of_a1 }

abbrev pub b2 : ℕ → Registrant
b2 key_of_b2 = record { host = 0xb2; key = key_of_b2 }

abbrev pub c3 : ℕ → Registrant
c3 key_of_c3 = record { host = 0xc3; key = key_of_c3 }

-- a host with the lower 64 bits of host a1h
abbrev pub wide : ℕ → Registrant
wide its_key = record { host = 2 ^ 64 + 0xa1; key = its_key }

abbrev pub state : List Registrant → Hold → ℕ → Reservation
state rising held changes = record { registrants = rising; hold = held; generation = changes; ptpl = false }

-- the same, if these persist through power loss
abbrev pub persistent : List Registrant → Hold → ℕ → Reservation
persistent rising held changes = record { registrants = rising; hold = held; generation = changes; ptpl = true }

-- controllers 1 and 3 belong to host a1h, controller 2 to host b2h, controller 4 to host c3h
abbrev pub four_controllers : List ControllerHost
four_controllers = (1, 0xa1) ∷ (2, 0xb2) ∷ (3, 0xa1) ∷ (4, 0xc3) ∷ []

-- controller 1 belongs to the host with a 1 above the lower 64 bits, controllers 2 and 3 to host a1h
abbrev pub wide_controllers : List ControllerHost
wide_controllers = (1, 2 ^ 64 + 0xa1) ∷ (2, 0xa1) ∷ (3, 0xa1) ∷ []
