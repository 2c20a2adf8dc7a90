-- The result of an action, for the contracts of all actions.
use Rattle.std.specs.Prelude.{◌≡◌, ℕ, ◌<◌, ◌⊎◌, length, IsTrue, Result, Ok, Err}
use Rattle.nvme_wire.specs.declared.status.Status.{Status}
use Rattle.nvme_spec.specs.Reservation.{Reservation, ActionOutcome, is_registered}
use Rattle.nvme_resv.specs.declared.change.Change.{Change}

-- an action on `old` with this outcome returns `result`, and leaves `new`
abbrev pub Follows : ActionOutcome → Reservation → Result Change Status → Reservation → Type 0
Follows (Err status) old result new = (result ≡ Err status) × (new ≡ old)
Follows (Ok transition) old result new =
    (result ≡ Ok (record { removed = record { items = transition.removed } })) × (new ≡ transition.next)

-- the host is registered, or can be
abbrev pub HasRoomFor : Reservation → ℕ → Type 0
HasRoomFor r host = IsTrue (is_registered r.registrants host) ⊎ (length r.registrants < 16)
