-- For `core_reservations.rt`: the results of reservation actions, and the states that they leave.
use Rattle.std.specs.Prelude.{◌≡◌, Result, Ok, Err}
use Rattle.nvme_wire.specs.declared.status.Status.{Status}
use Rattle.nvme_spec.specs.Reservation.{Reservation, Transition}
use Rattle.nvme_resv.specs.declared.change.Change.{Change}
use Rattle.nvme_resv.specs.Answers.{Follows}

pub core_denied_actions_status : (why : Status) → (before after : Reservation) → (result : Result Change Status)
    → Follows (Err why) before result after → result ≡ Err why
core_denied_actions_status why before after result x = let both : (result ≡ Err why) × (after ≡ before) = x in both.0

pub core_denied_actions_unchanged : (why : Status) → (before after : Reservation) → (result : Result Change Status)
    → Follows (Err why) before result after → after ≡ before
core_denied_actions_unchanged why before after result x =
    let both : (result ≡ Err why) × (after ≡ before) = x in both.1

pub core_allowed_actions_removed : (t : Transition) → (before after : Reservation) → (result : Result Change Status)
    → Follows (Ok t) before result after → result ≡ Ok (record { removed = record { items = t.removed } })
core_allowed_actions_removed t before after result x =
    let both : (result ≡ Ok (record { removed = record { items = t.removed } })) × (after ≡ t.next) = x in both.0

pub core_allowed_actions_next : (t : Transition) → (before after : Reservation) → (result : Result Change Status)
    → Follows (Ok t) before result after → after ≡ t.next
core_allowed_actions_next t before after result x =
    let both : (result ≡ Ok (record { removed = record { items = t.removed } })) × (after ≡ t.next) = x in both.1
