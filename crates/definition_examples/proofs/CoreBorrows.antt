-- What is in a namespace after a borrow of its reservation has ended. No contract can say this, since it is a formula.
use Rattle.std.proofs.Common.{refl}
use Rattle.std.specs.Prelude.{◌≡◌}
use Rattle.std.specs.Borrow.{Lends, MutBor}
use Rattle.nvme_spec.specs.Reservation.{Reservation}
use Rattle.nvme_spec.specs.World.{Namespace}
use Rattle.nvme_resv.specs.contracts.reservation.Reservation.{the_row as reservation_row}
use Rattle.nvme_ns.specs.contracts.namespace.Namespace.{the_row as namespace_row}
use Rattle.nvme_ns.specs.Lending.{LendsOwnReservation}

-- the namespace has the reservation that was left there, and is otherwise unchanged
pub core_borrowed_reservation : (n : MutBor Namespace) → (r : MutBor Reservation)
    → LendsOwnReservation n r ≡ Lends namespace_row reservation_row n r (λ w. record n.now { reservation = w })
core_borrowed_reservation n r = refl
