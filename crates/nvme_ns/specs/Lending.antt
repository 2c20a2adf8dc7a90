-- What changes through a borrowed reservation, for the contracts of `reservation_mut`.
use Rattle.std.specs.Prelude.{ℕ}
use Rattle.std.specs.Borrow.{Lends, MutBor, Fml}
use Rattle.nvme_spec.specs.Reservation.{Reservation}
use Rattle.nvme_spec.specs.World.{World, Namespace, with_reservation}
use Rattle.nvme_resv.specs.contracts.reservation.Reservation.{the_row as reservation_row}
use Rattle.nvme_ns.specs.contracts.namespace.Namespace.{the_row as namespace_row}
use Rattle.nvme_ns.specs.contracts.spaces.Spaces.{the_row as spaces_row}

-- when the borrow of r ends, the namespace has the reservation that was left there
abbrev pub LendsOwnReservation : MutBor Namespace → MutBor Reservation → Fml
LendsOwnReservation n r = Lends namespace_row reservation_row n r (λ w. record n.now { reservation = w })

-- when it ends, the access state has that reservation at the namespace
abbrev pub LendsReservation : MutBor World → ℕ → MutBor Reservation → Fml
LendsReservation s nsid r = Lends spaces_row reservation_row s r (λ w. with_reservation s.now nsid w)
