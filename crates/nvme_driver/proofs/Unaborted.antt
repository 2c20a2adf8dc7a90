-- For the answers of `hand_up` and `place`: slots without an aborted request stay so if one is freed, or gets a live
-- request.
use Rattle.std.proofs.Common.{◌≡◌, ℕ, zero, suc, List, [], ◌∷◌, Option, None}
use Rattle.std.specs.Prelude.{slice_set}
use Rattle.nvme_driver.specs.declared.slots.Waiting.{Waiting}
use Rattle.nvme_driver.specs.Polls.{aborted_ticket, aborted_at}

pub stays_unaborted : (slots : List (Option Waiting)) (i : ℕ) (slot : Option Waiting) → aborted_ticket slot ≡ None
    → ((k : ℕ) → aborted_at slots k ≡ None) → (k : ℕ) → aborted_at (slice_set slots i slot) k ≡ None
stays_unaborted [] i slot is none_ k = none_ k
stays_unaborted (w ∷ slots) zero slot is none_ zero = is
stays_unaborted (w ∷ slots) zero slot is none_ (suc k) = none_ (suc k)
stays_unaborted (w ∷ slots) (suc i) slot is none_ zero = none_ zero
stays_unaborted (w ∷ slots) (suc i) slot is none_ (suc k) = stays_unaborted slots i slot is (λ m. none_ (suc m)) k
