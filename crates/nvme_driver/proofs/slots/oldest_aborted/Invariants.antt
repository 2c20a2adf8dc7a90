use Rattle.std.proofs.Common.{◌≡◌, ◌<◌, ℕ, length, IfSome, None, Some}
use Rattle.nvme_driver.specs.Polls.{aborted_at, IsNotBelow}
use Rattle.nvme_driver.proofs.slots.oldest_aborted.Given as goal

abbrev pub invariant-loop-slot : goal.invariant-loop-slot
invariant-loop-slot l =
    record {
      none : l.oldest ≡ None → (k : ℕ) → k < l.slot → aborted_at l.slots k ≡ None;
      some : IfSome l.oldest (λ o. (o.0 < length l.slots) × (aborted_at l.slots o.0 ≡ Some o.1)
          × ((k : ℕ) → k < l.slot → IsNotBelow o.1 (aborted_at l.slots k)));
    }
