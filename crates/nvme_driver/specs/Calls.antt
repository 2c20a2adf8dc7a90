-- The calls that a driver makes of its port, in order.
use Rattle.std.specs.Prelude.{◌≡◌, ℕ, Bool, Option, List, [], ◌∷◌}
use Rattle.nvme_driver.specs.declared.lane.Lane.{Lane}

-- One call of a port: bytes stored at an address of the window; a register written; a register read with its value; a
-- turn that the device may take; a look at a slot of a lane's completion queue, which finds the entry there if it has
-- this phase tag; and bytes loaded from an address.
pub data Call : Type 0 where
  Stores : ℕ → List ℕ → Call
  Writes : ℕ → ℕ → Call
  Reads : ℕ → ℕ → Call
  Turns : Call
  Sees : Lane → ℕ → Bool → Option (List ℕ) → Call
  Loads : ℕ → List ℕ → Call

-- these calls, in order, can take the port from the old state to the new one
abbrev pub Calls : {S : Type 0} → (S → Call → S → Type 0) → S → List Call → S → Type 0
Calls step old [] new = new ≡ old
Calls {S} step old (call ∷ calls) new = (mid : S) × step old call mid × Calls step mid calls new
