-- For `fleet_looks.rt`: looks and loads of a driver at its controller.
use Rattle.std.specs.Prelude.{[], ◌≡◌, ◌+◌, ℕ, Bool, List, Option, None, length, slice_range, true}
use Rattle.nvme_spec.specs.MediumCalls.{MediumCall}
use Rattle.nvme_medium.specs.Examples.{logs}
use Rattle.nvme_driver.specs.declared.lane.Lane.{Lane}
use Rattle.nvme_driver.specs.Calls.{Loads, Sees}
use Rattle.nvme_driver.specs.Polls.{seen_in}
use Rattle.nvme_machine.specs.Executing.{Setting}
use Rattle.nvme_machine.specs.Subsystems.{Subsystem}
use Rattle.nvme_refinement.specs.Links.{LinkStep}
use Rattle.nvme_fleet.specs.LinkCalls.{ReachesMedium}

pub fleet_seen : (tells : Bool) → (old new : Setting) → (lane : Lane) → (head : ℕ) → (expected : Bool)
    → (found : Option (List ℕ)) → LinkStep tells old (Sees lane head expected found) new
    → (found ≡ seen_in lane head expected old.controller.window) × (new ≡ old)
fleet_seen tells old new lane head expected found x = x

pub fleet_loaded : (tells : Bool) → (old new : Setting) → (at : ℕ) → (part : List ℕ)
    → LinkStep tells old (Loads at part) new
    → (part ≡ slice_range old.controller.window at (at + length part)) × (new ≡ old)
fleet_loaded tells old new at part x = x

pub fleet_look_reaches_none : (tells : Bool) → (k head : ℕ) → (lane : Lane) → (before after : Subsystem)
    → (made : List MediumCall)
    → ReachesMedium logs tells k before after (Sees lane head true None) [] made → made ≡ []
fleet_look_reaches_none tells k head lane before after made x = x

pub fleet_load_reaches_none : (tells : Bool) → (k at : ℕ) → (before after : Subsystem) → (made : List MediumCall)
    → ReachesMedium logs tells k before after (Loads at []) [] made → made ≡ []
fleet_load_reaches_none tells k at before after made x = x
