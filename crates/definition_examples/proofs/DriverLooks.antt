-- For `driver_looks.rt`: what looks and loads return of memory, and the moment of a poll.
use Rattle.std.proofs.Common.{◌≡◌, ◌≤◌, ℕ, Bool, false, List, Option, Some, Result}
use Rattle.nvme_driver.specs.declared.lane.Lane.{Lane}
use Rattle.nvme_driver.specs.declared.answer.Answer.{Answer}
use Rattle.nvme_driver.specs.declared.faults.PollFault.{PollFault}
use Rattle.nvme_driver.specs.Drivers.{Driver}
use Rattle.nvme_driver.specs.Moments.{IsOfOneLane}
use Rattle.nvme_driver.specs.Polls.{entry_at, has_phase}
use Rattle.nvme_driver.specs.Ports.{IsLoaded, IsOld, IsRead, IsSeen, Memory}

pub old_is_later : (m : Memory) (from to head : ℕ) (lane : Lane) (expected : Bool)
    → (x : IsOld m from to lane head expected) → from ≤ x.moment
old_is_later m from to head lane expected x = x.after

pub old_is_sooner : (m : Memory) (from to head : ℕ) (lane : Lane) (expected : Bool)
    → (x : IsOld m from to lane head expected) → x.moment ≤ to
old_is_sooner m from to head lane expected x = x.before

pub old_is_old : (m : Memory) (from to head : ℕ) (lane : Lane) (expected : Bool)
    → (x : IsOld m from to lane head expected) → has_phase expected (entry_at lane head (m x.moment)) ≡ false
old_is_old m from to head lane expected x = x.old

pub loaded_is_sooner : (m : Memory) (from to at : ℕ) (part : List ℕ) → (x : IsLoaded m from to at part) → x.moment ≤ to
loaded_is_sooner m from to at part x = x.before

pub seen_is_read : (m : Memory) (from to head : ℕ) (lane : Lane) (expected : Bool) (entry : List ℕ)
    → IsSeen m from to lane head expected (Some entry) → IsRead m from to lane head expected entry
seen_is_read m from to head lane expected entry x = x

pub poll_is_sooner : (d after : Driver) (m : Memory) (from to : ℕ) (result : Result (Option Answer) PollFault)
    (buffer : List ℕ) → (x : IsOfOneLane d m from to result after buffer) → x.moment ≤ to
poll_is_sooner d after m from to result buffer x = x.before
