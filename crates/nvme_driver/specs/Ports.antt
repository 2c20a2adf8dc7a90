-- What the looks and loads of a port return: of a window that nobody else writes, and of memory that a device writes at
-- any moment (Base Specification: Completion Queue Entry, Phase Tag).
use Rattle.std.specs.Prelude.{
  ◌≡◌,
  ◌≤◌,
  ℕ,
  ◌+◌,
  Bool,
  true,
  false,
  List,
  ◌++◌,
  length,
  take,
  drop,
  slice_range,
  Option,
  None,
  Some,
}
use Rattle.nvme_driver.specs.declared.lane.Lane.{Lane}
use Rattle.nvme_driver.specs.Calls.{Call, Sees, Loads}
use Rattle.nvme_driver.specs.Polls.{entry_at, has_phase, seen_in}

-- A port over a window that its looks and loads leave: they return what is there.
pub record IsStill {S : Type 0} (step : S → Call → S → Type 0) (bytes : S → List ℕ) : Type 0 where
  pub sees : (lane : Lane) (head : ℕ) (expected : Bool) (seen : Option (List ℕ)) (p q : S)
      → step p (Sees lane head expected seen) q → (seen ≡ seen_in lane head expected (bytes p)) × (q ≡ p)
  pub loads : (at : ℕ) (part : List ℕ) (p q : S)
      → step p (Loads at part) q → (part ≡ slice_range (bytes p) at (at + length part)) × (q ≡ p)

-- the bytes of a device's memory at each moment
abbrev pub Memory : Type 0
Memory = ℕ → List ℕ

-- What a look finds in such memory between two moments: the double word with the phase tag, the last of the entry, is
-- read at one moment, and if it has the expected tag, the other twelve bytes at a later one.
pub record IsOld (m : Memory) (from to : ℕ) (lane : Lane) (head : ℕ) (expected : Bool) : Type 0 where
  pub moment : ℕ
  pub after : from ≤ moment
  pub before : moment ≤ to
  pub old : has_phase expected (entry_at lane head (m moment)) ≡ false

pub record IsRead (m : Memory) (from to : ℕ) (lane : Lane) (head : ℕ) (expected : Bool) (entry : List ℕ) : Type 0
  where
    pub first : ℕ
    pub second : ℕ
    pub after : from ≤ first
    pub rest_later : first ≤ second
    pub before : second ≤ to
    pub new : has_phase expected (entry_at lane head (m first)) ≡ true
    pub bytes : entry ≡ take 12 (entry_at lane head (m second)) ++ drop 12 (entry_at lane head (m first))

abbrev pub IsSeen : Memory → ℕ → ℕ → Lane → ℕ → Bool → Option (List ℕ) → Type 0
IsSeen m from to lane head expected None = IsOld m from to lane head expected
IsSeen m from to lane head expected (Some entry) = IsRead m from to lane head expected entry

-- what a load returns: bytes that are there at one moment
pub record IsLoaded (m : Memory) (from to : ℕ) (at : ℕ) (part : List ℕ) : Type 0 where
  pub moment : ℕ
  pub after : from ≤ moment
  pub before : moment ≤ to
  pub bytes : part ≡ slice_range (m moment) at (at + length part)

-- A port over such memory, whose clock never goes back.
pub record IsOverMemory {S : Type 0} (step : S → Call → S → Type 0) (m : Memory) (clock : S → ℕ) : Type 0 where
  pub runs : (call : Call) (p q : S) → step p call q → clock p ≤ clock q
  pub sees : (lane : Lane) (head : ℕ) (expected : Bool) (seen : Option (List ℕ)) (p q : S)
      → step p (Sees lane head expected seen) q → IsSeen m (clock p) (clock q) lane head expected seen
  pub loads : (at : ℕ) (part : List ℕ) (p q : S)
      → step p (Loads at part) q → IsLoaded m (clock p) (clock q) at part
