-- Reads of several blocks onto a buffer, for the contracts of `read_blocks`.
use Rattle.std.specs.Prelude.{◌≡◌, ◌<◌, ◌⊎◌, ℕ, ◌*◌, Bool, IsTrue, List, length, take, drop}
use Rattle.nvme_spec.specs.Blocks.{Told, block_at, blocks_from}
use Rattle.nvme_spec.specs.MediumCalls.{MediumAnswer, MediumCall, Calls, EndsAt, course, reads_from}

-- Blocks are read into a buffer, from block `first`. The calls are one read for each, in rising order, up to the first
-- that fails. The front of the buffer has the blocks that these calls returned, which are those of the medium; the rest
-- is unchanged.
pub record ReadsBlocks {M : Type 0} (step : M → MediumCall → M → Type 0) (tells : Bool) (content : List ℕ)
    (first count : ℕ) (buffer left : List ℕ) (old : M) (answer : MediumAnswer) (new : M) : Type 0 where
  pub passed : ℕ
  pub ends : EndsAt count passed answer
  pub made : Calls step old (course (reads_from first left) passed answer) new
  pub read : Told tells (take (512 * passed) left ≡ blocks_from content first (512 * passed))
  pub behind : drop (512 * passed) left ≡ drop (512 * passed) buffer
  pub long : length left ≡ length buffer

-- the first blocks of two buffers are the same
abbrev pub GiveTheSame : ℕ → List ℕ → List ℕ → Type 0
GiveTheSame blocks one two = (j : ℕ) → j < blocks → block_at one j ≡ block_at two j

-- The buffer after the reads is determined by the number of reads that succeeded and, if the medium does not reveal its
-- content, by the blocks that they returned.
abbrev pub ReadingIsUnique : {M : Type 0} → (M → MediumCall → M → Type 0) → Type 0
ReadingIsUnique {M} step =
    (tells : Bool) → (content : List ℕ) → (first count : ℕ) → (buffer left other : List ℕ)
    → (old new later : M) → (answer reply : MediumAnswer)
    → (one : ReadsBlocks step tells content first count buffer left old answer new)
    → (two : ReadsBlocks step tells content first count buffer other old reply later)
    → one.passed ≡ two.passed → IsTrue tells ⊎ GiveTheSame one.passed left other → left ≡ other

-- For any blocks that the calls return, there is such a buffer.
abbrev pub ReadingExists : {M : Type 0} → (M → MediumCall → M → Type 0) → Type 0
ReadingExists {M} step =
    (tells : Bool) → (content : List ℕ) → (first count passed : ℕ) → (buffer given : List ℕ)
    → (old new : M) → (answer : MediumAnswer) → length buffer ≡ 512 * count → length given ≡ 512 * count
    → EndsAt count passed answer → Calls step old (course (reads_from first given) passed answer) new
    → Told tells (take (512 * passed) given ≡ blocks_from content first (512 * passed))
    → (left : List ℕ) × ReadsBlocks step tells content first count buffer left old answer new
