-- Blocks that have been read into host memory, for the contracts of `transfer.rt`.
use Rattle.std.specs.Prelude.{◌≡◌, ◌<◌, ◌≤◌, ℕ, ◌+◌, ◌*◌, Bool, List, length, take, slice_range, Result, Ok, Err}
use Rattle.nvme_spec.specs.declared.medium.MediumFault.{MediumFault as Fault}
use Rattle.nvme_spec.specs.Blocks.{Told, block_at, blocks_from}
use Rattle.nvme_spec.specs.MediumCalls.{MediumAnswer, MediumCall, Calls, EndsAt, Reads, course, reads_from}
use Rattle.nvme_spec.specs.Transfers.{with_scattered}

-- block i was read: the bytes that the call returned are now at these addresses, and nothing else has changed
pub record HasReadBlock {M : Type 0} (step : M → MediumCall → M → Type 0) (tells : Bool) (i : ℕ)
    (content addresses : List ℕ) (old new : M) (before after : List ℕ) : Type 0 where
  pub block : List ℕ
  pub long : length block ≡ 512
  pub call : step old (Reads i (Ok block)) new
  pub told : Told tells (block ≡ block_at content i)
  pub window : after ≡ with_scattered before addresses block

-- Reads `count` blocks from block i of the medium into the transfer from its block j, up to the first read that fails.
-- The blocks that were read are at their addresses, and nothing else has changed.
pub record ReadsSome {M : Type 0} (step : M → MediumCall → M → Type 0) (tells : Bool) (i j count : ℕ)
    (content addresses : List ℕ) (old : M) (answer : MediumAnswer) (new : M) (before after : List ℕ) : Type 0 where
  pub passed : ℕ
  pub read : List ℕ
  pub ends : EndsAt count passed answer
  pub size : length read ≡ 512 * passed
  pub made : Calls step old (course (reads_from i read) passed answer) new
  pub told : Told tells (read ≡ blocks_from content i (512 * passed))
  pub window : after ≡ with_scattered before (slice_range addresses (512 * j) (512 * j + 512 * passed)) read

-- as `ReadsSome`, for the number of blocks that the call returns: at least one, at most `most`
abbrev pub ReadsAsMany : {M : Type 0} → (M → MediumCall → M → Type 0) → Bool → ℕ → ℕ → ℕ → List ℕ → List ℕ
    → M → Result ℕ Fault → M → List ℕ → List ℕ → Type 0
ReadsAsMany step tells i j most content addresses old (Ok count) new before after =
    (1 ≤ count) × (count ≤ most)
    × ReadsSome step tells i j count content addresses old (Ok tt) new before after
ReadsAsMany step tells i j most content addresses old (Err fault) new before after =
    ReadsSome step tells i j most content addresses old (Err fault) new before after

-- blocks of the content, from block `first`, are at the first of the addresses, and nothing else has changed
pub record HasReadBlocks (tells : Bool) (content : List ℕ) (first blocks : ℕ)
    (addresses old new : List ℕ) : Type 0 where
  pub read : List ℕ
  pub size : length read ≡ 512 * blocks
  pub told : Told tells (read ≡ blocks_from content first (512 * blocks))
  pub window : new ≡ with_scattered old (take (512 * blocks) addresses) read

-- a read ended at a block that can't be read: those before it have been read
pub record StoppedReading (tells : Bool) (content : List ℕ) (first blocks : ℕ)
    (addresses old new : List ℕ) : Type 0 where
  pub at : ℕ
  pub within : at < blocks
  pub front : HasReadBlocks tells content first at addresses old new
