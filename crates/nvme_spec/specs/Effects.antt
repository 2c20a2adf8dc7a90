-- The effect of an allowed command on the blocks of a medium, with and without a fault (NVM Command Set Specification:
-- Read, Write, Compare, Write Zeroes, Flush; Base Specification: Media and Data Integrity Errors). Blocks are numbered
-- on the medium. Each effect defines the failure count: it stays, or a fault is answered.
use Rattle.std.specs.Prelude.{◌≡◌, ◌≢◌, ◌<◌, ◌⊎◌, ℕ, ◌*◌, Bool, List, length, take}
use Rattle.nvme_wire.specs.declared.status.Status.{Status}
use Rattle.nvme_spec.specs.Bytes.{with_bytes}
use Rattle.nvme_spec.specs.Blocks.{Device, Told, blocks_from, HasFailed, StopsWriting, IsFront}
use Rattle.nvme_spec.specs.Statuses as status

-- no call of the medium failed, and this status is answered
pub record Completes (old new : Device) (answer status : Status) : Type 0 where
  pub answered : answer ≡ status
  pub failures : new.failures ≡ old.failures

-- a call of the medium failed, and this status is answered
pub record Faults (old new : Device) (answer status : Status) : Type 0 where
  pub answered : answer ≡ status
  pub failures : HasFailed old.failures new.failures

-- the blocks are unchanged
abbrev pub KeepsBlocks : Bool → Device → Device → Type 0
KeepsBlocks tells old new = Told tells (new.content ≡ old.content)

-- Read: the bytes of the blocks; after a fault those of the blocks before it
abbrev pub ReadEffect : Bool → ℕ → ℕ → Device → Device → Status → List ℕ → Type 0
ReadEffect tells first bytes old new answer read =
    KeepsBlocks tells old new
    × ((Completes old new answer status.successful_completion × (length read ≡ bytes)
    × Told tells (read ≡ blocks_from old.content first bytes))
    ⊎ (Faults old new answer status.unrecovered_read_error × IsFront tells first bytes old.content read))

-- Write: the blocks hold the bytes; after a fault those before it do, its block may hold any, and later ones are
-- unchanged
abbrev pub WriteEffect : Bool → ℕ → List ℕ → Device → Device → Status → Type 0
WriteEffect tells first bytes old new answer =
    (Completes old new answer status.successful_completion
    × Told tells (new.content ≡ with_bytes old.content (512 * first) bytes))
    ⊎ (Faults old new answer status.write_fault × Told tells (StopsWriting first bytes old.content new.content))

-- before one of its blocks, a Compare found the same bytes
pub record HasSameFront (first : ℕ) (bytes content : List ℕ) : Type 0 where
  pub at : ℕ
  pub within : 512 * at < length bytes
  pub same : blocks_from content first (512 * at) ≡ take (512 * at) bytes

-- Compare: whether the blocks hold the bytes; after a fault those before it do
abbrev pub CompareEffect : Bool → ℕ → List ℕ → Device → Device → Status → Type 0
CompareEffect tells first bytes old new answer =
    KeepsBlocks tells old new
    × ((Completes old new answer status.successful_completion
    × Told tells (blocks_from old.content first (length bytes) ≡ bytes))
    ⊎ (Completes old new answer status.compare_failure
    × Told tells (blocks_from old.content first (length bytes) ≢ bytes))
    ⊎ (Faults old new answer status.unrecovered_read_error × Told tells (HasSameFront first bytes old.content)))

-- Flush: nothing changes
abbrev pub FlushEffect : Bool → Device → Device → Status → Type 0
FlushEffect tells old new answer =
    KeepsBlocks tells old new
    × (Completes old new answer status.successful_completion ⊎ Faults old new answer status.write_fault)
