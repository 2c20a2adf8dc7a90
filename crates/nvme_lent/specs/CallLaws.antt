-- Statements of the laws in `laws.rt`: the effect of a list of calls on a medium's own blocks, on
-- borrowed bytes or on brought blocks.
use Rattle.std.specs.Prelude.{◌≡◌, List, [], ◌∷◌}
use Rattle.nvme_brought.specs.CallLaws.{AllFail}
use Rattle.nvme_spec.specs.FaultFreeCalls.{content_step}
use Rattle.nvme_spec.specs.MediumCalls.{MediumCall, Calls, Reads, Writes, Flushes}
use Rattle.nvme_lent.specs.OwnOrLent.{bytes_of, step_of, extent_of, IsInMemory, NothingIsAtHand}
use Rattle.nvme_lent.specs.declared.either.OwnOrLent.{OwnOrLent}

-- Borrowed bytes keep their address and length.
abbrev pub LentBytesStay : Type 0
LentBytesStay =
    (old new : OwnOrLent) → (calls : List MediumCall) → Calls step_of old calls new → extent_of new ≡ extent_of old

-- A medium in memory stays in memory.
abbrev pub MemoryStays : Type 0
MemoryStays =
    (old new : OwnOrLent) → (calls : List MediumCall) → IsInMemory old → Calls step_of old calls new → IsInMemory new

-- The blocks of a medium in memory hold what the writes among the calls leave.
abbrev pub BytesFollow : Type 0
BytesFollow =
    (old new : OwnOrLent) → (calls : List MediumCall) → IsInMemory old → Calls step_of old calls new
    → Calls content_step (bytes_of old) calls (bytes_of new)

abbrev pub IsRead : MediumCall → Type 0
IsRead (Reads i answer) = Unit {0}
IsRead (Writes i block answer) = ⊥
IsRead (Flushes answer) = ⊥

abbrev pub AreReads : List MediumCall → Type 0
AreReads [] = Unit {0}
AreReads (call ∷ calls) = IsRead call × AreReads calls

-- Reads leave a medium in memory unchanged.
abbrev pub ReadsLeave : Type 0
ReadsLeave =
    (old new : OwnOrLent) → (calls : List MediumCall) → IsInMemory old → AreReads calls
    → Calls step_of old calls new → new ≡ old

-- Without a block at hand each call fails, and the content is unchanged.
abbrev pub CallsNeedBlocks : Type 0
CallsNeedBlocks =
    (old new : OwnOrLent) → (calls : List MediumCall) → NothingIsAtHand old → Calls step_of old calls new
    → AllFail calls × NothingIsAtHand new × (bytes_of new ≡ bytes_of old)
