-- Statements of the laws in `laws.rt`, on lists of calls of media in memory, of cached media and of media in files.
use Rattle.std.specs.Prelude.{◌≡◌, ◌<◌, ℕ, ◌+◌, ◌*◌, List, [], ◌∷◌, ◌++◌, length, slice_get, slice_range, Some, Ok}
use Rattle.std.specs.List.{AllByRecursion}
use Rattle.nvme_spec.specs.Blocks.{block_at}
use Rattle.nvme_spec.specs.Bytes.{with_bytes}
use Rattle.nvme_spec.specs.MediumCalls.{MediumAnswer, MediumCall, Reads, Writes, Flushes, Calls}
use Rattle.nvme_medium.specs.Memory.{memory_bytes, memory_step}
use Rattle.nvme_medium.specs.Cached.{calls_behind, keeps_by, AnswersKept}
use Rattle.nvme_medium.specs.FileCalls.{FileCall, ReadsAt, WritesAt, Syncs, AreParts}
use Rattle.nvme_medium.specs.declared.memory.MemMedium.{MemMedium}

-- the content after a call that succeeds
abbrev pub content_after : List ℕ → MediumCall → List ℕ
content_after content (Reads i answer) = content
content_after content (Writes i block answer) = with_bytes content (512 * i) block
content_after content (Flushes answer) = content

-- the content after such calls, one after the other
abbrev pub content_left : List ℕ → List MediumCall → List ℕ
content_left content [] = content
content_left content (call ∷ calls) = content_left (content_after content call) calls

-- a successful call over a content, with its answer
abbrev pub answered : List ℕ → MediumCall → MediumCall
answered content (Reads i answer) = Reads i (Ok (block_at content i))
answered content (Writes i block answer) = Writes i block (Ok tt)
answered content (Flushes answer) = Flushes (Ok tt)

-- such calls, one after the other
abbrev pub all_answered : List ℕ → List MediumCall → List MediumCall
all_answered content [] = []
all_answered content (call ∷ calls) = answered content call ∷ all_answered (content_after content call) calls

-- Calls of a medium in memory have one outcome: each succeeds, a read returns the block that the writes before it left,
-- and the content left is that of the writes in order.
abbrev pub MemoryCallsAreDetermined : Type 0
MemoryCallsAreDetermined =
    (old new : MemMedium) → (calls : List MediumCall) → Calls memory_step old calls new
    → (calls ≡ all_answered (memory_bytes old) calls) × (memory_bytes new ≡ content_left (memory_bytes old) calls)
    × (new.blocks ≡ old.blocks)

-- the call's block is one of the medium, and a write has all of its bytes
abbrev pub LiesWithin : ℕ → MediumCall → Type 0
LiesWithin blocks (Reads i answer) = i < blocks
LiesWithin blocks (Writes i block answer) = (i < blocks) × (length block ≡ 512)
LiesWithin blocks (Flushes answer) = Unit {0}

abbrev pub AllLieWithin : ℕ → List MediumCall → Type 0
AllLieWithin blocks [] = Unit {0}
AllLieWithin blocks (call ∷ calls) = LiesWithin blocks call × AllLieWithin blocks calls

-- And all calls on its blocks can be made.
abbrev pub MemoryCallsCanBeMade : Type 0
MemoryCallsCanBeMade =
    (old : MemMedium) → (calls : List MediumCall) → AllLieWithin old.blocks calls
    → (new : MemMedium) × Calls memory_step old (all_answered (memory_bytes old) calls) new

-- The calls of the inner medium for those of a cached one, by what is cached before each: first those for the first
-- call, then those for the others.
abbrev pub AreBehind : List (ℕ × List ℕ) → List MediumCall → List (ℕ × List ℕ) → List MediumCall → Type 0
AreBehind old [] new inner = (new ≡ old) × (inner ≡ [])
AreBehind old (call ∷ calls) new inner =
    (mid : List (ℕ × List ℕ)) × (rest : List MediumCall) × AnswersKept old call × keeps_by call old mid
    × (inner ≡ calls_behind old call ++ rest) × AreBehind mid calls new rest

-- the writes and flushes, in order
abbrev pub without_reads : List MediumCall → List MediumCall
without_reads [] = []
without_reads (Reads i answer ∷ calls) = without_reads calls
without_reads (Writes i block answer ∷ calls) = Writes i block answer ∷ without_reads calls
without_reads (Flushes answer ∷ calls) = Flushes answer ∷ without_reads calls

-- For any cached blocks, the writes and flushes of the inner medium are those of the caching one, in the same order and
-- with the same answers.
abbrev pub WritesAndFlushesGoOn : Type 0
WritesAndFlushesGoOn =
    (old new : List (ℕ × List ℕ)) → (calls inner : List MediumCall) → AreBehind old calls new inner
    → without_reads inner ≡ without_reads calls

-- The calls of a file for those of the medium in its blocks: first those for the first call, then those for the others.
abbrev pub ArePartsOf : List MediumCall → List FileCall → Type 0
ArePartsOf [] parts = parts ≡ []
ArePartsOf (call ∷ calls) parts =
    (here : List FileCall) × (behind : List FileCall) × AreParts call here × ArePartsOf calls behind
    × (parts ≡ here ++ behind)

-- a write to the file has a part of a block that one of these calls of the medium writes, at the block's offset
pub record WritesPartOf (calls : List MediumCall) (offset : ℕ) (part : List ℕ) : Type 0 where
  pub place : ℕ
  pub block : ℕ
  pub bytes : List ℕ
  pub answer : MediumAnswer
  pub is : slice_get calls place ≡ Some (Writes block bytes answer)
  pub done : ℕ
  pub there : offset ≡ 512 * block + done
  pub has : part ≡ slice_range bytes done 512

-- each call of the file is such a write, a sync for a flush of the medium, or a read
abbrev pub IsPartOf : List MediumCall → FileCall → Type 0
IsPartOf calls (WritesAt offset part moved) = WritesPartOf calls offset part
IsPartOf calls (Syncs answer) = (place : ℕ) × (slice_get calls place ≡ Some (Flushes answer))
IsPartOf calls (ReadsAt offset room moved) = Unit {0}

-- A file is written only with parts of the blocks that are written, each at its place, and it is synced only for a
-- flush.
abbrev pub FilesHaveBlocksAlone : Type 0
FilesHaveBlocksAlone =
    (calls : List MediumCall) → (parts : List FileCall) → ArePartsOf calls parts
    → AllByRecursion (IsPartOf calls) parts

-- the answers of the syncs among calls of a file, and of the flushes among calls of a medium, in order
abbrev pub syncs_of : List FileCall → List MediumAnswer
syncs_of [] = []
syncs_of (Syncs answer ∷ parts) = answer ∷ syncs_of parts
syncs_of (ReadsAt offset room moved ∷ parts) = syncs_of parts
syncs_of (WritesAt offset part moved ∷ parts) = syncs_of parts

abbrev pub flushes_of : List MediumCall → List MediumAnswer
flushes_of [] = []
flushes_of (Flushes answer ∷ calls) = answer ∷ flushes_of calls
flushes_of (Reads i answer ∷ calls) = flushes_of calls
flushes_of (Writes i block answer ∷ calls) = flushes_of calls

-- Each flush is one sync with the same answer, and there are no other syncs.
abbrev pub FlushesAreSyncs : Type 0
FlushesAreSyncs =
    (calls : List MediumCall) → (parts : List FileCall) → ArePartsOf calls parts → syncs_of parts ≡ flushes_of calls
