-- The effect of each command on blocks: on the medium, whichever of its calls fail; which calls it makes; and, without
-- faults, as functions (NVM Command Set Specification: Read, Write, Compare, Write Zeroes, Flush; Base Specification:
-- Media and Data Integrity Errors).
use Rattle.std.specs.Prelude.{
  ◌≡◌,
  ◌≢◌,
  ◌<◌,
  ◌≤◌,
  ◌⊎◌,
  ℕ,
  zero,
  suc,
  ◌+◌,
  ◌*◌,
  Bool,
  true,
  ◌&&◌,
  if◌then◌else◌,
  List,
  [],
  ◌∷◌,
  length,
  replicate,
  Result,
  Ok,
  Err,
}
use Rattle.std.specs.Str.{bytes_eq}
use Rattle.nvme_wire.specs.declared.status.Status.{Status}
use Rattle.nvme_spec.specs.declared.command.Command.{Command}
use Rattle.nvme_spec.specs.declared.command.Command.TheVariants.{Flush, Write, Read, Compare, WriteZeroes}
use Rattle.nvme_spec.specs.Bytes.{with_bytes}
use Rattle.nvme_spec.specs.Blocks.{Device, block_at, blocks_from}
use Rattle.nvme_spec.specs.MediumCalls.{
  MediumAnswer,
  MediumCall,
  Reads,
  Flushes,
  read_answer,
  passing,
  course,
  EndsAt,
  reads_from,
  writes_from,
}
use Rattle.nvme_spec.specs.Effects.{ReadEffect, WriteEffect, CompareEffect, FlushEffect}
use Rattle.nvme_spec.specs.Statuses as status

-- The effect of a command on blocks from `first` on the medium, by the data from its host; and the data for the host.
abbrev pub BlockEffect : Bool → Command → ℕ → ℕ → List ℕ → Device → Device → Status → List ℕ → Type 0
BlockEffect tells Flush first blocks sent old new answer returned = FlushEffect tells old new answer × (returned ≡ [])
BlockEffect tells Write first blocks sent old new answer returned =
    WriteEffect tells first sent old new answer × (returned ≡ [])
BlockEffect tells Read first blocks sent old new answer returned =
    ReadEffect tells first (512 * blocks) old new answer returned
BlockEffect tells Compare first blocks sent old new answer returned =
    CompareEffect tells first sent old new answer × (returned ≡ [])
BlockEffect tells WriteZeroes first blocks sent old new answer returned =
    WriteEffect tells first (replicate (512 * blocks) 0) old new answer × (returned ≡ [])
BlockEffect tells command first blocks sent old new answer returned = ⊥

-- The calls of a command on blocks from `first`, by the data from its host: `passed` calls succeeded, the reads among
-- them returned these blocks, and the last call returned this answer. Other commands make no calls.
abbrev pub calls_of : Command → ℕ → ℕ → List ℕ → List ℕ → ℕ → MediumAnswer → List MediumCall
calls_of Flush first blocks sent read passed answer = Flushes answer ∷ []
calls_of Write first blocks sent read passed answer = course (writes_from first sent) passed answer
calls_of WriteZeroes first blocks sent read passed answer =
    course (writes_from first (replicate (512 * blocks) 0)) passed answer
calls_of Read first blocks sent read passed answer = course (reads_from first read) passed answer
calls_of Compare first blocks sent read passed answer = course (reads_from first read) passed answer
calls_of command first blocks sent read passed answer = []

-- a call of the medium succeeded, or the command is answered with this status
abbrev pub answer_of : {E : Type 0} → Result (Unit {0}) E → Status → Status
answer_of (Ok u) fault = status.successful_completion
answer_of (Err e) fault = fault

-- the first `blocks` blocks are the same
abbrev pub AreSame : ℕ → List ℕ → List ℕ → Type 0
AreSame blocks read bytes = (k : ℕ) → k < blocks → block_at read k ≡ block_at bytes k

-- of these blocks only the last one differs
pub record OnlyLastDiffers (blocks : ℕ) (read bytes : List ℕ) : Type 0 where
  pub same : ℕ
  pub last : blocks ≡ same + 1
  pub whole : length read ≡ 512 * blocks
  pub front : AreSame same read bytes
  pub differs : block_at read same ≢ block_at bytes same

-- a Compare has read all blocks, those up to one that differs, or those up to one that can't be read
abbrev pub ComparesUpTo : ℕ → List ℕ → ℕ → List ℕ → MediumAnswer → Status → Type 0
ComparesUpTo blocks bytes passed read (Ok done) answered =
    ((passed ≡ blocks) × AreSame passed read bytes × (answered ≡ status.successful_completion))
    ⊎ ((passed ≤ blocks) × OnlyLastDiffers passed read bytes × (answered ≡ status.compare_failure))
ComparesUpTo blocks bytes passed read (Err fault) answered =
    (passed < blocks) × AreSame passed read bytes × (answered ≡ status.unrecovered_read_error)

-- the number of blocks that a command on blocks processes, by the data from its host, and its answer; a Read has stored
-- the blocks that its calls returned
abbrev pub Reaches : Command → ℕ → List ℕ → (ℕ → List ℕ → Type 0) → List ℕ → ℕ → MediumAnswer → Status → Type 0
Reaches Flush blocks sent stored read passed answer answered = answered ≡ answer_of answer status.write_fault
Reaches Write blocks sent stored read passed answer answered =
    EndsAt blocks passed answer × (answered ≡ answer_of answer status.write_fault)
Reaches WriteZeroes blocks sent stored read passed answer answered =
    EndsAt blocks passed answer × (answered ≡ answer_of answer status.write_fault)
Reaches Read blocks sent stored read passed answer answered =
    EndsAt blocks passed answer × (answered ≡ answer_of answer status.unrecovered_read_error) × stored passed read
Reaches Compare blocks sent stored read passed answer answered = ComparesUpTo blocks sent passed read answer answered
Reaches command blocks sent stored read passed answer answered = Unit {0}

-- the status of a Compare
abbrev pub compared : Bool → Status
compared same = if same then status.successful_completion else status.compare_failure

-- Without faults: the content after a command, its status, and the data for the host.
abbrev pub content_after : Command → ℕ → ℕ → List ℕ → List ℕ → List ℕ
content_after Write first blocks sent content = with_bytes content (512 * first) sent
content_after WriteZeroes first blocks sent content = with_bytes content (512 * first) (replicate (512 * blocks) 0)
content_after command first blocks sent content = content

abbrev pub status_after : Command → ℕ → List ℕ → List ℕ → Status
status_after Compare first sent content = compared (bytes_eq (blocks_from content first (length sent)) sent)
status_after command first sent content = status.successful_completion

abbrev pub data_read : Command → ℕ → ℕ → List ℕ → List ℕ
data_read Read first blocks content = blocks_from content first (512 * blocks)
data_read command first blocks content = []

-- a read of a block of the content
abbrev pub reads_of : ℕ → List ℕ → ℕ → MediumAnswer → MediumCall
reads_of first content j answer = Reads (first + j) (read_answer answer (block_at content (first + j)))

-- the first blocks of a Compare are the same
abbrev pub are_same : ℕ → List ℕ → List ℕ → ℕ → Bool
are_same first sent content zero = true
are_same first sent content (suc n) =
    are_same first sent content n && bytes_eq (block_at content (first + n)) (block_at sent n)

-- the number of blocks that a Compare reads: one more while all before it are the same
abbrev pub blocks_compared : ℕ → List ℕ → List ℕ → ℕ → ℕ
blocks_compared first sent content zero = zero
blocks_compared first sent content (suc n) =
    if are_same first sent content n then suc n else blocks_compared first sent content n

-- the calls of a command over this content, if none of them fails
abbrev pub passing_calls : Command → ℕ → ℕ → List ℕ → List ℕ → List MediumCall
passing_calls Flush first blocks sent content = Flushes (Ok tt) ∷ []
passing_calls Write first blocks sent content = passing (writes_from first sent) blocks
passing_calls WriteZeroes first blocks sent content = passing (writes_from first (replicate (512 * blocks) 0)) blocks
passing_calls Read first blocks sent content = passing (reads_of first content) blocks
passing_calls Compare first blocks sent content =
    passing (reads_of first content) (blocks_compared first sent content blocks)
passing_calls command first blocks sent content = []
