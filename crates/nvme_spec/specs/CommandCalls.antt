-- The calls that an I/O command makes of the medium, by their answers (NVM Command Set Specification: Read, Write,
-- Compare, Write Zeroes, Flush; Base Specification: Media and Data Integrity Errors). They also describe a command on a
-- medium that does not reveal its content.
use Rattle.std.specs.Prelude.{◌≡◌, ℕ, ◌*◌, List, [], length, take}
use Rattle.nvme_wire.specs.declared.status.Status.{Status}
use Rattle.nvme_spec.specs.declared.command.Command.{Command}
use Rattle.nvme_spec.specs.declared.verdict.Verdict.{Verdict}
use Rattle.nvme_spec.specs.declared.verdict.Verdict.TheVariants.{Allowed, Denied}
use Rattle.nvme_spec.specs.MediumCalls.{MediumAnswer, MediumCall}
use Rattle.nvme_spec.specs.World.{World}
use Rattle.nvme_spec.specs.Commands.{block_count, data_length}
use Rattle.nvme_spec.specs.Transfers.{with_scattered}
use Rattle.nvme_spec.specs.DataRules.{data_addresses}
use Rattle.nvme_spec.specs.IoData.{data_of}
use Rattle.nvme_spec.specs.BlockCommands.{Reaches, calls_of}
use Rattle.nvme_spec.specs.Execution.{medium_block}

-- the blocks are stored at the first of the addresses, and nothing else has changed
abbrev pub HandsUp : List ℕ → List ℕ → List ℕ → ℕ → List ℕ → Type 0
HandsUp old new addresses blocks read =
    (length read ≡ 512 * blocks) × (new ≡ with_scattered old (take (512 * blocks) addresses) read)

-- The calls of a command, in order, up to the first that fails, and no others; and its status.
pub record AreCallsOf (command : Command) (first blocks : ℕ) (sent : List ℕ) (stored : ℕ → List ℕ → Type 0)
    (answered : Status) (calls : List MediumCall) : Type 0 where
  pub read : List ℕ
  pub passed : ℕ
  pub answer : MediumAnswer
  pub reached : Reaches command blocks sent stored read passed answer answered
  pub are : calls ≡ calls_of command first blocks sent read passed answer

-- the same for an allowed command, by its entry, and by host memory before and after it
abbrev pub AreCallsOfEntry : Command → World → List ℕ → List ℕ → Status → List ℕ → List MediumCall → Type 0
AreCallsOfEntry command w memory e answered after calls =
    AreCallsOf command (medium_block w e) (block_count e) (data_of memory e)
    (HandsUp memory after (data_addresses (data_length command e) memory e)) answered calls

-- by the verdict of the rules: a denied command makes no call
abbrev pub AreCallsBy : Verdict → World → List ℕ → List ℕ → Status → List ℕ → List MediumCall → Type 0
AreCallsBy (Denied number why) w memory e answered after calls = calls ≡ []
AreCallsBy (Allowed plan) w memory e answered after calls = AreCallsOfEntry plan.kind w memory e answered after calls
