-- The calls that an I/O command makes without faults of a medium that reveals its content, as a function (NVM Command
-- Set Specification: Read, Write, Compare, Write Zeroes, Flush).
use Rattle.std.specs.Prelude.{◌≡◌, ℕ, ◌*◌, Bool, List, [], Ok}
use Rattle.nvme_spec.specs.declared.verdict.Verdict.{Verdict}
use Rattle.nvme_spec.specs.declared.verdict.Verdict.TheVariants.{Allowed, Denied}
use Rattle.nvme_spec.specs.Blocks.{block_at}
use Rattle.nvme_spec.specs.Bytes.{with_bytes}
use Rattle.nvme_spec.specs.BlockCommands.{passing_calls}
use Rattle.nvme_spec.specs.Commands.{block_count}
use Rattle.nvme_spec.specs.Execution.{Scene, medium_block}
use Rattle.nvme_spec.specs.IoData.{data_of, io_verdict}
use Rattle.nvme_spec.specs.MediumCalls.{MediumCall, Reads, Writes, Flushes}

-- A call of such a medium, by its content: it succeeds, a read returns the block, and only a write changes anything.
abbrev pub content_step : List ℕ → MediumCall → List ℕ → Type 0
content_step old (Reads i answer) new = (answer ≡ Ok (block_at old i)) × (new ≡ old)
content_step old (Writes i block answer) new = (answer ≡ Ok tt) × (new ≡ with_bytes old (512 * i) block)
content_step old (Flushes answer) new = (answer ≡ Ok tt) × (new ≡ old)

-- by the verdict of the rules: a denied command makes no call
abbrev pub calls_by : Verdict → List ℕ → Scene → List MediumCall
calls_by (Denied number why) e s = []
calls_by (Allowed plan) e s =
    passing_calls plan.kind (medium_block s.world e) (block_count e) (data_of s.window e) s.device.content

-- an I/O command of a controller, marked or not
unfoldable pub command_calls : ℕ → List ℕ → Bool → Scene → List MediumCall
command_calls cntlid e marked s = calls_by (io_verdict s.world cntlid e marked s.window) e s
