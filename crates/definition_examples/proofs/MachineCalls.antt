-- For `machine_calls.rt`: calls of the medium that an execution makes, and those that its command needs.
use Rattle.std.proofs.Common.{arith}
use Rattle.std.specs.Prelude.{[], ◌<◌, ◌≡◌, ℕ, List, Bool, None, Ok}
use Rattle.nvme_spec.specs.declared.queues.QueueChange.TheVariants.{Keep}
use Rattle.nvme_spec.specs.Execution.{Scene, Executes}
use Rattle.nvme_spec.specs.MediumCalls.{MediumCall, Writes, Flushes, passing, reads_from}
use Rattle.nvme_machine.specs.declared.fetched.FetchedCommand.{FetchedCommand}
use Rattle.nvme_machine.specs.declared.need.Need.TheVariants as need
use Rattle.nvme_machine.specs.declared.seen.Executed.{Executed}
use Rattle.nvme_machine.specs.declared.seen.Executed.TheVariants.{NoSuch, CqFull}
use Rattle.nvme_machine.specs.Calling.{AreCallsOver, AreCallsOne}
use Rattle.nvme_machine.specs.CommandExecutions.{CommandExecution, IoCommandComesTo}
use Rattle.nvme_machine.specs.Executing.{Setting}
use Rattle.nvme_machine.specs.NeededCalls.{StopWriting, StopReading, StopComparing, ReadsFront}
use Rattle.nvme_machine.specs.Needs.{IsNeeded}

pub machine_idle_executions_full : (tells : Bool) → (i : ℕ) → (t : FetchedCommand) → (before after : Setting)
    → (executed : Executed) → (calls : List MediumCall) → AreCallsOver None tells i t before executed after calls
    → executed ≡ CqFull
machine_idle_executions_full tells i t before after executed calls x =
    let all : (executed ≡ CqFull) × (after ≡ before) × (calls ≡ []) = x in all.0

pub machine_idle_executions_full_unchanged : (tells : Bool) → (i : ℕ) → (t : FetchedCommand)
    → (before after : Setting) → (executed : Executed) → (calls : List MediumCall)
    → AreCallsOver None tells i t before executed after calls → after ≡ before
machine_idle_executions_full_unchanged tells i t before after executed calls x =
    let all : (executed ≡ CqFull) × (after ≡ before) × (calls ≡ []) = x in all.1

pub machine_idle_executions_full_calls : (tells : Bool) → (i : ℕ) → (t : FetchedCommand) → (before after : Setting)
    → (executed : Executed) → (calls : List MediumCall) → AreCallsOver None tells i t before executed after calls
    → calls ≡ []
machine_idle_executions_full_calls tells i t before after executed calls x =
    let all : (executed ≡ CqFull) × (after ≡ before) × (calls ≡ []) = x in all.2

pub machine_idle_executions_none : (tells : Bool) → (i : ℕ) → (before after : Setting) → (executed : Executed)
    → (calls : List MediumCall) → AreCallsOne None tells i before executed after calls → executed ≡ NoSuch
machine_idle_executions_none tells i before after executed calls x =
    let all : (executed ≡ NoSuch) × (after ≡ before) × (calls ≡ []) = x in all.0

pub machine_idle_executions_none_calls : (tells : Bool) → (i : ℕ) → (before after : Setting) → (executed : Executed)
    → (calls : List MediumCall) → AreCallsOne None tells i before executed after calls → calls ≡ []
machine_idle_executions_none_calls tells i before after executed calls x =
    let all : (executed ≡ NoSuch) × (after ≡ before) × (calls ≡ []) = x in all.2

pub machine_io_executions_queues : (tells : Bool) → (cntlid : ℕ) → (t : FetchedCommand) → (s : Scene)
    → (a : CommandExecution) → IoCommandComesTo tells cntlid t s a → a.change ≡ Keep
machine_io_executions_queues tells cntlid t s a x =
    let both : (a.change ≡ Keep) × Executes tells cntlid t.entry t.marked s a.left a.outcome = x in both.0

pub machine_failed_writes_nothing : (sent : List ℕ) → (calls : List MediumCall) → StopWriting need.Nothing sent calls
    → ⊥
machine_failed_writes_nothing sent calls x = x

pub machine_failed_writes_reading : (sent : List ℕ) → (calls : List MediumCall)
    → StopWriting (need.Read 7 2) sent calls → ⊥
machine_failed_writes_reading sent calls x = x

pub machine_failed_reads_nothing : (calls : List MediumCall) → StopReading need.Nothing calls → ⊥
machine_failed_reads_nothing calls x = x

pub machine_failed_reads_writing : (calls : List MediumCall) → StopReading (need.Write 7 2) calls → ⊥
machine_failed_reads_writing calls x = x

pub machine_failed_reads_zeroing : (calls : List MediumCall) → StopReading (need.Zero 7 2) calls → ⊥
machine_failed_reads_zeroing calls x = x

pub machine_failed_reads_flushing : (calls : List MediumCall) → StopReading need.Flush calls → ⊥
machine_failed_reads_flushing calls x = x

pub machine_failed_compares_nothing : (calls : List MediumCall) → StopComparing need.Nothing calls → ⊥
machine_failed_compares_nothing calls x = x

pub machine_failed_compares_writing : (calls : List MediumCall) → StopComparing (need.Write 7 2) calls → ⊥
machine_failed_compares_writing calls x = x

pub machine_failed_compares_zeroing : (calls : List MediumCall) → StopComparing (need.Zero 7 2) calls → ⊥
machine_failed_compares_zeroing calls x = x

pub machine_failed_compares_flushing : (calls : List MediumCall) → StopComparing need.Flush calls → ⊥
machine_failed_compares_flushing calls x = x

pub machine_failed_compares_some : (calls : List MediumCall) → (x : ReadsFront 7 2 calls) → 0 < x.passed
machine_failed_compares_some calls x = x.some

pub machine_failed_compares_calls : (calls : List MediumCall) → (x : ReadsFront 7 2 calls) → calls
    ≡ passing (reads_from 7 x.read) x.passed
machine_failed_compares_calls calls x = x.are

pub machine_needed_calls_write : IsNeeded (need.Write 7 2) (Writes 8 [] (Ok tt))
machine_needed_calls_write = (omega arith, omega arith)

pub machine_needed_calls_write_before : IsNeeded (need.Write 7 2) (Writes 6 [] (Ok tt)) → ⊥
machine_needed_calls_write_before x = omega (arith, x.0)

pub machine_needed_calls_write_after : IsNeeded (need.Write 7 2) (Writes 9 [] (Ok tt)) → ⊥
machine_needed_calls_write_after x = omega (arith, x.1)

pub machine_needed_calls_zero_before : IsNeeded (need.Zero 7 2) (Writes 6 [] (Ok tt)) → ⊥
machine_needed_calls_zero_before x = omega (arith, x.0)

pub machine_needed_calls_zero_after : IsNeeded (need.Zero 7 2) (Writes 9 [] (Ok tt)) → ⊥
machine_needed_calls_zero_after x = omega (arith, x.1)

pub machine_needed_calls_other : IsNeeded (need.Zero 7 2) (Flushes (Ok tt)) → ⊥
machine_needed_calls_other x = x
