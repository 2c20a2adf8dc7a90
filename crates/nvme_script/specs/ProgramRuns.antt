-- The program's run of a script: over its input, over its medium, and over its output through a buffer.
use Rattle.std.specs.Prelude.{
  ◌≡◌,
  ◌≤◌,
  ◌⊎◌,
  ℕ,
  Bool,
  List,
  [],
  ◌∷◌,
  length,
  Option,
  None,
  Some,
  Result,
  MatchResult,
  Ok,
  Err,
}
use Rattle.std.specs.Io.KnownBytes.{Keeps}
use Rattle.nvme_spec.specs.Configuration.{capacity}
use Rattle.nvme_medium.specs.declared.medium.Medium as medium
use Rattle.nvme_medium.specs.declared.cached.Cached.{Cached}
use Rattle.script_text.specs.Reading.{IsRead}
use Rattle.script_text.specs.Writing.{Broken, IsSent, Sent}
use Rattle.script_text.specs.declared.reading.ReadFault.{ReadFault}
use Rattle.script_text.specs.declared.stream.Sink as sink
use Rattle.script_text.specs.declared.stream.Source as source
use Rattle.nvme_program.specs.CommandLines.{after_any_size, max_blocks_in}
use Rattle.nvme_program.specs.FaultKinds.{of_reading}
use Rattle.nvme_program.specs.Programs.{ProgramEnds}
use Rattle.nvme_program.specs.Statuses.{end_status}
use Rattle.nvme_program.specs.Streams.{Streams}
use Rattle.nvme_program.specs.SystemCalls.{SystemCall}
use Rattle.nvme_program.specs.declared.failure.Failure.{Failure}
use Rattle.nvme_program.specs.declared.failure.Failure.TheVariants as failed
use Rattle.nvme_program.specs.declared.fault.ScriptFault.{ScriptFault}
use Rattle.nvme_program.specs.declared.fault.ScriptFault.TheVariants.{Write}
use Rattle.nvme_program.specs.declared.running.Runner as runner
use Rattle.nvme_script.specs.Buffering.{Buffer, StepsBuffer, buffer_contents, most_held}
use Rattle.nvme_script.specs.declared.refusal.Refusal.{Refusal}
use Rattle.nvme_script.specs.Faults.{IsScript, IsEarlyFault, events_in}
use Rattle.nvme_script.specs.ScriptCalls.{RunsCalling}
use Rattle.nvme_script.specs.ScriptWrites.{RunsWriting, StopsWriting, WritesLines, lines_of}

-- A buffer of an output, which is empty.
abbrev pub IsEmpty : {O : Type 0} → Buffer O → O → Type 0
IsEmpty buffer output = (buffer.output ≡ output) × (buffer.held ≡ [])

-- A script ran to its end. The lines of its transcript were written through a buffer that was empty; then the bytes
-- held back were written to the output, and the output flushed. No other call was made of it, and none failed.
pub record RunsBuffered {M O : Type 0} (calls : medium.Ghosts M) (out : sink.Ghosts O) (flushes : O → Bool → O → Type 0)
    (text : List ℕ) (old new : M) (before after : O) : Type 0 where
  pub ran : RunsCalling calls.step calls.tells calls.device text old new (out.contents before) (out.contents after)
  pub empty : Buffer O
  pub full : Buffer O
  pub begins : IsEmpty empty before
  pub written : WritesLines (StepsBuffer out.step out.contents)
      (lines_of (events_in text) ran.transcribed.replies) empty
      full
  pub sent : IsSent out.step flushes full.output (Sent full.held) after

-- It stopped at a line that was not written whole: a write of the output failed, and the output was not called again;
-- or the line is longer than a text may be. The events up to the one of that line have happened, and no later one.
pub record StopsBuffered {M O : Type 0} (calls : medium.Ghosts M) (out : sink.Ghosts O) (text : List ℕ) (old new : M)
    (before after : O) : Type 0 where
  pub empty : Buffer O
  pub last : Buffer O
  pub begins : IsEmpty empty before
  pub stopped : StopsWriting calls.step calls.tells calls.device (StepsBuffer out.step out.contents)
      (buffer_contents out.contents) text old new empty last
  pub left : last.output ≡ after

-- All lines were written through the buffer, and then a write of the bytes held back failed, or the flush, and the
-- output was not called again. At most the length of a buffer was not written.
pub record RunsUnsent {M O : Type 0} (calls : medium.Ghosts M) (out : sink.Ghosts O) (flushes : O → Bool → O → Type 0)
    (text : List ℕ) (old new : M) (before after : O) : Type 0 where
  pub empty : Buffer O
  pub full : Buffer O
  pub last : Buffer O
  pub begins : IsEmpty empty before
  pub ran : RunsWriting calls.step calls.tells calls.device (StepsBuffer out.step out.contents)
      (buffer_contents out.contents) text old new empty full
  pub unsent : IsSent out.step flushes full.output (Broken full.held) after
  pub left : last.output ≡ after
  pub kept : Keeps (buffer_contents out.contents full) (buffer_contents out.contents last)
  pub few : length last.held ≤ most_held

-- What a fault implies for a text that was read. Each except one of the output comes before the first event, and then
-- no call was made of the medium or of the output.
abbrev pub FailsOver : {M O : Type 0} → medium.Ghosts M → sink.Ghosts O → (O → Bool → O → Type 0) → ℕ → ScriptFault
    → List ℕ → M → M → O → O → Type 0
FailsOver calls out flushes most Write text old new before after =
    IsScript text (capacity most (calls.size old))
    × (StopsBuffered calls out text old new before after ⊎ RunsUnsent calls out flushes text old new before after)
FailsOver calls out flushes most fault text old new before after =
    IsEarlyFault fault text (capacity most (calls.size old)) × (new ≡ old) × (after ≡ before)

-- the result of running a text: its transcript was written, or a fault ended it
unfoldable pub RunsText : {M O : Type 0} → medium.Ghosts M → sink.Ghosts O → (O → Bool → O → Type 0) → ℕ
    → Result M (Refusal × M) → List ℕ → M → O → O → Type 0
RunsText calls out flushes most (Ok new) text old before after =
    IsScript text (capacity most (calls.size old)) × RunsBuffered calls out flushes text old new before after
RunsText calls out flushes most (Err e) text old before after =
    FailsOver calls out flushes most e.0.fault text old e.1 before after

-- The failure that ends a run, after its text was read: a fault; or memory for the buffer was refused, and nothing was
-- called.
abbrev pub FailsThrough : {M O : Type 0} → medium.Ghosts M → sink.Ghosts O → (O → Bool → O → Type 0) → ℕ → Failure
    → List ℕ → M → M → O → O → Type 0
FailsThrough calls out flushes most (failed.Script fault) text old new before after =
    FailsOver calls out flushes most fault text old new before after
FailsThrough calls out flushes most failed.Memory text old new before after = (new ≡ old) × (after ≡ before)
FailsThrough calls out flushes most failed.File text old new before after = ⊥
FailsThrough calls out flushes most failed.CommandLine text old new before after = ⊥

-- A script was read, by its reads and no others, and run over a medium, with this effect; its transcript was written.
-- Or a failure ended it; if that is one of reading, nothing else was called.
abbrev pub RunsOver : {T M O : Type 0} → source.Ghosts T → medium.Ghosts M → sink.Ghosts O → (O → Bool → O → Type 0)
    → ℕ → T → T → M → M → O → Option Failure → O → Type 0
RunsOver reads calls out flushes most script read old new before None after =
    (text : List ℕ) × IsRead reads.step reads.remaining script (Ok text) read
    × IsScript text (capacity most (calls.size old)) × RunsBuffered calls out flushes text old new before after
RunsOver reads calls out flushes most script read old new before (Some failure) after =
    (outcome : Result (List ℕ) ReadFault) × IsRead reads.step reads.remaining script outcome read
    × MatchResult outcome (λ text. FailsThrough calls out flushes most failure text old new before after)
    (λ reading. (failure ≡ failed.Script (of_reading reading)) × (new ≡ old) × (after ≡ before))

-- The program over its streams: a named script is run, and the input is not called; without one the input is the
-- script. Reporting a failure leaves both streams as they are.
abbrev pub runs_scripts : {I O : Type 0} → source.Ghosts I → sink.Ghosts O → (O → Bool → O → Type 0)
    → runner.Ghosts (Streams I O)
runs_scripts input out flushes = record {
  links = λ s. s.input_name ∷ s.output_name ∷ [];
  ran = λ T M reads calls script read old new before end after.
      RunsOver reads calls out flushes before.max_blocks script read old new before.output end after.output
      × (after.input ≡ before.input);
  ran_unnamed = λ M calls old new before end after.
      RunsOver input calls out flushes before.max_blocks before.input after.input old new before.output end
      after.output;
  tells = λ before after. (after.input ≡ before.input) × (after.output ≡ before.output);
}

-- The program in a system, on these words, over its input and its output: its end, and its effect on the system, the
-- input and the output.
unfoldable pub ScriptProgramEnds : {S I T In Out : Type 0} → (S → SystemCall I T → S → Type 0)
    → (image : medium.Ghosts I) → medium.Ghosts (Cached I image) → source.Ghosts T → source.Ghosts In
    → sink.Ghosts Out → (Out → Bool → Out → Type 0) → List (List ℕ) → S → In → Out → Option Failure → S → In
    → Out → Type 0
ScriptProgramEnds {In = In} {Out = Out} step image behind_cache reads unread out flushes words system input output end
    new left written =
    (before : Streams In Out) × (after : Streams In Out) × (before.input ≡ input) × (before.output ≡ output)
    × (before.max_blocks ≡ max_blocks_in words) × (after.input ≡ left) × (after.output ≡ written)
    × ProgramEnds step image behind_cache reads (runs_scripts unread out flushes) (after_any_size words) system before
    end new after

-- The program ends in this way in some system, and its exit status is that of its end.
unfoldable pub ScriptProgramExits : {S I T In Out : Type 0} → (S → SystemCall I T → S → Type 0)
    → (image : medium.Ghosts I) → medium.Ghosts (Cached I image) → source.Ghosts T → source.Ghosts In
    → sink.Ghosts Out → (Out → Bool → Out → Type 0) → List (List ℕ) → In → Out → ℕ → In → Out → Type 0
ScriptProgramExits {S = S} step image behind_cache reads unread out flushes words input output status left written =
    (system : S) × (end : Option Failure) × (new : S) × (status ≡ end_status end)
    × ScriptProgramEnds step image behind_cache reads unread out flushes words system input output end new left written
