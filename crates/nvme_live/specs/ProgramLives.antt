-- The program's session: after a script, over its medium, and over its input and output.
use Rattle.std.specs.Prelude.{◌≡◌, ℕ, Bool, List, [], ◌∷◌, Option, None, Some, Ok}
use Rattle.std.specs.Borrow.{Bor}
use Rattle.nvme_spec.specs.Configuration.{capacity}
use Rattle.nvme_medium.specs.declared.medium.Medium as medium
use Rattle.nvme_medium.specs.declared.cached.Cached.{Cached}
use Rattle.script_text.specs.Reading.{IsRead}
use Rattle.script_text.specs.Streams.{ReadsSome}
use Rattle.script_text.specs.declared.stream.Sink as sink
use Rattle.script_text.specs.declared.stream.Source as source
use Rattle.nvme_program.specs.CommandLines.{after_any_size, max_blocks_in}
use Rattle.nvme_program.specs.Programs.{GuardedEnds}
use Rattle.nvme_program.specs.Statuses.{end_status}
use Rattle.nvme_program.specs.Streams.{Streams}
use Rattle.nvme_program.specs.SystemCalls.{SystemCall}
use Rattle.nvme_program.specs.declared.failure.Failure.{Failure}
use Rattle.nvme_program.specs.declared.failure.Failure.TheVariants as failed
use Rattle.nvme_program.specs.declared.running.Runner as runner
use Rattle.nvme_live.specs.Lives.{Fails, FailsBehindReading, LivesOn, surroundings}
use Rattle.nvme_live.specs.Streams.{TakesKnown}

-- A script was read, by its reads and no others, and a session followed it, over a medium, with this effect. Its lines
-- are those of the input, which is read ahead: some of its bytes were not taken, and are left. Or a fault ended it; or
-- memory to read ahead was refused, and nothing was called.
abbrev pub LivesOver : {T M I O : Type 0} → source.Ghosts T → medium.Ghosts M → (I → Option (List ℕ)) → sink.Ghosts O
    → (O → Bool → O → Type 0) → ℕ → T → T → M → M → I → O → Option Failure → O → Type 0
LivesOver reads calls unread out flushes most script read old new input before None after =
    (text : List ℕ) × (left : Option (List ℕ)) × IsRead reads.step reads.remaining script (Ok text) read
    × LivesOn calls.step calls.tells calls.device TakesKnown out.step flushes out.contents
    (capacity most (calls.size old)) text (surroundings (unread input) before old) (surroundings left after new)
LivesOver reads calls unread out flushes most script read old new input before (Some (failed.Script fault)) after =
    (left : Option (List ℕ)) × FailsBehindReading reads.step reads.remaining script read fault
    (surroundings (unread input) before old) (surroundings left after new) (λ text.
    Fails calls.step calls.tells calls.device TakesKnown out.step flushes out.contents
    (capacity most (calls.size old)) text fault (surroundings (unread input) before old) (surroundings left after new))
LivesOver reads calls unread out flushes most script read old new input before (Some failed.Memory) after =
    (read ≡ script) × (new ≡ old) × (after ≡ before)
LivesOver reads calls unread out flushes most script read old new input before (Some failed.File) after = ⊥
LivesOver reads calls unread out flushes most script read old new input before (Some failed.CommandLine) after = ⊥

-- bytes in memory, as the source of a script
abbrev pub bytes_source : source.Ghosts (Bor (List ℕ))
bytes_source = record { remaining = λ s. Some s.now; step = ReadsSome (λ s. Some s.now) }

-- The program over its streams: its session follows the named script, or else an empty one. Reporting a failure leaves
-- both streams as they are.
abbrev pub lives_behind_scripts : {I O : Type 0} → (I → Option (List ℕ)) → sink.Ghosts O → (O → Bool → O → Type 0)
    → runner.Ghosts (Streams I O)
lives_behind_scripts unread out flushes = record {
  links = λ s. s.input_name ∷ s.output_name ∷ [];
  ran = λ T M reads calls script read old new before end after.
      LivesOver reads calls unread out flushes before.max_blocks script read old new before.input before.output
      end after.output;
  ran_unnamed = λ M calls old new before end after.
      (script : Bor (List ℕ)) × (read : Bor (List ℕ)) × (script.now ≡ [])
      × LivesOver bytes_source calls unread out flushes before.max_blocks script read old new before.input
      before.output end
      after.output;
  tells = λ before after. (after.input ≡ before.input) × (after.output ≡ before.output);
}

-- The program in a system, on these words, over its input and its output: its end, and its effect on the system, the
-- input and the output. If a word or a file was refused, the input is unchanged. If memory to read it ahead was
-- refused, its state is not specified.
unfoldable pub SessionProgramEnds : {S I T In Out : Type 0} → (S → SystemCall I T → S → Type 0)
    → (image : medium.Ghosts I) → medium.Ghosts (Cached I image) → source.Ghosts T → (In → Option (List ℕ))
    → sink.Ghosts Out → (Out → Bool → Out → Type 0) → List (List ℕ) → S → In → Out → Option Failure → S → In
    → Out → Type 0
SessionProgramEnds {In = In} {Out = Out} step image behind_cache reads unread out flushes words system input output end
    new left written =
    (before : Streams In Out) × (after : Streams In Out) × (before.input ≡ input) × (before.output ≡ output)
    × (before.max_blocks ≡ max_blocks_in words) × (after.input ≡ left) × (after.output ≡ written)
    × GuardedEnds step image behind_cache reads (lives_behind_scripts unread out flushes) (after_any_size words) system
    before end new after

-- The program ends in this way in some system, and its exit status is that of its end.
unfoldable pub SessionProgramExits : {S I T In Out : Type 0} → (S → SystemCall I T → S → Type 0)
    → (image : medium.Ghosts I) → medium.Ghosts (Cached I image) → source.Ghosts T → (In → Option (List ℕ))
    → sink.Ghosts Out → (Out → Bool → Out → Type 0) → List (List ℕ) → In → Out → ℕ → In → Out → Type 0
SessionProgramExits {S = S} step image behind_cache reads unread out flushes words input output status left written =
    (system : S) × (end : Option Failure) × (new : S) × (status ≡ end_status end)
    × SessionProgramEnds step image behind_cache reads unread out flushes words system input output end new left written
