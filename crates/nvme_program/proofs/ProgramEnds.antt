-- For the answer of `launch`: the exit status at the end of a program, and its steps, each as an end.
use Rattle.std.proofs.Common.{◌≡◌, ◌≢◌, ℕ, List, Option, Some, None, refl, ap, sym, arith, ◌∙◌, inl, inr}
use Rattle.std.specs.Prelude.{Result, Ok, Err}
use Rattle.nvme_medium.specs.declared.medium.Medium as medium
use Rattle.nvme_medium.specs.declared.cached.Cached.{Cached}
use Rattle.nvme_medium.specs.contracts.memory.MemMediumMedium.TheImpl as in_memory
use Rattle.script_text.specs.declared.stream.Source as source
use Rattle.nvme_program.specs.CommandLines.{image_in, script_in, word_fault}
use Rattle.nvme_program.specs.Failures.{IsOfFile, IsOfRun}
use Rattle.nvme_program.specs.Programs.{
  EndsBehindImage,
  EndsBehindScript,
  EndsByWord,
  EndsFromImage,
  EndsFromScript,
  ProgramEnds,
  Tells,
}
use Rattle.nvme_program.specs.Statuses.{end_status, exit_status}
use Rattle.nvme_program.specs.SystemCalls.{SystemCall}
use Rattle.nvme_program.specs.declared.command_line.WordFault.{WordFault}
use Rattle.nvme_program.specs.declared.fault.ScriptFault.TheVariants as script
use Rattle.nvme_program.specs.declared.failure.Failure.{Failure}
use Rattle.nvme_program.specs.declared.failure.Failure.TheVariants.{Script, File, CommandLine, Memory}
use Rattle.nvme_program.specs.declared.running.Runner as runner

pub of-file : (failure : Failure) → IsOfFile failure → exit_status failure ≢ 3
of-file File is same = absurd (omega arith)
of-file Memory is same = absurd (omega arith)
of-file CommandLine is same = absurd is
of-file (Script fault) is same = absurd is

of-run : (end : Option Failure) → IsOfRun end → end_status end ≢ 3
of-run None is same = absurd (omega arith)
of-run (Some (Script (script.Syntax n))) is same = absurd (omega arith)
of-run (Some (Script (script.Config n fault))) is same = absurd (omega arith)
of-run (Some (Script script.TooLong)) is same = absurd (omega arith)
of-run (Some (Script script.NoMemory)) is same = absurd (omega arith)
of-run (Some (Script script.Read)) is same = absurd (omega arith)
of-run (Some (Script script.Write)) is same = absurd (omega arith)
of-run (Some Memory) is same = absurd (omega arith)
of-run (Some File) is same = absurd is
of-run (Some CommandLine) is same = absurd is

module _ {S I T R : Type 0} (step : S → SystemCall I T → S → Type 0) (image : medium.Ghosts I)
    (behind_cache : medium.Ghosts (Cached I image)) (reads : source.Ghosts T) (runs : runner.Ghosts R) where
  pub told : (failure : Failure) (before : R) (end : Option Failure) (after : R)
      → Tells step image behind_cache reads runs failure before end after
      → exit_status failure ≢ 3 → end_status end ≢ 3
  told failure before end after is other same = other (ap end_status (sym is.0) ∙ same)

  pub memory-told : (before : R) (end : Option Failure) (after : R)
      → Tells step image behind_cache reads runs Memory before end after → end_status end ≢ 3
  memory-told before end after is = told Memory before end after is (of-file Memory tt)

  behind-script : {M : Type 0} (calls : medium.Ghosts M) (outcome : Result T Failure) (old left : M) (before : R)
      (end : Option Failure) (after : R)
      → EndsBehindScript step image behind_cache reads runs calls outcome old left before end after → end_status end ≢ 3
  behind-script calls (Err failure) old left before end after ends =
      told failure before end after ends.2 (of-file failure ends.0)
  behind-script calls (Ok script) old left before end after ends = of-run end ends.2

  from-script : {M : Type 0} (calls : medium.Ghosts M) (path : Option (List ℕ)) (old left : M) (system : S) (before : R)
      (end : Option Failure) (new : S) (after : R)
      → EndsFromScript step image behind_cache reads runs calls path old left system before end new after
      → end_status end ≢ 3
  from-script calls None old left system before end new after ends = of-run end ends.2
  from-script calls (Some path) old left system before end new after ends =
      behind-script calls ends.0 old left before end after ends.2

  behind-image : (outcome : Result I Failure) (path : Option (List ℕ)) (system : S) (before : R) (end : Option Failure)
      (new : S) (after : R)
      → EndsBehindImage step image behind_cache reads runs outcome path system before end new after → end_status end ≢ 3
  behind-image (Err failure) path system before end new after ends =
      told failure before end after ends.2 (of-file failure ends.0)
  behind-image (Ok opened) path system before end new after (inl memory) = memory-told before end after memory.1
  behind-image (Ok opened) path system before end new after (inr on) =
      from-script behind_cache path on.cached on.left system before end on.mid after on.ends

  pub from-image : (named path : Option (List ℕ)) (system : S) (before : R) (end : Option Failure) (new : S) (after : R)
      → EndsFromImage step image behind_cache reads runs named path system before end new after → end_status end ≢ 3
  from-image None path system before end new after (inl memory) = memory-told before end after memory.1
  from-image None path system before end new after (inr ends) =
      from-script in_memory.ghosts path ends.0 ends.1 system before end new after ends.3
  from-image (Some named) path system before end new after ends =
      behind-image ends.0 path ends.1 before end new after ends.3

  pub refused_status : (words : List (List ℕ)) (system : S) (before : R) (end : Option Failure) (new : S) (after : R)
      → ProgramEnds step image behind_cache reads runs words system before end new after → word_fault words ≢ None
      → end_status end ≡ 3
  refused_status words system before end new after ends refused = by (word_fault words) ends refused
    where
      by : (word : Option WordFault)
          → EndsByWord step image behind_cache reads runs word words system before end new after → word ≢ None
          → end_status end ≡ 3
      by (Some fault) ends refused = ap end_status ends.1.0
      by None ends refused = absurd (refused refl)

  pub taken_status : (words : List (List ℕ)) (system : S) (before : R) (end : Option Failure) (new : S) (after : R)
      → ProgramEnds step image behind_cache reads runs words system before end new after → word_fault words ≡ None
      → end_status end ≢ 3
  taken_status words system before end new after ends none = by (word_fault words) ends none
    where
      by : (word : Option WordFault)
          → EndsByWord step image behind_cache reads runs word words system before end new after → word ≡ None
          → end_status end ≢ 3
      by (Some fault) ends none = let bad = none in cc
      by None (inl memory) none = memory-told before end after memory.1
      by None (inr ends) none = from-image _ _ system before end new after ends

  -- the steps

  pub words_are_refused : (words : List (List ℕ)) (system : S) (before : R) (end : Option Failure) (after : R)
      → word_fault words ≢ None → Tells step image behind_cache reads runs CommandLine before end after
      → ProgramEnds step image behind_cache reads runs words system before end system after
  words_are_refused words system before end after refused is = by (word_fault words) refused
    where
      by : (word : Option WordFault)
          → word ≢ None → EndsByWord step image behind_cache reads runs word words system before end system after
      by (Some fault) refused = (refl, is)
      by None refused = absurd (refused refl)

  pub words_get_no_memory : (words : List (List ℕ)) (system : S) (before : R) (end : Option Failure) (after : R)
      → word_fault words ≡ None → Tells step image behind_cache reads runs Memory before end after
      → ProgramEnds step image behind_cache reads runs words system before end system after
  words_get_no_memory words system before end after taken is = rw taken (inl (refl, is))

  pub words_are_taken : (words : List (List ℕ)) (named path : Option (List ℕ)) (system : S) (before : R)
      (end : Option Failure) (new : S) (after : R)
      → word_fault words ≡ None → named ≡ image_in words → path ≡ script_in words
      → EndsFromImage step image behind_cache reads runs named path system before end new after
      → ProgramEnds step image behind_cache reads runs words system before end new after
  words_are_taken words named path system before end new after taken is at ends = rw (taken, sym is, sym at) (inr ends)
