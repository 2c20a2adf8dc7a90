-- For `program.rt`: the exit status at the end of the program.
use Rattle.std.proofs.Common.{◌≡◌, ◌≢◌, ℕ, Bool, List, Option, None}
use Rattle.nvme_medium.specs.declared.medium.Medium as medium
use Rattle.nvme_medium.specs.declared.cached.Cached.{Cached}
use Rattle.script_text.specs.declared.stream.Sink as sink
use Rattle.script_text.specs.declared.stream.Source as source
use Rattle.nvme_program.specs.CommandLines.{after_any_size, word_fault}
use Rattle.nvme_program.specs.Statuses.{end_status}
use Rattle.nvme_program.specs.SystemCalls.{SystemCall}
use Rattle.nvme_program.specs.declared.failure.Failure.{Failure}
use Rattle.nvme_program.proofs.ProgramEnds as program
use Rattle.nvme_script.specs.ProgramRuns.{ScriptProgramEnds, runs_scripts}

module _ {S I T In Out : Type 0} (step : S → SystemCall I T → S → Type 0) (image : medium.Ghosts I)
    (behind_cache : medium.Ghosts (Cached I image)) (reads : source.Ghosts T)
    (unread : source.Ghosts In) (out : sink.Ghosts Out) (flushes : Out → Bool → Out → Type 0) (words : List (List ℕ))
    (system : S) (input : In) (output : Out) (end : Option Failure) (new : S) (left : In) (written : Out) where
  pub refused_status : ScriptProgramEnds step image behind_cache reads unread out flushes words system input output end
      new left written → word_fault (after_any_size words) ≢ None → end_status end ≡ 3
  unfolding ScriptProgramEnds
  refused_status (before, after, is, at, allowed, kept, done, ends) refused = program.refused_status step image
      behind_cache reads (runs_scripts unread out flushes)
      (after_any_size words) system before end new after ends refused

  pub taken_status : ScriptProgramEnds step image behind_cache reads unread out flushes words system input output end
      new left written → word_fault (after_any_size words) ≡ None → end_status end ≢ 3
  unfolding ScriptProgramEnds
  taken_status (before, after, is, at, allowed, kept, done, ends) taken = program.taken_status step image behind_cache
      reads (runs_scripts unread out flushes) (after_any_size words) system before end new after ends taken
