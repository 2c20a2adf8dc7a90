-- For the answer of `launch_guarded`: the exit status at the end of a program that checks its image, and its steps,
-- each as an end.
use Rattle.std.proofs.Common.{◌≡◌, ◌≢◌, ℕ, Bool, true, false, List, Option, Some, None, refl, ap, sym, inl, inr}
use Rattle.std.specs.Prelude.{Result, Ok, Err}
use Rattle.nvme_medium.specs.declared.medium.Medium as medium
use Rattle.nvme_medium.specs.declared.cached.Cached.{Cached}
use Rattle.script_text.specs.declared.stream.Source as source
use Rattle.nvme_program.specs.CommandLines.{behind_option, image_in, means_image, script_in, word_fault}
use Rattle.nvme_program.specs.Failures.{IsOfFile}
use Rattle.nvme_program.specs.Programs.{
  EndsBehindText,
  EndsFromImage,
  EndsGuarded,
  EndsGuardedByWord,
  GuardedEnds,
  IsJudgement,
  Tells,
  judged,
}
use Rattle.nvme_program.specs.Statuses.{end_status}
use Rattle.nvme_program.specs.SystemCalls.{SystemCall, ReadsText}
use Rattle.nvme_program.specs.declared.command_line.WordFault.{WordFault}
use Rattle.nvme_program.specs.declared.failure.Failure.{Failure}
use Rattle.nvme_program.specs.declared.failure.Failure.TheVariants.{CommandLine, Memory}
use Rattle.nvme_program.specs.declared.running.Runner as runner
use Rattle.nvme_program.specs.declared.system.Unopened.{Unopened}
use Rattle.nvme_program.proofs.ProgramEnds.{from-image, memory-told, of-file, told}

-- the failure of a check
failure-of : (outcome : Result (List ℕ) Failure) (e : Unopened)
    → IsJudgement outcome (Err e) → (judged outcome ≡ Some e.failure) × IsOfFile e.failure
failure-of (Ok text) e is = (rw is.0 (ap Some (sym is.1)), rw is.1 tt)
failure-of (Err failure) e is = (ap Some (sym is.0), rw is.0 is.1)

passes : (outcome : Result (List ℕ) Failure) → IsJudgement outcome (Ok tt) → judged outcome ≡ None
passes (Ok text) is = rw is refl
passes (Err failure) is = absurd is

module _ {S I T R : Type 0} (step : S → SystemCall I T → S → Type 0) (image : medium.Ghosts I)
    (behind_cache : medium.Ghosts (Cached I image)) (reads : source.Ghosts T) (runs : runner.Ghosts R) where
  from-guarded : (meant : Bool) (named path : Option (List ℕ)) (system : S) (before : R) (end : Option Failure)
      (new : S) (after : R)
      → EndsGuarded step image behind_cache reads runs meant named path system before end new after → end_status end ≢ 3
  from-guarded true named path system before end new after ends =
      from-image step image behind_cache reads runs named path system before end new after ends
  from-guarded false None path system before end new after ends =
      from-image step image behind_cache reads runs None path system before end new after ends
  from-guarded false (Some named) path system before end new after ends = by (judged ends.0) ends.1 ends.3
    where
      by : (failed : Option Failure) (mid : S)
          → EndsBehindText step image behind_cache reads runs failed named path mid before end new after
          → end_status end ≢ 3
      by (Some failure) mid behind =
          told step image behind_cache reads runs failure before end after behind.2 (of-file failure behind.0)
      by None mid behind =
          from-image step image behind_cache reads runs (Some named) path mid before end new after behind

  pub refused_status : (words : List (List ℕ)) (system : S) (before : R) (end : Option Failure) (new : S) (after : R)
      → GuardedEnds step image behind_cache reads runs words system before end new after
      → word_fault (behind_option words) ≢ None → end_status end ≡ 3
  refused_status words system before end new after ends refused = by (word_fault (behind_option words)) ends refused
    where
      by : (word : Option WordFault) → EndsGuardedByWord step image behind_cache reads runs word (means_image words)
          (behind_option words) system before end new after
          → word ≢ None → end_status end ≡ 3
      by (Some fault) ends refused = ap end_status ends.1.0
      by None ends refused = absurd (refused refl)

  pub taken_status : (words : List (List ℕ)) (system : S) (before : R) (end : Option Failure) (new : S) (after : R)
      → GuardedEnds step image behind_cache reads runs words system before end new after
      → word_fault (behind_option words) ≡ None → end_status end ≢ 3
  taken_status words system before end new after ends none = by (word_fault (behind_option words)) ends none
    where
      by : (word : Option WordFault) → EndsGuardedByWord step image behind_cache reads runs word (means_image words)
          (behind_option words) system before end new after
          → word ≡ None → end_status end ≢ 3
      by (Some fault) ends none = let bad = none in cc
      by None (inl memory) none = memory-told step image behind_cache reads runs before end after memory.1
      by None (inr ends) none = from-guarded (means_image words) _ _ system before end new after ends

  -- the steps

  pub no_image : (meant : Bool) (path : Option (List ℕ)) (system : S) (before : R) (end : Option Failure)
      (new : S) (after : R)
      → EndsFromImage step image behind_cache reads runs None path system before end new after
      → EndsGuarded step image behind_cache reads runs meant None path system before end new after
  no_image true path system before end new after ends = ends
  no_image false path system before end new after ends = ends

  pub refused_image : (named : List ℕ) (path : Option (List ℕ)) (outcome : Result (List ℕ) Failure) (e : Unopened)
      (system : S) (before : R) (end : Option Failure) (new : S) (after : R)
      → step system (ReadsText named outcome) new → IsJudgement outcome (Err e)
      → Tells step image behind_cache reads runs e.failure before end after
      → EndsGuarded step image behind_cache reads runs false (Some named) path system before end new after
  refused_image named path outcome e system before end new after reads is tells =
      let of = failure-of outcome e is in (outcome, new, reads, rw of.0 (of.1, refl, tells))

  pub judged_image : (named : List ℕ) (path : Option (List ℕ)) (outcome : Result (List ℕ) Failure) (system mid : S)
      (before : R) (end : Option Failure) (new : S) (after : R)
      → step system (ReadsText named outcome) mid → IsJudgement outcome (Ok tt)
      → EndsFromImage step image behind_cache reads runs (Some named) path mid before end new after
      → EndsGuarded step image behind_cache reads runs false (Some named) path system before end new after
  judged_image named path outcome system mid before end new after reads is ends =
      (outcome, mid, reads, rw (passes outcome is) ends)

  pub words_fail : (words behind : List (List ℕ)) (failure : Failure) (system : S) (before : R)
      (end : Option Failure) (after : R)
      → behind ≡ behind_option words → (word_fault behind ≢ None → failure ≡ CommandLine)
      → (word_fault behind ≡ None → failure ≡ Memory)
      → Tells step image behind_cache reads runs failure before end after
      → GuardedEnds step image behind_cache reads runs words system before end system after
  words_fail words behind failure system before end after is refused taken tells =
      rw (sym is) (by (word_fault behind) refused taken)
    where
      by : (word : Option WordFault) → (word ≢ None → failure ≡ CommandLine) → (word ≡ None → failure ≡ Memory)
          → EndsGuardedByWord step image behind_cache reads runs word
          (means_image words) behind system before end system after
      by (Some fault) refused taken = (refl, rw (sym (refused (λ none. let bad = none in cc))) tells)
      by None refused taken = inl (refl, rw (sym (taken refl)) tells)

  pub words_are_taken : (words : List (List ℕ)) (system : S) (before : R) (end : Option Failure) (new : S) (after : R)
      → word_fault (behind_option words) ≡ None
      → EndsGuarded step image behind_cache reads runs (means_image words) (image_in (behind_option words))
      (script_in (behind_option words)) system before end new after
      → GuardedEnds step image behind_cache reads runs words system before end new after
  words_are_taken words system before end new after taken image = rw taken (inr image)
