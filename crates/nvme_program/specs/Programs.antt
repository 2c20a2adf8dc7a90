-- A program from its command line to its end: what it opens, in which order, what it runs over which medium, and which
-- failure ends it.
use Rattle.std.specs.Prelude.{
  ◌≡◌,
  ◌⊎◌,
  ℕ,
  Bool,
  true,
  false,
  List,
  [],
  Option,
  None,
  Some,
  Result,
  Ok,
  Err,
  if◌then◌else◌,
}
use Rattle.nvme_medium.specs.declared.medium.Medium as medium
use Rattle.nvme_medium.specs.declared.cached.Cached.{Cached}
use Rattle.nvme_medium.specs.declared.memory.MemMedium.{MemMedium}
use Rattle.nvme_medium.specs.contracts.memory.MemMediumMedium.TheImpl as in_memory
use Rattle.nvme_medium.specs.Caches.{inner_of, blocks_kept, capacity_of}
use Rattle.nvme_medium.specs.Memory.{memory_bytes}
use Rattle.nvme_grammar.specs.Beginnings.{begins_script}
use Rattle.script_text.specs.declared.stream.Source as source
use Rattle.nvme_program.specs.CommandLines.{word_fault, image_in, script_in, means_image, behind_option}
use Rattle.nvme_program.specs.Failures.{IsOfFile, IsOfRun}
use Rattle.nvme_program.specs.Media.{zero_blocks}
use Rattle.nvme_program.specs.SystemCalls.{SystemCall, OpensImage, OpensScript, ReadsText, ClosesImage}
use Rattle.nvme_program.specs.declared.command_line.WordFault.{WordFault}
use Rattle.nvme_program.specs.declared.failure.Failure.{Failure}
use Rattle.nvme_program.specs.declared.failure.Failure.TheVariants.{File, CommandLine, Memory}
use Rattle.nvme_program.specs.declared.running.Runner as runner
use Rattle.nvme_program.specs.declared.system.Cause.TheVariants.{IsScript}
use Rattle.nvme_program.specs.declared.system.Unopened.{Unopened}

-- the result of the check of an image's text, with the cause: a text that begins like a script is refused
abbrev pub IsJudgement : Result (List ℕ) Failure → Result (Unit {0}) Unopened → Type 0
IsJudgement (Ok text) (Ok unit) = begins_script text ≡ false
IsJudgement (Ok text) (Err e) = (begins_script text ≡ true) × (e.failure ≡ File) × (e.cause ≡ IsScript)
IsJudgement (Err failure) (Ok unit) = ⊥
IsJudgement (Err failure) (Err e) = (e.failure ≡ failure) × IsOfFile failure

-- the failure of such a check
abbrev pub judged : Result (List ℕ) Failure → Option Failure
judged (Ok text) = if begins_script text then Some File else None
judged (Err failure) = Some failure

-- A program is a runner in a system. Of the system the definitions know which states may follow a call of it, and the
-- models of an open image, of a cached one, and of an open script; of the runner they know the effect of a run and of
-- reporting a failure.
module _ {S I T R : Type 0} (step : S → SystemCall I T → S → Type 0) (image : medium.Ghosts I)
    (behind_cache : medium.Ghosts (Cached I image)) (reads : source.Ghosts T) (runs : runner.Ghosts R) where
  -- a failure is reported, and is the end
  abbrev pub Tells : Failure → R → Option Failure → R → Type 0
  Tells failure before end after = (end ≡ Some failure) × runs.tells before after

  -- after the opening of the script: its failure is the end, and no call is made of the medium; or else it is run
  abbrev pub EndsBehindScript : {M : Type 0} → medium.Ghosts M → Result T Failure
      → M → M → R → Option Failure → R → Type 0
  EndsBehindScript {M} calls (Err failure) old left before end after =
      IsOfFile failure × (left ≡ old) × Tells failure before end after
  EndsBehindScript {M} calls (Ok script) old left before end after =
      (read : T) × runs.ran T M reads calls script read old left before end after × IsOfRun end

  -- The script is opened, and run over a medium, with this effect; if none is named, the runner knows what to run.
  abbrev pub EndsFromScript : {M : Type 0} → medium.Ghosts M → Option (List ℕ)
      → M → M → S → R → Option Failure → S → R → Type 0
  EndsFromScript {M} calls None old left system before end new after =
      (new ≡ system) × runs.ran_unnamed M calls old left before end after × IsOfRun end
  EndsFromScript {M} calls (Some path) old left system before end new after =
      (outcome : Result T Failure) × step system (OpensScript path outcome) new
      × EndsBehindScript calls outcome old left before end after

  -- The medium is an image that was opened, with an empty cache of 256 blocks; and the image is closed as the cache
  -- left it.
  pub record EndsOnImage (opened : I) (script : Option (List ℕ)) (system : S) (before : R) (end : Option Failure)
      (new : S) (after : R) : Type 0 where
    pub cached : Cached I image
    pub left : Cached I image
    pub mid : S
    pub inner : inner_of cached ≡ opened
    pub empty : blocks_kept cached ≡ []
    pub capacity : capacity_of cached ≡ 256
    pub ends : EndsFromScript behind_cache script cached left system before end mid after
    pub closes : step mid (ClosesImage (inner_of left)) new

  -- after the opening of the image: its failure is the end, or memory for its cache is refused, or else the script
  -- decides
  abbrev pub EndsBehindImage : Result I Failure → Option (List ℕ) → S → R → Option Failure → S → R → Type 0
  EndsBehindImage (Err failure) script system before end new after =
      IsOfFile failure × (new ≡ system) × Tells failure before end after
  EndsBehindImage (Ok opened) script system before end new after =
      (step system (ClosesImage opened) new × Tells Memory before end after)
      ⊎ EndsOnImage opened script system before end new after

  -- The image is opened, and then the script; if none is named, the medium is 1,024 blocks of zeros in memory.
  abbrev pub EndsFromImage : Option (List ℕ) → Option (List ℕ) → S → R → Option Failure → S → R → Type 0
  EndsFromImage None script system before end new after =
      ((new ≡ system) × Tells Memory before end after)
      ⊎ ((zeros : MemMedium) × (left : MemMedium) × (memory_bytes zeros ≡ zero_blocks 1024)
      × EndsFromScript in_memory.ghosts script zeros left system before end new after)
  EndsFromImage (Some path) script system before end new after =
      (outcome : Result I Failure) × (mid : S) × step system (OpensImage path outcome) mid
      × EndsBehindImage outcome script mid before end new after

  -- by the first word that is refused, if there is one
  abbrev pub EndsByWord : Option WordFault → List (List ℕ) → S → R → Option Failure → S → R → Type 0
  EndsByWord (Some fault) words system before end new after = (new ≡ system) × Tells CommandLine before end after
  EndsByWord None words system before end new after =
      ((new ≡ system) × Tells Memory before end after)
      ⊎ EndsFromImage (image_in words) (script_in words) system before end new after

  -- A program on these words is ended by a refused word, by refused memory, by the image, by the script or by the run:
  -- by the first of these, in this order.
  abbrev pub ProgramEnds : List (List ℕ) → S → R → Option Failure → S → R → Type 0
  ProgramEnds words system before end new after = EndsByWord (word_fault words) words system before end new after

  -- after the check: its failure is the end, and no file is opened; else the image is opened, and then the script
  abbrev pub EndsBehindText : Option Failure → List ℕ → Option (List ℕ) → S → R → Option Failure → S → R → Type 0
  EndsBehindText (Some failure) path script system before end new after =
      IsOfFile failure × (new ≡ system) × Tells failure before end after
  EndsBehindText None path script system before end new after =
      EndsFromImage (Some path) script system before end new after

  -- the text of a named image is checked first, unless `--image` precedes it
  abbrev pub EndsGuarded : Bool → Option (List ℕ) → Option (List ℕ) → S → R → Option Failure → S → R → Type 0
  EndsGuarded false (Some path) script system before end new after =
      (outcome : Result (List ℕ) Failure) × (mid : S) × step system (ReadsText path outcome) mid
      × EndsBehindText (judged outcome) path script mid before end new after
  EndsGuarded is_meant image script system before end new after =
      EndsFromImage image script system before end new after

  abbrev pub EndsGuardedByWord : Option WordFault → Bool → List (List ℕ) → S → R → Option Failure → S → R → Type 0
  EndsGuardedByWord (Some fault) is_meant words system before end new after =
      (new ≡ system) × Tells CommandLine before end after
  EndsGuardedByWord None is_meant words system before end new after =
      ((new ≡ system) × Tells Memory before end after)
      ⊎ EndsGuarded is_meant (image_in words) (script_in words) system before end new after

  -- A program that checks its image: on these words, after `--image`, it ends like any program, except that an image is
  -- checked before it is opened.
  abbrev pub GuardedEnds : List (List ℕ) → S → R → Option Failure → S → R → Type 0
  GuardedEnds words system before end new after =
      EndsGuardedByWord (word_fault (behind_option words)) (means_image words) (behind_option words) system before end
      new after
