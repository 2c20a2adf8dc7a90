-- The calls that a program makes of the system for its files.
use Rattle.std.specs.Prelude.{ℕ, List, Result}
use Rattle.nvme_program.specs.declared.failure.Failure.{Failure}

-- One call, with its answer: opening a file as the image, or as the script, by its path; reading a named image as text;
-- and closing an image, as it was left.
pub data SystemCall (I T : Type 0) : Type 0 where
  OpensImage : List ℕ → Result I Failure → SystemCall I T
  OpensScript : List ℕ → Result T Failure → SystemCall I T
  ReadsText : List ℕ → Result (List ℕ) Failure → SystemCall I T
  ClosesImage : I → SystemCall I T
