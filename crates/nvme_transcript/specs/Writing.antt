-- Writing a line, for the contract of `write_line`.
use Rattle.std.specs.Prelude.{◌≡◌, ◌⊎◌, ◌<◌, ℕ, List, length, Result, IsErr}
use Rattle.script_text.specs.Pages.{most_text}
use Rattle.script_text.specs.Streams.{WriteCall}
use Rattle.script_text.specs.Writing.{IsWritten}

-- a line was written by its writes and no others, or it does not fit a text, and nothing was written
abbrev pub WritesLine : {S T E : Type 0} → (S → WriteCall → S → Type 0) → List ℕ → S → Result T E → S → Type 0
WritesLine step line old outcome new =
    IsWritten step line old outcome new ⊎ ((most_text < length line) × IsErr outcome × (new ≡ old))
