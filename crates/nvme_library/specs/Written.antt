-- The result of putting a text into a buffer, for C.
use Rattle.std.specs.Prelude.{◌≡◌, ℕ, List, Option, Some, None, Result, Ok, Err}
use Rattle.library_text.specs.Putting.{PutsIf}
use Rattle.library_text.specs.EventLines.{PutsLine}
use Rattle.library_text.specs.declared.putting.Unput.{Unput}
use Rattle.library_text.specs.declared.putting.Unput.TheVariants.{NoRoom, NoMemory}
use Rattle.nvme_library.specs.declared.written.Written.{Written}

abbrev pub without_text : ℕ → Written
without_text what = record { length = 0; what = what }

abbrev pub text_written : Result ℕ Unput → Written
text_written (Ok len) = record { length = len; what = 0 }
text_written (Err NoRoom) = without_text 33
text_written (Err NoMemory) = without_text 27

abbrev pub line_written : Option (Result ℕ Unput) → Written
line_written None = without_text 34
line_written (Some put) = text_written put

abbrev pub length_of : Result ℕ Unput → ℕ
length_of (Ok len) = len
length_of (Err why) = 0

-- a text is put into the buffer, if it fits and there is memory
abbrev pub Writes : List ℕ → Written → List ℕ → List ℕ → Type 0
Writes text w old new = (put : Result ℕ Unput) × (w ≡ text_written put) × PutsIf text put old new

-- the same for a line that may be missing, and takes no memory
abbrev pub WritesLine : Option (List ℕ) → Written → List ℕ → List ℕ → Type 0
WritesLine line w old new = (put : Option (Result ℕ Unput)) × (w ≡ line_written put) × PutsLine line put old new
