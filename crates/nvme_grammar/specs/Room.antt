-- The lengths of buffers for parsing a line.
use Rattle.std.specs.Prelude.{ℕ, ◌*◌, ◌≤◌, List, length}
use Rattle.nvme_spec.specs.Limits.{most_bytes}
use Rattle.script_text.specs.Lines.{longest_line}

-- a buffer for the data of any transfer, and for the bytes of a line: a byte takes two digits
abbrev pub HasBytesRoom : List ℕ → List ℕ → Type 0
HasBytesRoom line bytes = (most_bytes ≤ length bytes) × (length line ≤ 2 * length bytes)

-- the same for any line of a text
abbrev pub HasTextRoom : List ℕ → List ℕ → Type 0
HasTextRoom text bytes = (most_bytes ≤ length bytes) × (longest_line text ≤ 2 * length bytes)

-- a buffer for the words of any line of a text: a separator follows each word except the last
abbrev pub HasWordsRoom : List ℕ → List ℕ → Type 0
HasWordsRoom text identifiers = longest_line text ≤ 2 * length identifiers
