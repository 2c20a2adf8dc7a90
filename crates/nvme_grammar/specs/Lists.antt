-- Lists of controllers, of any length, for the contracts of `identifiers.rt`.
use Rattle.std.specs.Prelude.{ℕ, List, Option, None, if◌then◌else◌}
use Rattle.script_text.specs.Words.{line_words, is_line_text}
use Rattle.nvme_grammar.specs.Requests.{numbers_at}

-- the numbers in the words of a line, if the line is text
abbrev pub line_numbers : List ℕ → Option (List ℕ)
line_numbers line = if is_line_text line then numbers_at 16 (line_words line) else None
