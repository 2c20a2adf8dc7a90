-- Whether a file begins like a script: programs refuse to use such a file as an image.
use Rattle.std.specs.Prelude.{
  ℕ,
  ◌==◌,
  ◌&&◌,
  Bool,
  false,
  not,
  List,
  [],
  ◌∷◌,
  take,
  Option,
  Some,
  None,
  is_some,
  unwrap_or,
  if◌then◌else◌,
}
use Rattle.std.specs.List.{list_all, prefix_len}
use Rattle.script_text.specs.Lines.{text_lines}
use Rattle.script_text.specs.Words.{is_visible, behind_separators}
use Rattle.nvme_grammar.specs.Keywords.{keyword_of}
use Rattle.nvme_grammar.specs.Line.{is_comment}

-- whether bytes begin with a keyword, if there are any
abbrev pub bytes_begin : List ℕ → Option Bool
bytes_begin [] = None
bytes_begin (b ∷ bytes) = Some (is_some (keyword_of (take (prefix_len is_visible (b ∷ bytes)) (b ∷ bytes))))

-- whether a line begins with a keyword; nothing if it is a comment, or has only separators
abbrev pub line_begins : List ℕ → Option Bool
line_begins line = if is_comment line then None else bytes_begin (behind_separators line)

-- whether the first of some lines that is neither begins with a keyword
abbrev pub lines_begin : List (List ℕ) → Bool
lines_begin [] = false
lines_begin (line ∷ lines) = unwrap_or (line_begins line) (lines_begin lines)

-- no byte 00h, as in a script; few images have none
abbrev pub lacks_zeros : List ℕ → Bool
lacks_zeros text = list_all (λ b. not (b == 0)) text

-- a text without a byte 00h, whose first line that is neither empty nor a comment begins with a keyword
unfoldable pub begins_script : List ℕ → Bool
begins_script text = lacks_zeros text && lines_begin (text_lines text)
