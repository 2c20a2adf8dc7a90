-- The words of a line.
use Rattle.std.specs.Prelude.{
  ℕ,
  zero,
  suc,
  ◌==◌,
  ◌||◌,
  ◌&&◌,
  not,
  nat_le,
  Bool,
  true,
  false,
  List,
  [],
  ◌∷◌,
  filter,
  length,
  drop,
  ◌+◌,
  ◌-◌,
  ◌/◌,
}
use Rattle.std.specs.List.{slice_split, list_all, prefix_len}

-- a space, a tab or a carriage return; but not a vertical tab or form feed
abbrev pub is_separator : ℕ → Bool
is_separator b = (b == 32) || (b == 9) || (b == 13)

-- a visible character
abbrev pub is_visible : ℕ → Bool
is_visible b = nat_le 33 b && nat_le b 126

-- a separator or a visible character
abbrev pub is_text : ℕ → Bool
is_text b = is_separator b || is_visible b

-- each byte is text
abbrev pub is_line_text : List ℕ → Bool
is_line_text bytes = list_all is_text bytes

abbrev pub is_nonempty : List ℕ → Bool
is_nonempty [] = false
is_nonempty (b ∷ bs) = true

-- the non-empty parts between separators
abbrev pub line_words : List ℕ → List (List ℕ)
line_words line = filter is_nonempty (slice_split is_separator line)

-- no separator is at the front
abbrev pub starts_apart : List ℕ → Bool
starts_apart [] = true
starts_apart (b ∷ bs) = not (is_separator b)

-- the most words that a line of this length can have: a separator follows each except the last
abbrev pub most_words : List ℕ → ℕ
most_words line = (length line + 1) / 2

-- a line after the separators at its front
abbrev pub behind_separators : List ℕ → List ℕ
behind_separators line = drop (prefix_len is_separator line) line

-- a line from its next word
abbrev pub behind_word : List ℕ → List ℕ
behind_word line = behind_separators (drop (prefix_len is_visible line) line)

-- a line from one of its words, counted from 0
abbrev pub from_word : ℕ → List ℕ → List ℕ
from_word zero line = behind_separators line
from_word (suc k) line = behind_word (from_word k line)

-- the column of a word, in bytes from 1
abbrev pub column_of : ℕ → List ℕ → ℕ
column_of k line = length line - length (from_word k line) + 1
