-- The lines of a text, in order.
use Rattle.std.specs.Prelude.{ℕ, Bool, not, ◌==◌, List, [], ◌∷◌, Option, None, Some, length}
use Rattle.std.specs.Ordering.{ord_max, nat_cmp}
use Rattle.std.specs.Borrow.{Bor}
use Rattle.std.specs.List.{slice_split}

-- the lines of a text: a line feed ends each except the last. After a final line feed there is an empty line, which has
-- no effect.
abbrev pub text_lines : List ℕ → List (List ℕ)
text_lines text = slice_split (λ b. b == 10) text

-- a byte other than a line feed
abbrev pub is_of_line : ℕ → Bool
is_of_line b = not (b == 10)

-- the length of the longest of some lines
abbrev pub longest_of : List (List ℕ) → ℕ
longest_of [] = 0
longest_of (line ∷ lines) = ord_max nat_cmp (length line) (longest_of lines)

-- the length of the longest line of a text
abbrev pub longest_line : List ℕ → ℕ
longest_line text = longest_of (text_lines text)

-- the lines after one, if there is text after it
abbrev pub lines_left : Option (Bor (List ℕ)) → List (List ℕ)
lines_left None = []
lines_left (Some rest) = text_lines rest.now
