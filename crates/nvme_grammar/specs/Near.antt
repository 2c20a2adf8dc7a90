-- Words that differ a little, for suggestions: one letter is wrong, missing or too many, or two adjacent ones are
-- exchanged.
use Rattle.std.specs.Prelude.{ℕ, Bool, false, ◌==◌, ◌&&◌, ◌||◌, List, ◌∷◌, drop, if◌then◌else◌}
use Rattle.std.specs.Str.{bytes_eq, str_eq_ignore_ascii_case}

-- the first two are exchanged, and the others the same
abbrev pub are_exchanged : List ℕ → List ℕ → Bool
are_exchanged (a ∷ b ∷ word) (c ∷ d ∷ other) = (a == d) && ((b == c) && bytes_eq word other)
are_exchanged word other = false

-- the first is wrong, missing or too many, or the first two are exchanged
abbrev pub differ_little : List ℕ → List ℕ → Bool
differ_little word other =
    bytes_eq (drop 1 word) (drop 1 other) || (bytes_eq (drop 1 word) other
    || (bytes_eq word (drop 1 other) || are_exchanged word other))

-- this holds after a common beginning
abbrev pub is_near : List ℕ → List ℕ → Bool
is_near (a ∷ word) (b ∷ other) = if a == b then is_near word other else differ_little (a ∷ word) (b ∷ other)
is_near word other = differ_little word other

-- this holds, or the words differ only in the case of letters
unfoldable pub is_meant : List ℕ → List ℕ → Bool
is_meant word other = is_near word other || str_eq_ignore_ascii_case word other
