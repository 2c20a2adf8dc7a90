-- The text of an answer, and its writing.
use Rattle.std.specs.Prelude.{ℕ, ◌≤◌, ◌<◌, List, [], ◌∷◌, ◌++◌, length, take, Option}
use Rattle.std.specs.Io.KnownBytes.{Appends}
use Rattle.script_text.specs.Pages.{most_text}

-- a line, with its line feed
abbrev pub with_feed : List ℕ → List ℕ
with_feed text = text ++ 10 ∷ []

-- the answer does not fit the text in which it is assembled
abbrev pub LacksRoom : List ℕ → Type 0
LacksRoom answer = most_text < length answer

-- the first bytes were written, or all, and the writer failed
abbrev pub Breaks : Option (List ℕ) → Option (List ℕ) → List ℕ → Type 0
Breaks before after bytes = (n : ℕ) × (n ≤ length bytes) × Appends before after (take n bytes)
