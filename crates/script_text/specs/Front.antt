-- A number at the front of words, for the parsing of lines of numbers.
use Rattle.std.specs.Prelude.{◌≡◌, ℕ, Bool, false, List, [], ◌∷◌, Some, is_some}
use Rattle.script_text.specs.Numbers.{number_at}

-- the first word is this number, which fits 64 bits, and these are the others
abbrev pub BeginsWith : ℕ → List (List ℕ) → List (List ℕ) → Type 0
BeginsWith number words more = (word : List ℕ) × (words ≡ word ∷ more) × (number_at 64 word ≡ Some number)

-- whether the first word is a number that fits 64 bits, if there is one
abbrev pub begins_number : List (List ℕ) → Bool
begins_number [] = false
begins_number (word ∷ words) = is_some (number_at 64 word)
