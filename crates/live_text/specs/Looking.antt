-- The query lines of a session.
use Rattle.std.specs.Prelude.{
  ℕ,
  nat_le,
  ◌==◌,
  nat_eq,
  Bool,
  true,
  false,
  ◌&&◌,
  List,
  [],
  ◌∷◌,
  codes,
  drop,
  length,
  Option,
  Some,
  None,
  option_map,
  option_and_then,
  if◌then◌else◌,
}
use Rattle.std.specs.List.{starts_with}
use Rattle.script_text.specs.Numbers.{number_at}
use Rattle.script_text.specs.Words.{line_words, is_line_text, is_separator}
use Rattle.live_text.specs.Forms.{form_at}
use Rattle.live_text.specs.LookingWords.{looking_word_of}
use Rattle.live_text.specs.declared.looking_word.LookingWord.{LookingWord}
use Rattle.live_text.specs.declared.looking_word.LookingWord.TheVariants as word
use Rattle.live_text.specs.declared.looking.Looking.{Looking}
use Rattle.live_text.specs.declared.looking.Looking.TheVariants as look

-- a line whose first byte is `?`
abbrev pub is_looking : List ℕ → Bool
is_looking [] = false
is_looking (b ∷ bs) = b == 63

-- what follows a word and one separator
abbrev pub behind_word : List ℕ → Option (List ℕ)
behind_word [] = Some []
behind_word (b ∷ bs) = if is_separator b then Some bs else None

-- the text of a line `?line TEXT`
unfoldable pub text_in : List ℕ → Option (List ℕ)
text_in line = if starts_with nat_eq line (codes "?line") then behind_word (drop 5 line) else None

-- the query of words, if no more words follow them
abbrev pub alone : {A : Type 0} → List (List ℕ) → Option A → Option A
alone [] said = said
alone (word ∷ words) said = None

-- `C` alone, or `N` alone
abbrev pub number_alone : ℕ → List (List ℕ) → Option ℕ
number_alone bits [] = None
number_alone bits (n ∷ words) = alone words (number_at bits n)

-- `C ADDR LEN`
abbrev pub window : List (List ℕ) → Option Looking
window (c ∷ a ∷ l ∷ words) =
    alone words
    (option_and_then (λ cntlid. option_and_then (λ address. option_map (λ len. look.Window cntlid address len)
    (number_at 32 l)) (number_at 64 a)) (number_at 16 c))
window words = None

-- `C OFF`
abbrev pub register : List (List ℕ) → Option Looking
register (c ∷ o ∷ words) =
    alone words
    (option_and_then (λ cntlid. option_map (λ offset. look.Register cntlid offset) (number_at 64 o)) (number_at 16 c))
register words = None

-- `N SLBA COUNT`
abbrev pub blocks : List (List ℕ) → Option Looking
blocks (n ∷ s ∷ b ∷ words) =
    alone words
    (option_and_then (λ nsid. option_and_then (λ slba. option_map (λ count. look.Blocks nsid slba count)
    (number_at 32 b)) (number_at 64 s)) (number_at 32 n))
blocks words = None

-- nothing, or the first word of a line
abbrev pub help : List (List ℕ) → Option Looking
help [] = Some look.Help
help (word ∷ words) = alone words (option_map look.HelpOn (form_at word))

-- the query of the words after the first one; `?line` has a text after it, whatever its words
abbrev pub looking_in : LookingWord → List (List ℕ) → Option Looking
looking_in word.Window words = window words
looking_in word.Register words = register words
looking_in word.Registers words = option_map look.Registers (number_alone 16 words)
looking_in word.Queues words = option_map look.Queues (number_alone 16 words)
looking_in word.Fetched words = option_map look.Fetched (number_alone 16 words)
looking_in word.Driver words = option_map look.Driver (number_alone 16 words)
looking_in word.Namespaces words = alone words (Some look.Namespaces)
looking_in word.Reservation words = option_map look.Reservation (number_alone 32 words)
looking_in word.Attached words = alone words (Some look.Attached)
looking_in word.Blocks words = blocks words
looking_in word.Line words = None
looking_in word.Help words = help words

-- no query has more than four words
abbrev pub looking_by : List (List ℕ) → Option Looking
looking_by [] = None
looking_by (first ∷ words) =
    if nat_le (length words) 3 then option_and_then (λ k. looking_in k words) (looking_word_of first) else None

-- the query of a line that begins with `?`, or nothing if it is outside the grammar
unfoldable pub looking_at : List ℕ → Option Looking
looking_at line = if is_line_text line then looking_by (line_words line) else None

-- the controller of a query, if it names one
abbrev pub controller_named : Looking → Option ℕ
controller_named (look.Window k address len) = Some k
controller_named (look.Register k offset) = Some k
controller_named (look.Registers k) = Some k
controller_named (look.Queues k) = Some k
controller_named (look.Fetched k) = Some k
controller_named looking = None
