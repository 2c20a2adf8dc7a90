-- The words that query lines begin with, and the forms of these lines.
use Rattle.std.specs.Prelude.{ℕ, List, [], ◌∷◌, ◌++◌, codes, Option}
use Rattle.std.specs.List.{find, flat_map}
use Rattle.std.specs.Str.{bytes_eq}
use Rattle.nvme_grammar.specs.Near.{is_meant}
use Rattle.live_text.specs.declared.looking_word.LookingWord.{LookingWord}
use Rattle.live_text.specs.declared.looking_word.LookingWord.TheVariants as word

abbrev pub word_text : LookingWord → List ℕ
word_text word.Window = codes "?window"
word_text word.Register = codes "?register"
word_text word.Registers = codes "?registers"
word_text word.Queues = codes "?queues"
word_text word.Fetched = codes "?fetched"
word_text word.Driver = codes "?driver"
word_text word.Namespaces = codes "?namespaces"
word_text word.Reservation = codes "?reservation"
word_text word.Attached = codes "?attached"
word_text word.Blocks = codes "?blocks"
word_text word.Line = codes "?line"
word_text word.Help = codes "?help"

abbrev pub form_text : LookingWord → List ℕ
form_text word.Window = codes "?window C ADDR LEN"
form_text word.Register = codes "?register C OFF"
form_text word.Registers = codes "?registers C"
form_text word.Queues = codes "?queues C"
form_text word.Fetched = codes "?fetched C"
form_text word.Driver = codes "?driver C"
form_text word.Namespaces = codes "?namespaces"
form_text word.Reservation = codes "?reservation N"
form_text word.Attached = codes "?attached"
form_text word.Blocks = codes "?blocks N SLBA COUNT"
form_text word.Line = codes "?line TEXT"
form_text word.Help = codes "?help [WORD]"

-- all of them
abbrev pub looking_words : List LookingWord
looking_words = word.Window ∷ word.Register ∷ word.Registers ∷ word.Queues ∷ word.Fetched ∷ word.Driver
    ∷ word.Namespaces ∷ word.Reservation ∷ word.Attached ∷ word.Blocks ∷ word.Line ∷ word.Help ∷ []

-- their texts, each after a space
abbrev pub word_texts : List ℕ
word_texts = flat_map (λ k. codes " " ++ word_text k) looking_words

-- the query word of a word
unfoldable pub looking_word_of : List ℕ → Option LookingWord
looking_word_of word = find (λ k. bytes_eq word (word_text k)) looking_words

-- the first that a word resembles, or equals in other letters
unfoldable pub nearest_to : List ℕ → Option LookingWord
nearest_to word = find (λ k. is_meant word (word_text k)) looking_words
