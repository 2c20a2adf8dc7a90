-- The answers to refused lines.
use Rattle.std.specs.Prelude.{ℕ, false, List, [], ◌∷◌, ◌++◌, codes, Option, Some, None, if◌then◌else◌}
use Rattle.std.specs.Fmt.{decimal}
use Rattle.script_text.specs.Words.{line_words, is_line_text}
use Rattle.nvme_grammar.specs.Lent.{lent}
use Rattle.nvme_grammar.specs.LineFaults as line
use Rattle.nvme_grammar.specs.FaultTexts as line_text
use Rattle.nvme_grammar.specs.declared.fault.LineFault.{LineFault}
use Rattle.live_text.specs.LookingWords.{word_text, form_text, looking_word_of, nearest_to}
use Rattle.live_text.specs.declared.looking_word.LookingWord.{LookingWord}
use Rattle.live_text.specs.declared.fault.Why.{Why}
use Rattle.live_text.specs.declared.fault.Why.TheVariants as why

-- a reason with its words at no address in particular
abbrev pub why_by_value : Why → Why
why_by_value (why.Line reason) = why.Line (line.why_by_value reason)
why_by_value (why.NoLine word nearest) = why.NoLine (lent word.now) nearest
why_by_value reason = reason

-- the word at fault, counted from 1
abbrev pub word_of : Why → ℕ
word_of why.TooLong = 1
word_of (why.Line reason) = line.word_number reason
word_of (why.Looking word) = 1
word_of (why.NoLine word nearest) = 1
word_of why.BeforeStart = 1
word_of why.BehindStart = 1
word_of why.NoController = 2
word_of why.NoDriver = 2
word_of why.NoNamespace = 2
word_of why.OutsideWindow = 3
word_of why.OutsideNamespace = 3
word_of why.MediumFailed = 1
word_of why.LongText = 2

-- the query word that this one resembles, or else a hint to the list of all
abbrev pub nearest_text : Option LookingWord → List ℕ
nearest_text None = codes "; ?help names all"
nearest_text (Some k) = codes "; did you mean '" ++ word_text k ++ codes "'?"

-- no line begins with this word
abbrev pub no_line_text : List ℕ → Option LookingWord → List ℕ
no_line_text word nearest = codes "there is no line '" ++ line_text.shown_word word ++ codes "'" ++ nearest_text nearest

abbrev pub why_text : Why → List ℕ
why_text why.TooLong = codes "a line has at most 1048576 bytes"
why_text (why.Line reason) = line_text.why_text reason
why_text (why.Looking word) = codes "the line is " ++ form_text word
why_text (why.NoLine word nearest) = no_line_text word.now nearest
why_text why.BeforeStart = codes "this line must come before 'start'"
why_text why.BehindStart = codes "this line needs a 'start' before it"
why_text why.NoController = codes "there is no such controller"
why_text why.NoDriver = codes "there is no such controller with a driver"
why_text why.NoNamespace = codes "there is no such namespace"
why_text why.OutsideWindow = codes "at most 131072 bytes are shown, all of them in the window's 4194304"
why_text why.OutsideNamespace = codes "1 to 256 blocks are shown, all of them in the namespace"
why_text why.MediumFailed = codes "the medium failed"
why_text why.LongText = codes "?line reads a TEXT of at most 262208 bytes"

-- the answer to line n, whose word i is at fault
abbrev pub refusal_at : ℕ → ℕ → List ℕ → List ℕ
refusal_at n i text = codes "! line " ++ decimal n ++ codes " word " ++ decimal i ++ codes ": " ++ text

abbrev pub refusal : ℕ → Why → List ℕ
refusal n w = refusal_at n (word_of w) (why_text w)

-- why a line that begins with `?` but is not a query is refused: by its first word
abbrev pub named_fault : List ℕ → Option LookingWord → Why
named_fault word None = why.NoLine (lent word) (nearest_to word)
named_fault word (Some k) = why.Looking k

abbrev pub words_fault : List (List ℕ) → Why
words_fault [] = why.NoLine (lent []) None
words_fault (word ∷ words) = named_fault word (looking_word_of word)

unfoldable pub looking_fault : List ℕ → Why
looking_fault raw =
    if is_line_text raw then words_fault (line_words raw)
    else why.Line (line.foreign_fault raw).why

-- why a line outside the grammar of scripts is refused: it has a fault at any place
abbrev pub line_fault : Option LineFault → Why
line_fault None = why.NoLine (lent []) None
line_fault (Some fault) = why.Line fault.why

abbrev pub outside : List ℕ → Why
outside raw = line_fault (line.fault_of false raw)
