-- Why a line is refused, as a function of its bytes and of whether a `start` precedes it.
use Rattle.std.specs.Prelude.{
  ◌≡◌,
  ℕ,
  zero,
  suc,
  ◌+◌,
  ◌-◌,
  Bool,
  true,
  false,
  List,
  [],
  ◌∷◌,
  length,
  get_or,
  Option,
  None,
  Some,
  option_map,
  is_some,
  codes,
  if◌then◌else◌,
  ◌||◌,
}
use Rattle.std.specs.List.{prefix_len}
use Rattle.std.specs.Str.{bytes_eq}
use Rattle.script_text.specs.Numbers.{number_at}
use Rattle.script_text.specs.Data.{bytes_at, data_at}
use Rattle.script_text.specs.Words.{line_words, is_text, is_line_text, column_of}
use Rattle.nvme_grammar.specs.Arity.{◌>>=◌}
use Rattle.nvme_grammar.specs.Lent.{lent}
use Rattle.nvme_grammar.specs.Requests.{bit_at}
use Rattle.nvme_grammar.specs.Line.{line_at, is_comment, sharing}
use Rattle.nvme_grammar.specs.Script.{IsFirstOutside, fits, is_start}
use Rattle.nvme_grammar.specs.Places.{spells}
use Rattle.nvme_grammar.specs.Keywords.{keyword_of, nearest_to, sets_up, place_at, takes_words}
use Rattle.nvme_grammar.specs.declared.keyword.Keyword.{Keyword}
use Rattle.nvme_grammar.specs.declared.line.Line.{Line}
use Rattle.nvme_grammar.specs.declared.place.Place.{Place}
use Rattle.nvme_grammar.specs.declared.place.Place.TheVariants.{Number, Iekey, Host, Blocks, Sharing, Raw, Data, Bytes}
use Rattle.nvme_grammar.specs.declared.fault.LineFault.{LineFault}
use Rattle.nvme_grammar.specs.declared.fault.Why.{Why}
use Rattle.nvme_grammar.specs.declared.fault.Why.TheVariants.{Byte, Unknown, Count, Misfit, TooEarly, TooLate}
use Rattle.nvme_grammar.specs.declared.script.ParseFault.{ParseFault}
use Rattle.nvme_grammar.specs.declared.script.ParseFault.TheVariants.{Syntax, NoMemory}

-- a fault with its words at no address in particular
abbrev pub why_by_value : Why → Why
why_by_value (Unknown word nearest) = Unknown (lent word.now) nearest
why_by_value (Misfit number wanted word) = Misfit number wanted (lent word.now)
why_by_value why = why

abbrev pub fault_by_value : LineFault → LineFault
fault_by_value fault = record { column = fault.column; why = why_by_value fault.why }

-- the word at fault, counted from 1; the first if it is the line as a whole
abbrev pub word_number : Why → ℕ
word_number (Misfit number wanted word) = number
word_number why = 1

-- the first byte that a line may not have
abbrev pub foreign_fault : List ℕ → LineFault
foreign_fault line = record {
  column = prefix_len is_text line + 1;
  why = Byte (get_or line (prefix_len is_text line) 0);
}

-- whether a word fits a place, by the word before it, which has the number of blocks for data
abbrev pub suits : List ℕ → Place → List ℕ → Bool
suits before (Number operand) word = spells operand word
suits before Iekey word = is_some (bit_at word)
suits before Host word = bytes_eq word (codes "host")
suits before Blocks word = bytes_eq word (codes "blocks")
suits before Sharing word = is_some (sharing word)
suits before Raw word = bytes_eq word (codes "raw")
suits before Data word = is_some (number_at 32 before >>= (λ blocks. data_at blocks word))
suits before Bytes word = is_some (bytes_at word)

-- whether a word fits its place, if it has one
abbrev pub place_suits : Option Place → List ℕ → List ℕ → Bool
place_suits (Some place) before word = suits before place word
place_suits None before word = true

-- the first word after the keyword, from this index, that does not fit its place
abbrev pub misfit : Keyword → List ℕ → ℕ → List ℕ → List (List ℕ) → Option LineFault
misfit k line index before [] = None
misfit k line index before (word ∷ words) =
    if place_suits (place_at k index) before word then misfit k line (suc index) word words
    else option_map (λ place. record {
      column = column_of (suc index) line;
      why = Misfit (index + 2) place (lent word);
    }) (place_at k index)

-- a line that is allowed elsewhere: an event before `start`, or a setup line, or a second `start`, after it
abbrev pub misplaced : Bool → Keyword → ℕ → Option LineFault
misplaced started k column =
    if sets_up k then (if started then Some (record { column = column; why = TooLate k }) else None)
    else (if started then None else Some (record { column = column; why = TooEarly k }))

abbrev pub either_fault : Option LineFault → Option LineFault → Option LineFault
either_fault (Some fault) other = Some fault
either_fault None other = other

-- a line that begins with a keyword: it has as many words as the keyword takes, each fits its place, and it is allowed
-- there
abbrev pub keyword_fault : Bool → List ℕ → List ℕ → List (List ℕ) → Option Keyword → Option LineFault
keyword_fault started line word words None =
    Some (record { column = column_of 0 line; why = Unknown (lent word) (nearest_to word) })
keyword_fault started line word words (Some k) =
    if takes_words k (length words)
    then either_fault (misfit k line 0 word words) (misplaced started k (column_of 0 line))
    else Some (record { column = column_of 0 line; why = Count k })

abbrev pub words_fault : Bool → List ℕ → List (List ℕ) → Option LineFault
words_fault started line [] = None
words_fault started line (word ∷ words) = keyword_fault started line word words (keyword_of word)

-- the fault of a line without its line feed, if it has one
unfoldable pub fault_of : Bool → List ℕ → Option LineFault
fault_of started line =
    if is_comment line then None
    else if is_line_text line then words_fault started line (line_words line)
    else Some (foreign_fault line)

-- a line of the grammar that is allowed before `start`, or after it
abbrev pub is_allowed_line : Bool → Option Line → Bool
is_allowed_line started None = false
is_allowed_line started (Some line) = fits started line

abbrev pub IsAllowed : Bool → List ℕ → Type 0
IsAllowed started line = is_allowed_line started (line_at line) ≡ true

-- whether a line is `start`
abbrev pub is_start_line : Option Line → Bool
is_start_line None = false
is_start_line (Some line) = is_start line

-- the fault of a line of a text, counted from 0, with or without a `start` before the text
abbrev pub fault_in : Bool → ℕ → List (List ℕ) → Option LineFault
fault_in started n [] = None
fault_in started zero (line ∷ raw) = fault_of started line
fault_in started (suc n) (line ∷ raw) = fault_in (is_start_line (line_at line) || started) n raw

-- the refusal of a line, by its number and its fault
abbrev pub IsRefusal : ParseFault → ℕ → Option LineFault → Type 0
IsRefusal (Syntax n fault) number wanted = (n ≡ number) × (wanted ≡ Some (fault_by_value fault))
IsRefusal NoMemory number wanted = Unit {0}

-- the fault of a text: its first line outside the grammar, and the fault of that line
abbrev pub IsParseFault : List (List ℕ) → ParseFault → Type 0
IsParseFault raw (Syntax n fault) =
    IsFirstOutside n raw × (fault_in false (n - 1) raw ≡ Some (fault_by_value fault))
IsParseFault raw NoMemory = Unit {0}
