-- The texts of a line's fault, as programs print them.
use Rattle.std.specs.Prelude.{
  ℕ,
  ◌+◌,
  ◌-◌,
  ◌^◌,
  ◌/◌,
  ◌==◌,
  ◌&&◌,
  Bool,
  false,
  nat_le,
  List,
  [],
  ◌∷◌,
  ◌++◌,
  codes,
  length,
  take,
  Option,
  Some,
  None,
  if◌then◌else◌,
}
use Rattle.std.specs.Fmt.{decimal, digits, padded_integral, format_spec}
use Rattle.std.specs.Char.{is_ascii_hexdigit}
use Rattle.std.specs.List.{flat_map, list_all}
use Rattle.script_text.specs.Words.{is_visible}
use Rattle.nvme_grammar.specs.Places.{wanted_text, operand_bits}
use Rattle.nvme_grammar.specs.Keywords.{keyword_text, form_text, places_of, behind_of}
use Rattle.nvme_grammar.specs.declared.keyword.Keyword.{Keyword}
use Rattle.nvme_grammar.specs.declared.keyword.Keyword.TheVariants.{Start, Attach, Attached}
use Rattle.nvme_grammar.specs.declared.place.Operand.{Operand}
use Rattle.nvme_grammar.specs.declared.place.Place.{Place}
use Rattle.nvme_grammar.specs.declared.place.Place.TheVariants.{Number}
use Rattle.nvme_grammar.specs.declared.place.Behind.{Behind}
use Rattle.nvme_grammar.specs.declared.place.Behind.TheVariants as behind
use Rattle.nvme_grammar.specs.declared.fault.LineFault.{LineFault}
use Rattle.nvme_grammar.specs.declared.fault.Why.{Why}
use Rattle.nvme_grammar.specs.declared.fault.Why.TheVariants.{Byte, Unknown, Count, Misfit, TooEarly, TooLate}

-- the most bytes of a word that are shown
abbrev pub most_shown : ℕ
most_shown = 32

-- a byte in two hexadecimal digits
abbrev pub byte_text : ℕ → List ℕ
byte_text b = padded_integral (format_spec 32 0 4 2 (2 ^ 64 - 1)) false [] (digits 16 false b)

-- a visible character as it is, any other byte as two hexadecimal digits
abbrev pub shown_byte : ℕ → List ℕ
shown_byte b = if is_visible b then b ∷ [] else codes "\\x" ++ byte_text b

-- the first bytes of a word, and two dots if there are more
abbrev pub shown_word : List ℕ → List ℕ
shown_word word =
    if nat_le (length word) most_shown then flat_map shown_byte word
    else flat_map shown_byte (take most_shown word) ++ codes ".."

-- the number of words of a line, with its keyword
abbrev pub count_text : ℕ → Behind → List ℕ
count_text n behind.Nothing = if n == 1 then codes "1 word" else decimal n ++ codes " words"
count_text n behind.Raw = decimal n ++ codes " words, or one more"
count_text n behind.Controllers = decimal n ++ codes " words or more"

abbrev pub nearest_text : Option Keyword → List ℕ
nearest_text None = codes ""
nearest_text (Some k) = codes "; did you mean '" ++ keyword_text k ++ codes "'?"

-- the line before `start` that was probably intended by an event there
abbrev pub meant_early : Keyword → Option Keyword
meant_early Attach = Some Attached
meant_early _ = None

-- a word of hexadecimal digits without `0x`, which would fit with it
abbrev pub lacks_prefix : Operand → List ℕ → Bool
lacks_prefix operand word = nat_le (length word) (operand_bits operand / 4) && list_all is_ascii_hexdigit word

-- the number that was probably intended by such a word, as a question
unfoldable pub prefix_text : Place → List ℕ → List ℕ
prefix_text (Number operand) word =
    if lacks_prefix operand word then codes "; did you mean '0x" ++ shown_word word ++ codes "'?" else codes ""
prefix_text place word = codes ""

abbrev pub too_late_text : Keyword → List ℕ
too_late_text Start = codes "a script has only one start"
too_late_text k = keyword_text k ++ codes " must come before 'start'"

-- no line begins with this word
abbrev pub unknown_text : List ℕ → Option Keyword → List ℕ
unknown_text word nearest = codes "there is no line '" ++ shown_word word ++ codes "'" ++ nearest_text nearest

-- the word does not fit its place
abbrev pub misfit_text : Place → List ℕ → List ℕ
misfit_text wanted word =
    wanted_text wanted ++ codes ", not '" ++ shown_word word ++ codes "'" ++ prefix_text wanted word

abbrev pub why_text : Why → List ℕ
why_text (Byte b) =
    codes "the byte \\x" ++ byte_text b
    ++ codes " is neither a visible character nor a space, a tab or a carriage return"
why_text (Unknown word nearest) = unknown_text word.now nearest
why_text (Count k) =
    keyword_text k ++ codes " takes " ++ count_text (length (places_of k) + 1) (behind_of k) ++ codes ": "
    ++ form_text k
why_text (Misfit number wanted word) = misfit_text wanted word.now
why_text (TooEarly k) =
    keyword_text k ++ codes " needs a 'start' before it" ++ nearest_text (meant_early k)
why_text (TooLate k) = too_late_text k

-- the word at fault, if it is a single one
abbrev pub word_text : Why → List ℕ
word_text (Misfit number wanted word) = codes "word " ++ decimal number ++ codes ": "
word_text why = codes ""

-- a fault after its column
abbrev pub fault_text : LineFault → List ℕ
fault_text fault =
    decimal fault.column ++ codes ": " ++ word_text fault.why ++ why_text fault.why
