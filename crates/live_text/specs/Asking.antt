-- The kind of one line of a session, by its bytes.
use Rattle.std.specs.Prelude.{ℕ, nat_lt, Bool, true, false, List, length, Option, Some, None, if◌then◌else◌}
use Rattle.nvme_grammar.specs.Line.{line_at}
use Rattle.nvme_grammar.specs.Lent.{line_by_value, event_by_value}
use Rattle.nvme_grammar.specs.declared.line.Line.{Line}
use Rattle.nvme_grammar.specs.declared.line.Line.TheVariants.{Blank, Controller, Namespace, Attached, Start, Event}
use Rattle.live_text.specs.Faults.{looking_fault, outside, why_by_value}
use Rattle.live_text.specs.Looking.{is_looking, looking_at, text_in}
use Rattle.live_text.specs.declared.fault.Why.TheVariants.{TooLong, LongText}
use Rattle.live_text.specs.declared.looking.Looking.{Looking}
use Rattle.live_text.specs.declared.asking.Asked.{Asked}
use Rattle.live_text.specs.declared.asking.Asked.TheVariants.{Fails, Nothing, Looks, Parses, Sets, Does}

-- the most bytes of a line, without its line feed
abbrev pub line_limit : ℕ
line_limit = 1048576

-- the most bytes of a text in a `?line` query
abbrev pub text_limit : ℕ
text_limit = 262208

-- a line that begins with `?`, unless it is `?line`
abbrev pub look_asked : List ℕ → Option Looking → Asked
look_asked line None = Fails (looking_fault line)
look_asked line (Some looking) = Looks looking

-- how a text is parsed; the columns of a fault are counted in the text
abbrev pub text_said : List ℕ → Option Line → Asked
text_said text None = Fails (outside text)
text_said text (Some line) = Parses line

abbrev pub text_asked : List ℕ → Option Line → Asked
text_asked text said = if nat_lt text_limit (length text) then Fails LongText else text_said text said

-- a line that begins with `?`, by the text of its query, if it is `?line`
abbrev pub mark_asked : List ℕ → Option (List ℕ) → Asked
mark_asked line None = look_asked line (looking_at line)
mark_asked line (Some text) = text_asked text (line_at text)

-- a line of the grammar of scripts
abbrev pub line_asked : List ℕ → Option Line → Asked
line_asked line None = Fails (outside line)
line_asked line (Some Blank) = Nothing
line_asked line (Some (Event event)) = Does event
line_asked line (Some (Controller c)) = Sets (Controller c)
line_asked line (Some (Namespace n)) = Sets (Namespace n)
line_asked line (Some (Attached c n)) = Sets (Attached c n)
line_asked line (Some Start) = Sets Start

unfoldable pub asked : List ℕ → Asked
asked line =
    if nat_lt line_limit (length line) then Fails TooLong
    else if is_looking line then mark_asked line (text_in line)
    else line_asked line (line_at line)

-- the same, with its bytes at no address in particular
abbrev pub asked_by_value : Asked → Asked
asked_by_value (Fails why) = Fails (why_by_value why)
asked_by_value Nothing = Nothing
asked_by_value (Looks looking) = Looks looking
asked_by_value (Parses line) = Parses (line_by_value line)
asked_by_value (Sets line) = Sets (line_by_value line)
asked_by_value (Does event) = Does (event_by_value event)

-- the kinds of lines that begin with `?`: neither an event nor a setup line
abbrev pub is_mark : Asked → Bool
is_mark (Fails why) = true
is_mark Nothing = false
is_mark (Looks looking) = true
is_mark (Parses says) = true
is_mark (Sets says) = false
is_mark (Does event) = false
