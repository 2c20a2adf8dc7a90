-- The texts for refused configurations, as the programs print them.
use Rattle.std.specs.Prelude.{ℕ, false, List, ◌++◌, codes}
use Rattle.std.specs.Fmt.{decimal}
use Rattle.nvme_program.specs.FailureTexts.{config_reason_text, line_reason_text}
use Rattle.library_text.specs.declared.refused.Refused.{Refused}
use Rattle.library_text.specs.declared.refused.Refused.TheVariants.{TooLong, Line, Rule, Event, Empty, NoMemory}

-- the line at fault, and the column
abbrev pub position_of : Refused → ℕ × ℕ
position_of TooLong = (1, 1)
position_of (Line n fault) = (n, fault.column)
position_of (Rule n fault broken) = (n, 1)
position_of (Event n column) = (n, column)
position_of Empty = (1, 1)
position_of NoMemory = (0, 0)

-- the text for it after the name of the file and a colon
abbrev pub event_text : ℕ → List ℕ
event_text column = decimal column ++ codes ": this line is an event; a configuration has none"

abbrev pub reason_text : Refused → List ℕ
reason_text TooLong = codes "1:1: a script has at most 4194304 bytes"
reason_text (Line n fault) = line_reason_text n fault
reason_text (Rule n fault broken) = config_reason_text n broken false
reason_text (Event n column) = decimal n ++ codes ":" ++ event_text column
reason_text Empty = codes "1:1: there is no controller; add a line 'controller 1 host 1'"
reason_text NoMemory = codes "out of memory"
