-- Faults of reading, of the grammar and of an opening as faults of the script.
use Rattle.std.specs.Prelude.{ℕ, Option, unwrap_or}
use Rattle.nvme_spec.specs.declared.config.ConfigFault.{ConfigFault}
use Rattle.nvme_spec.specs.declared.config.ConfigFault.TheVariants.{NoMemory as WantOfMemory}
use Rattle.script_text.specs.declared.reading.ReadFault.{ReadFault}
use Rattle.script_text.specs.declared.reading.ReadFault.TheVariants as reading
use Rattle.nvme_grammar.specs.declared.script.ParseFault.{ParseFault}
use Rattle.nvme_grammar.specs.declared.script.ParseFault.TheVariants as grammar
use Rattle.nvme_program.specs.declared.fault.ScriptFault.{ScriptFault}
use Rattle.nvme_program.specs.declared.fault.ScriptFault.TheVariants.{Syntax, Config, TooLong, NoMemory, Read}

-- a fault of reading, and one of the grammar, as a fault of the script
abbrev pub of_reading : ReadFault → ScriptFault
of_reading reading.TooLong = TooLong
of_reading reading.NoMemory = NoMemory
of_reading reading.Read = Read

abbrev pub of_grammar : ParseFault → ScriptFault
of_grammar (grammar.Syntax n fault) = Syntax n
of_grammar grammar.NoMemory = NoMemory

-- a fleet's refusal as a fault of the script: its configuration is refused at the line `start`
abbrev pub of_opening : Option ℕ → ConfigFault → ScriptFault
of_opening start WantOfMemory = NoMemory
of_opening start fault = Config (unwrap_or start 0) fault
