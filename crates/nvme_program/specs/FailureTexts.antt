-- The texts of failures, as the programs print them on standard error.
use Rattle.std.specs.Prelude.{ℕ, Bool, true, List, ◌++◌, codes}
use Rattle.std.specs.Fmt.{decimal}
use Rattle.nvme_spec.specs.declared.config.ConfigFault.{ConfigFault}
use Rattle.nvme_spec.specs.declared.config.ConfigFault.TheVariants.{
  BadId,
  BadSize,
  TooMany,
  DoesNotFit,
  NoMemory as NoRoom,
}
use Rattle.nvme_grammar.specs.FaultTexts.{fault_text}
use Rattle.nvme_grammar.specs.declared.fault.LineFault.{LineFault}
use Rattle.nvme_program.specs.RuleTexts.{rule_text}
use Rattle.nvme_ns.specs.declared.refusal.BrokenRule.{BrokenRule}
use Rattle.nvme_ns.specs.declared.refusal.BrokenRule.TheVariants as broken
use Rattle.nvme_program.specs.declared.fault.ScriptFault.{ScriptFault}
use Rattle.nvme_program.specs.declared.fault.ScriptFault.TheVariants.{Syntax, Config, TooLong, NoMemory, Read, Write}
use Rattle.nvme_program.specs.declared.failure.Failure.{Failure}
use Rattle.nvme_program.specs.declared.failure.Failure.TheVariants.{Script, File, CommandLine, Memory}

-- the name of a configuration's fault
abbrev pub config_fault_text : ConfigFault → List ℕ
config_fault_text BadId = codes "BadId"
config_fault_text BadSize = codes "BadSize"
config_fault_text TooMany = codes "TooMany"
config_fault_text DoesNotFit = codes "DoesNotFit"
config_fault_text NoRoom = codes "NoMemory"

abbrev pub script_fault_text : ScriptFault → List ℕ
script_fault_text (Syntax n) = codes "line " ++ decimal n ++ codes ": not understood"
script_fault_text (Config n fault) = codes "line " ++ decimal n ++ codes ": " ++ config_fault_text fault
script_fault_text TooLong = codes "script too long"
script_fault_text NoMemory = codes "out of memory"
script_fault_text Read = codes "file fault"
script_fault_text Write = codes "file fault"

abbrev pub failure_text : Failure → List ℕ
failure_text (Script fault) = script_fault_text fault
failure_text File = codes "file fault"
failure_text CommandLine = codes "bad command line"
failure_text Memory = codes "out of memory"

-- the line that a program of this name prints for it
abbrev pub told_text : List ℕ → Failure → List ℕ
told_text name failure = name ++ codes ": " ++ failure_text failure

-- why a line of a script is refused, after the script's name and a colon: its number, the column, and the reason
abbrev pub line_reason_text : ℕ → LineFault → List ℕ
line_reason_text line fault = decimal line ++ codes ":" ++ fault_text fault

-- how to get more blocks, if those in memory are too few
abbrev pub room_text : BrokenRule → Bool → List ℕ
room_text (broken.DoesNotFit nsid blocks) true =
    codes "; for an image of 65536 blocks: truncate -s 32M disk.img, then nvmesim disk.img SCRIPT"
room_text rule in_memory = codes ""

-- the same for a configuration: the number of the line that breaks a rule, and the rule
abbrev pub config_reason_text : ℕ → BrokenRule → Bool → List ℕ
config_reason_text line rule in_memory = decimal line ++ codes ":1: " ++ rule_text rule ++ room_text rule in_memory
