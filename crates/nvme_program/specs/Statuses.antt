-- The exit status of a program: 0 if it ran to its end, else by its failure: 1 a fault of the script, 2 of a file or a
-- stream, 3 of the command line, 4 out of memory.
use Rattle.std.specs.Prelude.{ℕ, Option, None, Some}
use Rattle.nvme_program.specs.declared.fault.ScriptFault.{ScriptFault}
use Rattle.nvme_program.specs.declared.fault.ScriptFault.TheVariants.{Syntax, Config, TooLong, NoMemory, Read, Write}
use Rattle.nvme_program.specs.declared.failure.Failure.{Failure}
use Rattle.nvme_program.specs.declared.failure.Failure.TheVariants.{Script, File, CommandLine, Memory}

abbrev pub fault_status : ScriptFault → ℕ
fault_status (Syntax n) = 1
fault_status (Config n fault) = 1
fault_status TooLong = 1
fault_status Read = 2
fault_status Write = 2
fault_status NoMemory = 4

abbrev pub exit_status : Failure → ℕ
exit_status (Script fault) = fault_status fault
exit_status File = 2
exit_status CommandLine = 3
exit_status Memory = 4

-- the status of an end
abbrev pub end_status : Option Failure → ℕ
end_status None = 0
end_status (Some failure) = exit_status failure
