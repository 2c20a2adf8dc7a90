-- The words of a command line, paths and failures, for worked examples of programs.
use Rattle.std.specs.Prelude.{ℕ, List, [], ◌∷◌, None, Some, codes}
use Rattle.nvme_grammar.specs.Lent.{lent}
use Rattle.nvme_spec.specs.declared.config.ConfigFault.TheVariants.{DoesNotFit}
use Rattle.nvme_program.specs.declared.command_line.Paths.{Paths}
use Rattle.nvme_program.specs.declared.failure.Failure.{Failure}
use Rattle.nvme_program.specs.declared.failure.Failure.TheVariants as failure
use Rattle.nvme_program.specs.declared.fault.ScriptFault.{ScriptFault}
use Rattle.nvme_program.specs.declared.fault.ScriptFault.TheVariants as fault

abbrev pub simulator_words : List (List ℕ)
simulator_words = codes "nvmesim" ∷ codes "disk.img" ∷ codes "boot.script" ∷ []

abbrev pub image_and_script : Paths
image_and_script = record { image = Some (lent (codes "disk.img")); script = Some (lent (codes "boot.script")) }

abbrev pub image_alone : Paths
image_alone = record { image = Some (lent (codes "disk.img")); script = None }

abbrev pub script_alone : Paths
script_alone = record { image = None; script = Some (lent (codes "boot.script")) }

-- the faults of a script
abbrev pub fault_syntax : ScriptFault
fault_syntax = fault.Syntax 12

abbrev pub fault_config : ScriptFault
fault_config = fault.Config 4 DoesNotFit

abbrev pub fault_too_long : ScriptFault
fault_too_long = fault.TooLong

abbrev pub fault_no_memory : ScriptFault
fault_no_memory = fault.NoMemory

abbrev pub fault_read : ScriptFault
fault_read = fault.Read

abbrev pub fault_write : ScriptFault
fault_write = fault.Write

-- the failures of a program
abbrev pub failed_script : Failure
failed_script = failure.Script fault.TooLong

abbrev pub failed_file : Failure
failed_file = failure.File

abbrev pub failed_words : Failure
failed_words = failure.CommandLine

abbrev pub failed_memory : Failure
failed_memory = failure.Memory
