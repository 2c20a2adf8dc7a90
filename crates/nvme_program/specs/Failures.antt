-- The failures that can end a program when a file can't be opened, and in a run.
use Rattle.std.specs.Prelude.{Option, None, Some}
use Rattle.nvme_program.specs.declared.failure.Failure.{Failure}
use Rattle.nvme_program.specs.declared.failure.Failure.TheVariants.{Script, File, Memory}

-- a file can't be opened: a file fault, or memory was refused
abbrev pub IsOfFile : Failure → Type 0
IsOfFile File = Unit {0}
IsOfFile Memory = Unit {0}
IsOfFile _ = ⊥

-- the end of a run: none, a fault of the script, or memory was refused
abbrev pub IsOfRun : Option Failure → Type 0
IsOfRun None = Unit {0}
IsOfRun (Some (Script fault)) = Unit {0}
IsOfRun (Some Memory) = Unit {0}
IsOfRun _ = ⊥
