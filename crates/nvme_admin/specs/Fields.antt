-- The fields of Identify Controller, in three parts, for the contracts of the functions that fill them.
use Rattle.std.specs.Prelude.{ℕ, List, [], ◌∷◌, codes}
use Rattle.nvme_spec.specs.Commands.{optional_commands}
use Rattle.nvme_spec.specs.Identify.{Field, byte_field, word_field, dword_field, text_field}

-- its vendor
abbrev pub name_fields : List Field
name_fields =
    text_field 4 20 (codes "NVMESIM") ∷ text_field 24 40 (codes "Multi-Host Subsystem") ∷ text_field 64 8 (codes "1.0")
    ∷ []

-- its kind
abbrev pub kind_fields : ℕ → List Field
kind_fields cntlid =
    byte_field 76 0x02 ∷ byte_field 77 5 ∷ word_field 78 cntlid ∷ dword_field 80 0x00020000
    ∷ dword_field 96 0x00000001 ∷ byte_field 111 1 ∷ word_field 256 0x0008 ∷ []

-- its I/O commands
abbrev pub command_fields : List Field
command_fields =
    byte_field 512 0x66 ∷ byte_field 513 0x44 ∷ dword_field 516 8 ∷ word_field 520 optional_commands
    ∷ byte_field 525 0x04
    ∷ byte_field 531 3 ∷ []
