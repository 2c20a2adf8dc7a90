-- Sets of commands by their opcodes, for I/O and admin commands (Base Specification: Submission Queue Entry; Opcode).
use Rattle.std.specs.Prelude.{ℕ, ◌==◌, Bool, false, List, Option, None, Some, find}
use Rattle.std.specs.List.{list_any}

-- the command of a set with this opcode
abbrev pub command_with : {C : Type 0} → (C → ℕ) → List C → ℕ → Option C
command_with opcode_of commands opcode = find (λ c. opcode_of c == opcode) commands

-- there is a command, and it is one of these
abbrev pub is_among : {C : Type 0} → (C → ℕ) → Option C → List C → Bool
is_among opcode_of None commands = false
is_among opcode_of (Some command) commands = list_any (λ c. opcode_of c == opcode_of command) commands
