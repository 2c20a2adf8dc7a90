-- The number of a line before `start` in a text.
use Rattle.std.specs.Prelude.{ℕ, ◌+◌, Bool, false, is_some, if◌then◌else◌, List, [], ◌∷◌, slice_get, Option, Some, None}
use Rattle.nvme_grammar.specs.Line.{line_at}
use Rattle.nvme_grammar.specs.Script.{controller_in, namespace_in, attachment_in}
use Rattle.nvme_grammar.specs.declared.line.Line.{Line}
use Rattle.nvme_ns.specs.declared.refusal.SetupLine.{SetupLine}
use Rattle.nvme_ns.specs.declared.refusal.SetupLine.TheVariants.{Controller, Namespace, Attached}

-- whether a line is of the kind of this one
abbrev pub is_of_kind : SetupLine → Option Line → Bool
is_of_kind (Controller i) (Some line) = is_some (controller_in line)
is_of_kind (Namespace i) (Some line) = is_some (namespace_in line)
is_of_kind (Attached i) (Some line) = is_some (attachment_in line)
is_of_kind wanted None = false

-- the numbers of the lines of its kind, if the first of these lines has the number n
abbrev pub numbers_of_kind : SetupLine → ℕ → List (List ℕ) → List ℕ
numbers_of_kind wanted n [] = []
numbers_of_kind wanted n (raw ∷ lines) =
    if is_of_kind wanted (line_at raw) then n ∷ numbers_of_kind wanted (n + 1) lines
    else numbers_of_kind wanted (n + 1) lines

-- the number of lines of its kind before it
abbrev pub place_of : SetupLine → ℕ
place_of (Controller i) = i
place_of (Namespace i) = i
place_of (Attached i) = i

-- its number among all lines of a text, from 1, if it exists
abbrev pub number_in : SetupLine → List (List ℕ) → Option ℕ
number_in wanted raw = slice_get (numbers_of_kind wanted 1 raw) (place_of wanted)
