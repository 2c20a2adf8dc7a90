-- The configuration of a session before `start`, and the lines that made it.
use Rattle.std.specs.Prelude.{
  ◌≤◌,
  ◌<◌,
  ◌⊎◌,
  ℕ,
  List,
  [],
  ◌∷◌,
  ◌++◌,
  length,
  slice_get,
  vec_capacity,
  Option,
  None,
  Some,
  option_map,
}
use Rattle.nvme_spec.specs.Configuration.{Capacity, Configuration, empty_configuration}
use Rattle.nvme_spec.specs.declared.config.Config.{Config}
use Rattle.nvme_ns.specs.Configured as ns
use Rattle.nvme_grammar.specs.declared.line.Line.{Line}
use Rattle.nvme_grammar.specs.declared.line.Line.TheVariants.{Blank, Controller, Namespace, Attached, Start, Event}
use Rattle.nvme_ns.specs.Refusals.{refusal_of}
use Rattle.nvme_ns.specs.declared.refusal.SetupLine.{SetupLine}
use Rattle.nvme_ns.specs.declared.refusal.SetupLine.TheVariants as line_of
use Rattle.nvme_ns.specs.declared.refusal.BrokenRule.{BrokenRule}
use Rattle.nvme_ns.specs.declared.refusal.ConfigReason.{ConfigReason}
use Rattle.nvme_live.specs.declared.line_numbers.LineNumbers.{LineNumbers}

-- the numbers of a session's lines for controllers, namespaces and attachments, in order
pub record Numbers : Type 0 where
  pub of_controllers : List ℕ
  pub of_namespaces : List ℕ
  pub of_attachments : List ℕ

-- the configuration, and the numbers of the lines that made it
pub record SetUp : Type 0 where
  pub configuration : Configuration
  pub numbers : Numbers

abbrev pub no_numbers : Numbers
no_numbers = record { of_controllers = []; of_namespaces = []; of_attachments = [] }

abbrev pub nothing_set_up : SetUp
nothing_set_up = record { configuration = empty_configuration; numbers = no_numbers }

abbrev pub numbers_in : LineNumbers → Numbers
numbers_in numbers = record {
  of_controllers = numbers.controllers.items;
  of_namespaces = numbers.namespaces.items;
  of_attachments = numbers.attached.items;
}

abbrev pub set_up_of : Config → LineNumbers → SetUp
set_up_of config numbers = record { configuration = ns.configuration config; numbers = numbers_in numbers }

-- a configuration after a line
abbrev pub set_by : Configuration → Line → Configuration
set_by c Blank = c
set_by c (Controller k) = record c { controllers = c.controllers ++ k ∷ [] }
set_by c (Namespace n) = record c { namespaces = c.namespaces ++ n ∷ [] }
set_by c (Attached k n) = record c { attached = c.attached ++ (k, n) ∷ [] }
set_by c Start = c
set_by c (Event event) = c

-- the numbers after the n-th line of a session
abbrev pub numbered_by : ℕ → Numbers → Line → Numbers
numbered_by n numbers Blank = numbers
numbered_by n numbers (Controller k) = record numbers { of_controllers = numbers.of_controllers ++ n ∷ [] }
numbered_by n numbers (Namespace m) = record numbers { of_namespaces = numbers.of_namespaces ++ n ∷ [] }
numbered_by n numbers (Attached k m) = record numbers { of_attachments = numbers.of_attachments ++ n ∷ [] }
numbered_by n numbers Start = numbers
numbered_by n numbers (Event event) = numbers

-- the configuration and the numbers after the n-th line of a session
abbrev pub with_line : ℕ → SetUp → Line → SetUp
with_line n s line = record {
  configuration = set_by s.configuration line;
  numbers = numbered_by n s.numbers line;
}

-- The memory that is taken before the first line: for one more of each kind than a configuration may have.
pub record HasSetUpRoom (config : Config) (numbers : LineNumbers) : Type 0 where
  pub controllers : 17 ≤ vec_capacity config.controllers
  pub namespaces : 9 ≤ vec_capacity config.namespaces
  pub attached : 129 ≤ vec_capacity config.attached
  pub of_controllers : 17 ≤ vec_capacity numbers.controllers
  pub of_namespaces : 9 ≤ vec_capacity numbers.namespaces
  pub of_attachments : 129 ≤ vec_capacity numbers.attached

-- There are more lines of this one's kind already than a configuration may have: only then can memory be refused at it.
abbrev pub IsCrowded : SetUp → Line → Type 0
IsCrowded s Blank = ⊥
IsCrowded s (Controller k) =
    (16 < length s.configuration.controllers) ⊎ (16 < length s.numbers.of_controllers)
IsCrowded s (Namespace n) = (8 < length s.configuration.namespaces) ⊎ (8 < length s.numbers.of_namespaces)
IsCrowded s (Attached k n) = (128 < length s.configuration.attached) ⊎ (128 < length s.numbers.of_attachments)
IsCrowded s Start = ⊥
IsCrowded s (Event event) = ⊥

-- the number of the i-th line of a kind, from 0
abbrev pub number_of : Numbers → SetupLine → Option ℕ
number_of numbers (line_of.Controller i) = slice_get numbers.of_controllers i
number_of numbers (line_of.Namespace i) = slice_get numbers.of_namespaces i
number_of numbers (line_of.Attached i) = slice_get numbers.of_attachments i

-- a reason by the number of its line
abbrev pub by_number : Numbers → Option ConfigReason → Option (ℕ × BrokenRule)
by_number numbers None = None
by_number numbers (Some reason) = option_map (λ k. (k, reason.rule)) (number_of numbers reason.line)

-- why the configuration is refused: the number of the line at fault, and the rule that it breaks
abbrev pub numbered_reason : SetUp → Capacity → Option (ℕ × BrokenRule)
numbered_reason s size = by_number s.numbers (refusal_of s.configuration size)
