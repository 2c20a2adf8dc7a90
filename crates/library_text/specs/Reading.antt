-- A configuration's text, parsed and checked.
use Rattle.std.specs.Prelude.{
  ◌≡◌,
  ◌≢◌,
  ◌≤◌,
  ◌<◌,
  ◌+◌,
  ◌-◌,
  ℕ,
  false,
  is_some,
  List,
  [],
  ◌∷◌,
  length,
  Option,
  Some,
  None,
  option_map,
  if◌then◌else◌,
}
use Rattle.std.specs.List.{filter_map}
use Rattle.script_text.specs.Lines.{text_lines}
use Rattle.script_text.specs.Words.{column_of}
use Rattle.nvme_spec.specs.Configuration.{Capacity, Configuration, config_fault}
use Rattle.nvme_spec.specs.declared.config.ConfigFault.{ConfigFault}
use Rattle.nvme_grammar.specs.Kept.{line_event}
use Rattle.nvme_grammar.specs.LineFaults.{fault_by_value, fault_in}
use Rattle.nvme_grammar.specs.Script.{Begins, IsFirstOutside, attachment_in, controller_in, namespace_in, said}
use Rattle.nvme_ns.specs.Refusals.{fault_of, refusal_of}
use Rattle.nvme_program.specs.SetupLines.{number_in}
use Rattle.nvme_ns.specs.declared.refusal.BrokenRule.{BrokenRule}
use Rattle.nvme_ns.specs.declared.refusal.ConfigReason.{ConfigReason}
use Rattle.nvme_ns.specs.declared.refusal.SetupLine.{SetupLine}
use Rattle.library_text.specs.declared.refused.Refused.{Refused}
use Rattle.library_text.specs.declared.refused.Refused.TheVariants.{TooLong, Line, Rule, Event, Empty, NoMemory}

-- the configuration of a text's lines, with or without `start`
abbrev pub set_up : List (List ℕ) → Configuration
set_up raw = record {
  controllers = filter_map controller_in (said raw);
  namespaces = filter_map namespace_in (said raw);
  attached = filter_map attachment_in (said raw);
}

-- the first event among lines that are counted from n: its number, and the column of its first word
abbrev pub first_event : ℕ → List (List ℕ) → Option (ℕ × ℕ)
first_event n [] = None
first_event n (line ∷ lines) =
    if is_some (line_event line) then Some (n, column_of 0 line) else first_event (n + 1) lines

-- lines of the grammar, each at a place where it is allowed, whose configuration is accepted
abbrev pub IsSound : List (List ℕ) → Capacity → Type 0
IsSound raw size = Begins raw × (config_fault (set_up raw) size ≡ None)

-- the refusal names the line that breaks the rule
abbrev pub RuleOf : List (List ℕ) → ConfigReason → Refused → Type 0
RuleOf raw reason (Rule n fault broken) =
    (fault ≡ fault_of reason.rule) × (broken ≡ reason.rule) × (number_in reason.line raw ≡ Some n)
RuleOf raw reason NoMemory = Unit {0}
RuleOf raw reason refused = ⊥

-- line n breaks this rule, the first of all broken ones
pub record IsBroken (raw : List (List ℕ)) (size : Capacity) (n : ℕ) (fault : ConfigFault)
    (broken : BrokenRule) : Type 0 where
  pub line : SetupLine
  pub begins : Begins raw
  pub first : refusal_of (set_up raw) size ≡ Some (record { line = line; rule = broken })
  pub fault_is : fault ≡ fault_of broken
  pub number : number_in line raw ≡ Some n

-- why the lines of a text are refused; memory may be refused at any time
abbrev pub RefusesLines : List (List ℕ) → Capacity → Refused → Type 0
RefusesLines raw size TooLong = ⊥
RefusesLines raw size (Line n fault) =
    IsFirstOutside n raw × (fault_in false (n - 1) raw ≡ Some (fault_by_value fault))
RefusesLines raw size (Rule n fault broken) = IsBroken raw size n fault broken
RefusesLines raw size (Event n column) = IsSound raw size × (first_event 1 raw ≡ Some (n, column))
RefusesLines raw size Empty = IsSound raw size × (first_event 1 raw ≡ None) × ((set_up raw).controllers ≡ [])
RefusesLines raw size NoMemory = Unit {0}

-- the most bytes of a text, and why a text is refused
abbrev pub most_bytes : ℕ
most_bytes = 4194304

abbrev pub Refuses : List ℕ → Capacity → Refused → Type 0
Refuses text size TooLong = most_bytes < length text
Refuses text size refused = (length text ≤ most_bytes) × RefusesLines (text_lines text) size refused

-- a text is accepted, with this configuration
pub record Accepts (text : List ℕ) (size : Capacity) (c : Configuration) : Type 0 where
  pub few : length text ≤ most_bytes
  pub sound : IsSound (text_lines text) size
  pub silent : first_event 1 (text_lines text) ≡ None
  pub controlled : c.controllers ≢ []
  pub is : c ≡ set_up (text_lines text)
