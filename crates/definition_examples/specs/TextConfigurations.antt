-- The lines of configurations, good and bad, and why they are refused, for worked examples.
use Rattle.std.specs.Prelude.{ℕ, List, [], ◌∷◌, ◌++◌, codes}
use Rattle.nvme_spec.specs.Configuration.{Capacity, script_capacity}
use Rattle.nvme_spec.specs.declared.config.ConfigFault.TheVariants.{BadSize}
use Rattle.library_text.specs.declared.refused.Refused.{Refused}
use Rattle.library_text.specs.declared.refused.Refused.TheVariants as refused
use Rattle.nvme_grammar.specs.declared.fault.Why.TheVariants.{Byte}
use Rattle.nvme_ns.specs.declared.refusal.BrokenRule.TheVariants.{Misnumbered, NoBlocks}
use Rattle.nvme_ns.specs.declared.refusal.ConfigReason.{ConfigReason}
use Rattle.nvme_ns.specs.declared.refusal.SetupLine.TheVariants.{Controller}

-- a medium of 1,024 blocks
abbrev pub small_medium : Capacity
small_medium = script_capacity 1024

-- one controller, as it should be
abbrev pub one_controller : List (List ℕ)
one_controller = codes "controller 1 host 1" ∷ []

-- one controller with the number of the second
abbrev pub second_controller : List (List ℕ)
second_controller = codes "controller 2 host 1" ∷ []

-- and a line outside the grammar
abbrev pub second_controller_cut : List (List ℕ)
second_controller_cut = codes "controller 2 host 1" ∷ codes "x" ∷ []

-- an event before `start`
abbrev pub early_event_lines : List (List ℕ)
early_event_lines = codes "controller 1 host 1" ∷ codes "up 1" ∷ []

-- an event after `start`, and no controller
abbrev pub event_alone : List (List ℕ)
event_alone = codes "start" ∷ codes "up 1" ∷ []

-- a whole script with one event
abbrev pub script_with_event : List ℕ
script_with_event = codes "controller 1 host 1" ++ 10 ∷ codes "start" ++ 10 ∷ codes "up 1"

-- the first line has the second controller
abbrev pub numbered_wrong : ConfigReason
numbered_wrong = record { line = Controller 0; rule = Misnumbered 1 2 }

-- why texts are refused
abbrev pub refused_too_long : Refused
refused_too_long = refused.TooLong

abbrev pub refused_line : Refused
refused_line = refused.Line 3 (record { column = 2; why = Byte 7 })

abbrev pub refused_rule : Refused
refused_rule = refused.Rule 3 BadSize (NoBlocks 2)

abbrev pub refused_event : Refused
refused_event = refused.Event 3 2

abbrev pub refused_empty : Refused
refused_empty = refused.Empty

abbrev pub refused_no_memory : Refused
refused_no_memory = refused.NoMemory
