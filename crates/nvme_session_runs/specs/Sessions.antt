-- Statements of the example runs of sessions.
use Rattle.std.specs.Prelude.{
  ◌≡◌,
  ◌++◌,
  ◌≤◌,
  ◌↔◌,
  ℕ,
  Bool,
  true,
  List,
  [],
  ◌∷◌,
  length,
  codes,
  replicate,
  Option,
  None,
  Some,
}
use Rattle.std.specs.List.{concat}
use Rattle.nvme_spec.specs.declared.config.ConfigFault.{ConfigFault}
use Rattle.nvme_spec.specs.declared.config.ConfigFault.TheVariants.{DoesNotFit}
use Rattle.nvme_spec.specs.Blocks.{Device}
use Rattle.nvme_spec.specs.Configuration.{Capacity, config_fault, script_capacity}
use Rattle.nvme_spec.specs.Examples.{controller, namespace}
use Rattle.nvme_ns.specs.declared.refusal.BrokenRule.{BrokenRule}
use Rattle.nvme_ns.specs.declared.refusal.BrokenRule.TheVariants as broken
use Rattle.nvme_program.specs.declared.fault.ScriptFault.TheVariants.{Config}
use Rattle.nvme_script.specs.Faults.{IsEarlyFault}
use Rattle.nvme_live.specs.Conversations.{CanRun, Ends, alone}
use Rattle.nvme_live.specs.Saying.{with_feed}
use Rattle.nvme_live.specs.SessionLaws.{HasTicketsOnce, failures_at}
use Rattle.nvme_live.specs.SessionScripts.{IsRefused, text_of}
use Rattle.nvme_live.specs.SetUps.{SetUp, nothing_set_up, numbered_reason}
use Rattle.nvme_live.specs.SetUpLaws.{IsNumbered, IsSettingLine}
use Rattle.nvme_live.specs.Standings.{Over, Session, Setting, Standing, TurnOf, refused_text}
use Rattle.nvme_live.specs.Streams.{AddsKnown, TakesKnown}

-- A session over a medium of two blocks: a controller, an empty line, a comment, and a namespace of three blocks.
unfoldable pub lines : List (List ℕ)
lines = codes "controller 1 host 0xa1" ∷ [] ∷ codes "# a comment" ∷ codes "namespace 1 blocks 3 shared" ∷ []

abbrev pub an_ok : List ℕ
an_ok = with_feed (codes "ok")

abbrev pub answers : List (List ℕ)
answers = an_ok ∷ an_ok ∷ an_ok ∷ an_ok ∷ []

abbrev pub medium : Device
medium = record { content = replicate 1024 0; failures = 0 }

abbrev pub set_up : SetUp
set_up = record {
  configuration = record { controllers = controller 1 0xa1 ∷ []; namespaces = namespace 1 3 true ∷ []; attached = [] };
  numbers = record { of_controllers = 1 ∷ []; of_namespaces = 4 ∷ []; of_attachments = [] };
}

abbrev pub two_blocks : Capacity
two_blocks = script_capacity 2

abbrev pub too_large : BrokenRule
too_large = broken.DoesNotFit 1 2

-- SetUpIsNumbered and RefusalNamesALine: `start` is refused, and line 4 is at fault.
pub record RefusalAtWork : Type 0 where
  pub session : Session true two_blocks medium 1 (Setting nothing_set_up) lines answers (Setting set_up)
  pub numbered : IsNumbered lines set_up
  pub fault : config_fault set_up.configuration two_blocks ≡ Some DoesNotFit
  pub reason : numbered_reason set_up two_blocks ≡ Some (4, too_large)
  pub names : IsSettingLine 4 lines
  pub holds : (k : ℕ) × (rule : BrokenRule) × (numbered_reason set_up two_blocks ≡ Some (k, rule))
      × IsSettingLine k lines
  pub start : Session true two_blocks medium 5 (Setting set_up) (codes "start" ∷ [])
      (with_feed (refused_text 5 DoesNotFit (Some (4, too_large))) ∷ []) (Over 5 DoesNotFit)

-- RefusalNamesALine without its premise that a session made the configuration; another one may have no line numbers.
abbrev pub RefusalOfAnySetUp : Type 0
RefusalOfAnySetUp =
    (size : Capacity) (lines : List (List ℕ)) (s : SetUp) (fault : ConfigFault)
    → config_fault s.configuration size ≡ Some fault
    → (k : ℕ) × (rule : BrokenRule) × (numbered_reason s size ≡ Some (k, rule)) × IsSettingLine k lines

-- SessionIsUnique for these lines, and for a session over a medium whose calls may fail.
pub record SessionAtWork : Type 0 where
  pub alone : (other : Standing) (others : List (List ℕ))
      → Session true two_blocks medium 1 (Setting nothing_set_up) lines others other
      → failures_at medium other ≡ 0 → (others ≡ answers) × (other ≡ Setting set_up)

abbrev pub SessionOverFaults : Type 0
SessionOverFaults =
    (size : Capacity) (d : Device) (n : ℕ) (old new other : Standing) (lines answers others : List (List ℕ))
    → HasTicketsOnce old → Session true size d n old lines answers new
    → Session true size d n old lines others other
    → other ≡ new

-- RefusedIsAFault: the text of the lines and of `start` is a script that is refused with the same fault.
abbrev pub text : List ℕ
text = text_of lines ++ codes "start"

pub record ScriptAtWork : Type 0 where
  pub refused : IsRefused two_blocks text [] DoesNotFit
  pub short : length text ≤ 4194304
  pub holds : IsEarlyFault (Config refused.starts.0 DoesNotFit) text two_blocks
  pub line : refused.starts.0 ≡ 5

-- RunsWhereAccepted: `start` can be followed by events if the medium has three blocks, and can't if it has two.
abbrev pub larger : Device
larger = record { content = replicate 1536 0; failures = 0 }

pub record AcceptedAtWork : Type 0 where
  pub accepted : config_fault set_up.configuration (script_capacity 3) ≡ None
  pub runs : CanRun (TurnOf true (script_capacity 3) larger) alone 5 (Setting set_up) (codes "start")
  pub refused : CanRun (TurnOf true two_blocks medium) alone 5 (Setting set_up) (codes "start") → ⊥

-- RunsWhereAccepted without its premise that the line is `start`.
abbrev pub AcceptedAtAnyLine : Type 0
AcceptedAtAnyLine =
    (tells : Bool) (size : Capacity) (d : Device) (n : ℕ) (s : SetUp) (line : List ℕ)
    → CanRun (TurnOf tells size d) alone n (Setting s) line ↔ (config_fault s.configuration size ≡ None)

-- EndIsUnique: these lines, read to the end of the input, have one end and one list of answers.
abbrev pub EndsIn : Standing → Option (List ℕ) → Option (List ℕ) → Type 0
EndsIn new left after =
    Ends (TurnOf true two_blocks medium) TakesKnown AddsKnown 1 (Setting nothing_set_up) new (Some (text_of lines)) left
    (Some []) after

pub record EndAtWork : Type 0 where
  pub ends : EndsIn (Setting set_up) (Some []) (Some (concat answers))
  pub unique : (other : Standing) (left after : Option (List ℕ)) → EndsIn other left after
      → failures_at medium other ≡ 0 → (other ≡ Setting set_up) × (after ≡ Some (concat answers))

-- EndIsUnique for input over a medium whose calls may fail.
abbrev pub EndOverFaults : Type 0
EndOverFaults =
    (size : Capacity) (d : Device) (n : ℕ) (old new other : Standing) (text before : List ℕ)
    (left right after another : Option (List ℕ)) → HasTicketsOnce old
    → Ends (TurnOf true size d) TakesKnown AddsKnown n old new (Some text) left (Some before) after
    → Ends (TurnOf true size d) TakesKnown AddsKnown n old other (Some text) right (Some before) another
    → (other ≡ new) × (another ≡ after)
