-- Statements of the law `refusals_name_a_line`: the numbers of a session's setup lines, one of which a refused `start`
-- names.
use Rattle.std.specs.Prelude.{
  ◌≡◌,
  ◌↔◌,
  ◌+◌,
  ℕ,
  Bool,
  false,
  is_some,
  if◌then◌else◌,
  List,
  [],
  ◌∷◌,
  length,
  slice_get,
  Option,
  None,
  Some,
}
use Rattle.nvme_spec.specs.Blocks.{Device}
use Rattle.nvme_spec.specs.Configuration.{Capacity, config_fault}
use Rattle.nvme_spec.specs.declared.config.ConfigFault.{ConfigFault}
use Rattle.nvme_grammar.specs.Script.{attachment_in, controller_in, namespace_in}
use Rattle.nvme_grammar.specs.declared.line.Line.{Line}
use Rattle.nvme_grammar.specs.declared.line.Line.TheVariants.{Start}
use Rattle.nvme_ns.specs.declared.refusal.BrokenRule.{BrokenRule}
use Rattle.live_text.specs.declared.asking.Asked.{Asked}
use Rattle.live_text.specs.declared.asking.Asked.TheVariants.{Fails, Nothing, Looks, Parses, Sets, Does}
use Rattle.live_text.specs.Asking.{asked}
use Rattle.nvme_live.specs.Conversations.{CanRun, alone}
use Rattle.nvme_live.specs.SetUps.{SetUp, nothing_set_up, numbered_reason}
use Rattle.nvme_live.specs.Standings.{Setting, Session, TurnOf}

-- whether a line adds something of a kind
abbrev pub sets_up : {A : Type 0} → (Line → Option A) → Asked → Bool
sets_up in_line (Sets line) = is_some (in_line line)
sets_up in_line (Fails why) = false
sets_up in_line Nothing = false
sets_up in_line (Looks looking) = false
sets_up in_line (Parses line) = false
sets_up in_line (Does event) = false

-- The numbers of the lines that add something of a kind, among lines of which the first has the number n: all lines
-- count, also those without effect, queries and refused ones.
abbrev pub numbers_from : {A : Type 0} → (Line → Option A) → ℕ → List (List ℕ) → List ℕ
numbers_from in_line n [] = []
numbers_from in_line n (line ∷ lines) =
    if sets_up in_line (asked line) then n ∷ numbers_from in_line (n + 1) lines else numbers_from in_line (n + 1) lines

-- The configuration of a session, from its first line, has the numbers of exactly the lines that made it; each list of
-- the configuration is as long as that of its numbers.
pub record IsNumbered (lines : List (List ℕ)) (s : SetUp) : Type 0 where
  pub controllers : s.numbers.of_controllers ≡ numbers_from controller_in 1 lines
  pub namespaces : s.numbers.of_namespaces ≡ numbers_from namespace_in 1 lines
  pub attachments : s.numbers.of_attachments ≡ numbers_from attachment_in 1 lines
  pub each_controller : length s.numbers.of_controllers ≡ length s.configuration.controllers
  pub each_namespace : length s.numbers.of_namespaces ≡ length s.configuration.namespaces
  pub each_attachment : length s.numbers.of_attachments ≡ length s.configuration.attached

abbrev pub SetUpIsNumbered : Type 0
SetUpIsNumbered =
    (tells : Bool) (size : Capacity) (d : Device) (lines answers : List (List ℕ)) (s : SetUp)
    → Session tells size d 1 (Setting nothing_set_up) lines answers (Setting s) → IsNumbered lines s

-- A session can run after its `start` exactly if its configuration has no fault. So only then can memory be refused at
-- `start`.
abbrev pub RunsWhereAccepted : Type 0
RunsWhereAccepted =
    (tells : Bool) (size : Capacity) (d : Device) (n : ℕ) (s : SetUp) (line : List ℕ) → asked line ≡ Sets Start
    → (CanRun (TurnOf tells size d) alone n (Setting s) line ↔ (config_fault s.configuration size ≡ None))

-- the line with this number, of lines from the first, is a setup line
pub record IsSettingLine (k : ℕ) (lines : List (List ℕ)) : Type 0 where
  pub place : ℕ
  pub counted : k ≡ place + 1
  pub line : List ℕ
  pub at : slice_get lines place ≡ Some line
  pub says : Line
  pub sets : asked line ≡ Sets says

-- If a session can't start with its configuration, the refusal has a reason: it names a setup line of the session. So
-- its answer always has its second half.
abbrev pub RefusalNamesALine : Type 0
RefusalNamesALine =
    (tells : Bool) (size : Capacity) (d : Device) (lines answers : List (List ℕ)) (s : SetUp) (fault : ConfigFault)
    → Session tells size d 1 (Setting nothing_set_up) lines answers (Setting s)
    → config_fault s.configuration size ≡ Some fault
    → (k : ℕ) × (rule : BrokenRule) × (numbered_reason s size ≡ Some (k, rule)) × IsSettingLine k lines
