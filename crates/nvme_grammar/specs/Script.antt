-- A script: lines of the grammar, each at a place where it is allowed.
use Rattle.std.specs.Prelude.{
  ◌≡◌,
  ℕ,
  ◌+◌,
  ◌<◌,
  ◌≤◌,
  Bool,
  true,
  false,
  not,
  List,
  [],
  ◌∷◌,
  ◌++◌,
  length,
  take,
  Option,
  Some,
  None,
  is_some,
  option_map,
  if◌then◌else◌,
}
use Rattle.std.specs.List.{filter_map, list_any, list_all}
use Rattle.nvme_spec.specs.Configuration.{Configuration, empty_configuration}
use Rattle.nvme_spec.specs.declared.config.ControllerConfig.{ControllerConfig}
use Rattle.nvme_spec.specs.declared.config.NsConfig.{NsConfig}
use Rattle.nvme_event.specs.declared.event.FleetEvent.{FleetEvent}
use Rattle.nvme_grammar.specs.Line.{line_at}
use Rattle.nvme_grammar.specs.declared.line.Line.{Line}
use Rattle.nvme_grammar.specs.declared.line.Line.TheVariants.{Blank, Controller, Namespace, Attached, Start, Event}
use Rattle.nvme_grammar.specs.declared.script.Script.{Script}

abbrev pub is_start : Line → Bool
is_start Start = true
is_start _ = false

abbrev pub controller_in : Line → Option ControllerConfig
controller_in (Controller c) = Some c
controller_in _ = None

abbrev pub namespace_in : Line → Option NsConfig
namespace_in (Namespace n) = Some n
namespace_in _ = None

abbrev pub attachment_in : Line → Option (ℕ × ℕ)
attachment_in (Attached cntlid nsid) = Some (cntlid, nsid)
attachment_in _ = None

abbrev pub event_in : Line → Option FleetEvent
event_in (Event event) = Some event
event_in _ = None

-- whether a line is allowed after `start`, or before it
abbrev pub fits : Bool → Line → Bool
fits started Blank = true
fits started (Event event) = started
fits started line = not started

-- whether a line is allowed after these
abbrev pub fits_behind : List Line → Line → Bool
fits_behind before line = fits (list_any is_start before) line

-- each of the lines is allowed after those before it
abbrev pub ArePlaced : List Line → List Line → Type 0
ArePlaced before [] = Unit {0}
ArePlaced before (line ∷ lines) = (fits_behind before line ≡ true) × ArePlaced (before ++ line ∷ []) lines

-- the meanings of the lines of a text
abbrev pub said : List (List ℕ) → List Line
said raw = filter_map line_at raw

-- these lines of a text begin a script
pub record Begins (raw : List (List ℕ)) : Type 0 where
  pub spelled : list_all (λ line. is_some (line_at line)) raw ≡ true
  pub placed : ArePlaced [] (said raw)

-- line n, counted from 1, is the first outside the grammar: with it the lines no longer begin a script
pub record IsFirstOutside (n : ℕ) (raw : List (List ℕ)) : Type 0 where
  pub counted : (0 < n) × (n ≤ length raw)
  pub before : (k : ℕ) → k < n → Begins (take k raw)
  pub outside : Begins (take n raw) → ⊥

-- the place of the first `start` among lines, counted from 1
abbrev pub start_in : List Line → Option ℕ
start_in [] = None
start_in (line ∷ lines) = if is_start line then Some 1 else option_map (λ n. n + 1) (start_in lines)

-- the configuration of lines, if `start` is among them; else the empty one
abbrev pub configuration_in : List Line → Configuration
configuration_in lines = if list_any is_start lines then record {
  controllers = filter_map controller_in lines;
  namespaces = filter_map namespace_in lines;
  attached = filter_map attachment_in lines;
} else empty_configuration

-- the parts of a script from its lines
pub record Says (lines : List Line) (script : Script) : Type 0 where
  pub controllers : script.config.controllers.items ≡ (configuration_in lines).controllers
  pub namespaces : script.config.namespaces.items ≡ (configuration_in lines).namespaces
  pub attached : script.config.attached.items ≡ (configuration_in lines).attached
  pub start : script.start ≡ start_in lines

-- the configuration of a text
abbrev pub configuration_of : List (List ℕ) → Configuration
configuration_of raw = configuration_in (said raw)

-- the number of the line `start` of a text, counted from 1
abbrev pub start_of : List (List ℕ) → Option ℕ
start_of raw = start_in (said raw)

-- the events in the lines of a text
abbrev pub events_of : List (List ℕ) → List FleetEvent
events_of raw = filter_map event_in (said raw)
