-- A script while it is read, for the contracts of `script.rt` and `read_lines`.
use Rattle.std.specs.Prelude.{◌≡◌, ℕ, List, [], ◌∷◌}
use Rattle.std.specs.List.{filter_map}
use Rattle.nvme_grammar.specs.Script.{controller_in, namespace_in, attachment_in, start_in}
use Rattle.nvme_event.specs.declared.event.FleetEvent.{FleetEvent}
use Rattle.nvme_event.specs.declared.event.FleetEvent.TheVariants.{
  BringUp,
  Ring,
  Fetch,
  Execute,
  Poll,
  Reset,
  PowerCycle,
}
use Rattle.nvme_grammar.specs.Kept.{kept_as}
use Rattle.nvme_grammar.specs.declared.kept.KeptEvent.{KeptEvent}
use Rattle.nvme_grammar.specs.declared.line.Line.{Line}
use Rattle.nvme_grammar.specs.declared.line.Line.TheVariants.{Event}
use Rattle.nvme_grammar.specs.declared.script.Script.{Script}

-- these lines were read
pub record Reads (script : Script) (lines : List Line) : Type 0 where
  pub controllers : script.config.controllers.items ≡ filter_map controller_in lines
  pub namespaces : script.config.namespaces.items ≡ filter_map namespace_in lines
  pub attached : script.config.attached.items ≡ filter_map attachment_in lines
  pub start : script.start ≡ start_in lines

-- an event, or a placeholder if its line is parsed again later
abbrev pub event_aside : FleetEvent → FleetEvent
event_aside (BringUp cntlid) = BringUp cntlid
event_aside (Ring cntlid) = Ring cntlid
event_aside (Fetch cntlid queue) = Fetch cntlid queue
event_aside (Execute cntlid index) = Execute cntlid index
event_aside (Poll cntlid) = Poll cntlid
event_aside (Reset cntlid) = Reset cntlid
event_aside event = PowerCycle

-- a line, with a placeholder if its event is parsed again later
abbrev pub line_aside : Line → Line
line_aside (Event event) = Event (event_aside event)
line_aside line = line

-- how the event of a line is stored that begins after this many bytes, if it is one
abbrev pub kept_of_line : ℕ → Line → List KeptEvent
kept_of_line before (Event event) = kept_as before event ∷ []
kept_of_line before line = []
