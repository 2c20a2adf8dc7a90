-- The events of a text as they are stored, from its check until they happen.
use Rattle.std.specs.Prelude.{ℕ, ◌^◌, nat_lt, List, [], ◌∷◌, drop, Option, Some, None, if◌then◌else◌}
use Rattle.std.specs.List.{filter_map}
use Rattle.nvme_event.specs.declared.event.FleetEvent.{FleetEvent}
use Rattle.nvme_event.specs.declared.event.FleetEvent.TheVariants as event
use Rattle.script_text.specs.Lines.{text_lines}
use Rattle.nvme_grammar.specs.Arity.{◌>>=◌}
use Rattle.nvme_grammar.specs.Line.{line_at}
use Rattle.nvme_grammar.specs.Script.{event_in}
use Rattle.nvme_grammar.specs.declared.kept.KeptEvent.{KeptEvent}
use Rattle.nvme_grammar.specs.declared.kept.KeptEvent.TheVariants.{BringUp, Ring, Fetch, Execute, Poll, Reset, Line}

-- the event of a line, if it has one
abbrev pub line_event : List ℕ → Option FleetEvent
line_event raw = line_at raw >>= event_in

-- the event of the first of some lines
abbrev pub first_event : List (List ℕ) → Option FleetEvent
first_event [] = None
first_event (raw ∷ behind) = line_event raw

-- the event of this text that is stored in this form
abbrev pub kept_event : List ℕ → KeptEvent → Option FleetEvent
kept_event text (BringUp cntlid) = Some (event.BringUp cntlid)
kept_event text (Ring cntlid) = Some (event.Ring cntlid)
kept_event text (Fetch cntlid queue) = Some (event.Fetch cntlid queue)
kept_event text (Execute cntlid index) = Some (event.Execute cntlid index)
kept_event text (Poll cntlid) = Some (event.Poll cntlid)
kept_event text (Reset cntlid) = Some (event.Reset cntlid)
kept_event text (Line before) = first_event (text_lines (drop before text))

-- the events that are stored in this form, in order
abbrev pub kept_events : List ℕ → List KeptEvent → List FleetEvent
kept_events text kept = filter_map (kept_event text) kept

-- how an event is stored whose line begins after this many bytes
abbrev pub kept_as : ℕ → FleetEvent → KeptEvent
kept_as before (event.BringUp cntlid) = BringUp cntlid
kept_as before (event.Ring cntlid) = Ring cntlid
kept_as before (event.Fetch cntlid queue) = Fetch cntlid queue
kept_as before (event.Execute cntlid index) = if nat_lt index (2 ^ 16) then Execute cntlid index else Line before
kept_as before (event.Poll cntlid) = Poll cntlid
kept_as before (event.Reset cntlid) = Reset cntlid
kept_as before event = Line before
