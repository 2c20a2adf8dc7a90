-- For sessions: the events of a text, line by line.
use Rattle.std.proofs.Common.{◌≡◌, ℕ, List, [], ◌∷◌, ◌++◌, Option, Some, None, refl, ap, ◌∙◌}
use Rattle.std.proofs.lemmas.List.Elements.{filter_map-append}
use Rattle.std.specs.List.{filter_map}
use Rattle.nvme_event.specs.declared.event.FleetEvent.{FleetEvent}
use Rattle.nvme_grammar.specs.Line.{line_at}
use Rattle.nvme_grammar.specs.Script.{said, event_in, events_of}
use Rattle.nvme_grammar.specs.declared.line.Line.{Line}

pub events-append : (a b : List (List ℕ)) → events_of (a ++ b) ≡ events_of a ++ events_of b
events-append a b =
    ap (filter_map event_in) (filter_map-append line_at a b) ∙ filter_map-append event_in (said a) (said b)

-- the event of a line, if it is one
abbrev pub event_of_line : Option Line → List FleetEvent
event_of_line None = []
event_of_line (Some line) = filter_map event_in (line ∷ [])

pub events-one : (bytes : List ℕ) → events_of (bytes ∷ []) ≡ event_of_line (line_at bytes)
events-one bytes = by (line_at bytes) refl
  where
    by : (o : Option Line) → line_at bytes ≡ o → events_of (bytes ∷ []) ≡ event_of_line o
    by None e = rw e refl
    by (Some line) e = rw e refl
