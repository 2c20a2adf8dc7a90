-- The lines of scripts for events of raw hosts, of controllers and of all, each with its line feed.
use Rattle.std.specs.Prelude.{
  ◌≡◌,
  ℕ,
  ◌^◌,
  nat_lt,
  List,
  [],
  ◌∷◌,
  ◌++◌,
  codes,
  Option,
  Some,
  None,
  Result,
  if◌then◌else◌,
}
use Rattle.nvme_event.specs.declared.event.FleetEvent.{FleetEvent}
use Rattle.nvme_event.specs.declared.event.FleetEvent.TheVariants as event
use Rattle.nvme_grammar.specs.declared.keyword.Keyword.TheVariants as keyword
use Rattle.nvme_lines.specs.LineTexts as line
use Rattle.library_text.specs.declared.putting.Unput.{Unput}
use Rattle.library_text.specs.Putting.{Puts}

-- the line of any event
abbrev pub whole_line : FleetEvent → List ℕ
whole_line e = line.event_line e ++ 10 ∷ []

-- the part before the digits of a store's line
abbrev pub store_front : ℕ → ℕ → List ℕ
store_front cntlid address =
    line.keyword_line keyword.Store (line.decimals (cntlid ∷ address ∷ []) ++ codes "hex:" ∷ [])

-- a line, if there are bytes
abbrev pub if_any : List ℕ → List ℕ → Option (List ℕ)
if_any [] text = None
if_any (b ∷ bs) text = Some text

-- The line of an event. A store of no bytes has none, and the place of a command has 16 bits there.
abbrev pub event_line : FleetEvent → Option (List ℕ)
event_line (event.RawStore cntlid address bytes) = if_any bytes.now (whole_line (event.RawStore cntlid address bytes))
event_line (event.RawWrite32 cntlid offset value) = Some (whole_line (event.RawWrite32 cntlid offset value))
event_line (event.Fetch cntlid qid) = Some (whole_line (event.Fetch cntlid qid))
event_line (event.Execute cntlid i) = if nat_lt i (2 ^ 16) then Some (whole_line (event.Execute cntlid i)) else None
event_line event.PowerCycle = Some (whole_line event.PowerCycle)
event_line e = None

-- it is put into a buffer, if there is one
abbrev pub PutsLine : Option (List ℕ) → Option (Result ℕ Unput) → List ℕ → List ℕ → Type 0
PutsLine None None old new = new ≡ old
PutsLine (Some text) (Some result) old new = Puts text result old new
PutsLine line result old new = ⊥
