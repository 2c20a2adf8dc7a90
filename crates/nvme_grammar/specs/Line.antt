-- The meaning of one line of a script.
use Rattle.std.specs.Prelude.{
  ℕ,
  Bool,
  true,
  false,
  ◌==◌,
  List,
  [],
  ◌∷◌,
  codes,
  Option,
  Some,
  None,
  option_map,
  if◌then◌else◌,
}
use Rattle.std.specs.Str.{bytes_eq}
use Rattle.nvme_event.specs.declared.event.FleetEvent.{FleetEvent}
use Rattle.script_text.specs.Numbers.{number_at}
use Rattle.script_text.specs.Words.{line_words, is_line_text}
use Rattle.nvme_grammar.specs.Arity.{◌>>=◌, two, four}
use Rattle.nvme_grammar.specs.Events.{event_by}
use Rattle.nvme_grammar.specs.Keywords.{keyword_of}
use Rattle.nvme_grammar.specs.declared.keyword.Keyword.{Keyword}
use Rattle.nvme_grammar.specs.declared.keyword.Keyword.TheVariants as keyword
use Rattle.nvme_grammar.specs.declared.line.Line.{Line}
use Rattle.nvme_grammar.specs.declared.line.Line.TheVariants.{Blank, Controller, Namespace, Attached, Start, Event}

-- the words after `controller C host H`: none, or `raw`
abbrev pub rawness : List (List ℕ) → Option Bool
rawness [] = Some false
rawness (word ∷ []) = if bytes_eq word (codes "raw") then Some true else None
rawness words = None

-- `controller C host H`, or `controller C host H raw`
abbrev pub controller : List (List ℕ) → Option Line
controller (c ∷ keyword ∷ h ∷ words) = if bytes_eq keyword (codes "host") then (do
  cntlid ← number_at 16 c
  host ← number_at 128 h
  raw ← rawness words
  Some (Controller (record { cntlid = cntlid; host = host; raw = raw }))) else None
controller words = None

-- `shared` or `private`
abbrev pub sharing : List ℕ → Option Bool
sharing word =
    if bytes_eq word (codes "shared") then Some true else if bytes_eq word (codes "private") then Some false else None

-- `namespace N blocks B shared`, or `private`
abbrev pub namespace : List (List ℕ) → Option Line
namespace = four (λ n keyword b kind. if bytes_eq keyword (codes "blocks") then (do
  nsid ← number_at 32 n
  blocks ← number_at 64 b
  shared ← sharing kind
  Some (Namespace (record { nsid = nsid; blocks = blocks; shared = shared }))) else None)

-- `attached C N`
abbrev pub attached : List (List ℕ) → Option Line
attached = two (λ c n. do
  cntlid ← number_at 16 c
  nsid ← number_at 32 n
  Some (Attached cntlid nsid))

-- `start`, the only word of its line
abbrev pub start : List (List ℕ) → Option Line
start [] = Some Start
start (word ∷ words) = None

-- a line after `start`
abbrev pub event_line : Option FleetEvent → Option Line
event_line event = option_map Event event

-- the meaning of the words after a keyword
abbrev pub sentence_by : Keyword → List (List ℕ) → Option Line
sentence_by keyword.Controller words = controller words
sentence_by keyword.Namespace words = namespace words
sentence_by keyword.Attached words = attached words
sentence_by keyword.Start words = start words
sentence_by k words = event_line (event_by k words)

-- the meaning of words, by the keyword at their front
unfoldable pub sentence : List (List ℕ) → Option Line
sentence [] = Some Blank
sentence (word ∷ words) = do
  k ← keyword_of word
  sentence_by k words

-- a line whose first byte is `#`; what follows may be any bytes
abbrev pub is_comment : List ℕ → Bool
is_comment [] = false
is_comment (b ∷ bs) = b == 35

-- the meaning of a line, without its line feed, or nothing if it is outside the grammar
unfoldable pub line_at : List ℕ → Option Line
line_at bytes =
    if is_comment bytes then Some Blank
    else if is_line_text bytes then sentence (line_words bytes)
    else None
