-- The event of a line after `start`.
use Rattle.std.specs.Prelude.{ℕ, List, ◌∷◌, Option, Some, None, option_map}
use Rattle.nvme_event.specs.declared.event.FleetEvent.{FleetEvent}
use Rattle.nvme_event.specs.declared.event.FleetEvent.TheVariants.{
  BringUp,
  Place,
  Ring,
  Fetch,
  Execute,
  Poll,
  Reset,
  RawStore,
  RawWrite32,
  PowerCycle,
}
use Rattle.nvme_driver.specs.declared.request.Request.TheVariants.{Identify}
use Rattle.script_text.specs.Numbers.{number_at}
use Rattle.script_text.specs.Data.{bytes_at}
use Rattle.nvme_grammar.specs.Arity.{◌>>=◌, zero_words, one, two, three}
use Rattle.nvme_grammar.specs.Lent.{lent}
use Rattle.nvme_grammar.specs.Requests.{request_by}
use Rattle.nvme_grammar.specs.declared.keyword.Keyword.{Keyword}
use Rattle.nvme_grammar.specs.declared.keyword.Keyword.TheVariants as keyword

-- `C`
abbrev pub alone : List (List ℕ) → Option ℕ
alone = one (number_at 16)

-- `C Q`, or `C I`
abbrev pub pair : List (List ℕ) → Option (ℕ × ℕ)
pair = two (λ c n. do
  cntlid ← number_at 16 c
  number ← number_at 16 n
  Some (cntlid, number))

-- `C CNS NSID`
abbrev pub identify : List (List ℕ) → Option FleetEvent
identify = three (λ c s n. do
  cntlid ← number_at 16 c
  cns ← number_at 8 s
  nsid ← number_at 32 n
  Some (Place cntlid (Identify cns nsid)))

-- `C ADDR hex:DIGITS`
abbrev pub store : List (List ℕ) → Option FleetEvent
store = three (λ c a word. do
  cntlid ← number_at 16 c
  address ← number_at 64 a
  bytes ← bytes_at word
  Some (RawStore cntlid address (lent bytes)))

-- `C OFF V`
abbrev pub write32 : List (List ℕ) → Option FleetEvent
write32 = three (λ c o v. do
  cntlid ← number_at 16 c
  offset ← number_at 64 o
  value ← number_at 32 v
  Some (RawWrite32 cntlid offset value))

-- `C N`, and the words for the request of this keyword
abbrev pub place : Keyword → List (List ℕ) → Option FleetEvent
place k (c ∷ n ∷ words) = do
  cntlid ← number_at 16 c
  nsid ← number_at 32 n
  request ← request_by k nsid words
  Some (Place cntlid request)
place k words = None

-- the event of the words after a keyword
abbrev pub event_by : Keyword → List (List ℕ) → Option FleetEvent
event_by keyword.Up words = option_map BringUp (alone words)
event_by keyword.Ring words = option_map Ring (alone words)
event_by keyword.Fetch words = option_map (λ p. Fetch p.0 p.1) (pair words)
event_by keyword.Execute words = option_map (λ p. Execute p.0 p.1) (pair words)
event_by keyword.Poll words = option_map Poll (alone words)
event_by keyword.Reset words = option_map Reset (alone words)
event_by keyword.Store words = store words
event_by keyword.Write32 words = write32 words
event_by keyword.PowerCycle words = zero_words PowerCycle words
event_by keyword.Identify words = identify words
event_by k words = place k words
