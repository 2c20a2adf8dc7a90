-- The meaning of a line after its keyword, in the order in which `reader.rt` parses it: first numbers, then data or a
-- list if the keyword has one.
use Rattle.std.specs.Prelude.{
  ◌≡◌,
  ℕ,
  ◌<◌,
  ◌^◌,
  nat_le,
  nat_lt,
  ◌&&◌,
  Bool,
  true,
  false,
  not,
  List,
  [],
  ◌∷◌,
  length,
  map,
  Option,
  Some,
  None,
  option_map,
  if◌then◌else◌,
}
use Rattle.std.specs.Borrow.{Bor}
use Rattle.std.specs.List.{list_all}
use Rattle.nvme_event.specs.declared.event.FleetEvent.{FleetEvent}
use Rattle.nvme_event.specs.declared.event.FleetEvent.TheVariants.{Place as PlaceOf, RawStore}
use Rattle.nvme_driver.specs.declared.request.Request.{Request}
use Rattle.script_text.specs.Numbers.{number_at}
use Rattle.script_text.specs.Words.{is_line_text, line_words}
use Rattle.script_text.specs.Data.{bytes_at, data_at}
use Rattle.nvme_grammar.specs.Lent.{lent, event_by_value}
use Rattle.nvme_grammar.specs.Events.{event_by}
use Rattle.nvme_grammar.specs.Line.{sentence, sentence_by}
use Rattle.nvme_grammar.specs.Places.{operand_bits}
use Rattle.nvme_grammar.specs.Keywords.{places_of, behind_of, sets_up}
use Rattle.nvme_grammar.specs.declared.keyword.Keyword.{Keyword}
use Rattle.nvme_grammar.specs.declared.keyword.Keyword.TheVariants as keyword
use Rattle.nvme_grammar.specs.declared.place.Place.{Place}
use Rattle.nvme_grammar.specs.declared.place.Place.TheVariants.{Number, Iekey}
use Rattle.nvme_grammar.specs.declared.place.Behind.{Behind}
use Rattle.nvme_grammar.specs.declared.place.Behind.TheVariants as behind
use Rattle.nvme_grammar.specs.declared.line.Line.{Line}
use Rattle.nvme_grammar.specs.declared.line.Line.TheVariants as line
use Rattle.nvme_grammar.specs.declared.reader.Transfer.{Transfer}
use Rattle.nvme_grammar.specs.declared.reader.StoreLine.{StoreLine}

-- consecutive words that are numbers of at most 64 bits, and the words after them
abbrev pub Numbers : List ℕ → List (List ℕ) → List (List ℕ) → Type 0
Numbers [] words behind = words ≡ behind
Numbers (n ∷ ns) words behind =
    (first : List ℕ) × (more : List (List ℕ))
    × (words ≡ first ∷ more) × (number_at 64 first ≡ Some n) × Numbers ns more behind

-- the bits of the number in a place; 0 for a place without a number of at most 64 bits
abbrev pub place_bits : Place → ℕ
place_bits (Number operand) = operand_bits operand
place_bits Iekey = 1
place_bits place = 0

-- each number fits its bits
abbrev pub have_bits : List ℕ → List ℕ → Bool
have_bits [] [] = true
have_bits (b ∷ bits) (n ∷ ns) = nat_lt n (2 ^ b) && have_bits bits ns
have_bits bits ns = false

-- the bits of each number after a keyword
abbrev pub bits_of : Keyword → List ℕ
bits_of k = map place_bits (places_of k)

-- a place of a number of at most 64 bits
abbrev pub is_short : Place → Bool
is_short (Number operand) = nat_le (operand_bits operand) 64
is_short Iekey = true
is_short place = false

abbrev pub ends : Behind → Bool
ends behind.Nothing = true
ends behind = false

-- an event of a keyword and at most seven such numbers
abbrev pub is_numeric : Keyword → Bool
is_numeric k =
    not (sets_up k) && (ends (behind_of k) && (nat_le (length (places_of k)) 7 && list_all is_short (places_of k)))

-- the requests on reservations among these
abbrev pub reserves : Keyword → Bool
reserves keyword.Register = true
reserves keyword.Acquire = true
reserves keyword.Release = true
reserves k = false

-- all requests with more numbers than `C N`, except those on blocks
abbrev pub has_operands : Keyword → Bool
has_operands keyword.Protect = true
has_operands keyword.Report = true
has_operands k = reserves k

-- all requests among these
abbrev pub asks : Keyword → Bool
asks keyword.Read = true
asks keyword.Zeroes = true
asks keyword.Flush = true
asks keyword.Protection = true
asks k = has_operands k

-- the keywords of lists
abbrev pub lists : Keyword → Bool
lists keyword.Attach = true
lists keyword.Detach = true
lists k = false

-- the keywords of lines that are not events, and have words besides numbers, or none
abbrev pub sets_up_by_words : Keyword → Bool
sets_up_by_words keyword.Controller = true
sets_up_by_words keyword.Namespace = true
sets_up_by_words keyword.Start = true
sets_up_by_words k = false

-- all keywords of lines that are not events, or have a list
abbrev pub is_other : Keyword → Bool
is_other keyword.Attach = true
is_other keyword.Detach = true
is_other keyword.Attached = true
is_other k = sets_up_by_words k

-- numbers after a keyword are this event, in any form of the numbers
abbrev pub SaysEvent : Keyword → List ℕ → FleetEvent → Type 0
SaysEvent k ns event =
    (words : List (List ℕ)) → Numbers ns words [] → event_by k words ≡ Some (event_by_value event)

abbrev pub says_event : FleetEvent → Line
says_event event = line.Event (event_by_value event)

-- the meaning of a text
abbrev pub sentence_in : List ℕ → Option Line
sentence_in line = if is_line_text line then sentence (line_words line) else None

-- its meaning after a keyword
abbrev pub sentence_behind : Keyword → List ℕ → Option Line
sentence_behind k behind = if is_line_text behind then sentence_by k (line_words behind) else None

-- only one word
abbrev pub is_one : List (List ℕ) → Bool
is_one (word ∷ []) = true
is_one words = false

-- the words of a Write or a Compare after its keyword
pub record IsTransfer (words : List (List ℕ)) (t : Transfer) : Type 0 where
  pub numbers : Numbers (t.cntlid ∷ t.nsid ∷ t.slba ∷ t.blocks ∷ []) words (t.word.now ∷ [])
  pub cntlid : t.cntlid < 2 ^ 16
  pub nsid : t.nsid < 2 ^ 32
  pub blocks : t.blocks < 2 ^ 32

-- the words of a store after its keyword
pub record IsStoreLine (words : List (List ℕ)) (s : StoreLine) : Type 0 where
  pub numbers : Numbers (s.cntlid ∷ s.address ∷ []) words (s.word.now ∷ [])
  pub cntlid : s.cntlid < 2 ^ 16

-- the line of a transfer
abbrev pub transfer_line : (ℕ → ℕ → Bor (List ℕ) → Request) → Transfer → Option Line
transfer_line make t =
    option_map (λ bytes. line.Event (PlaceOf t.cntlid (make t.nsid t.slba (lent bytes)))) (data_at t.blocks t.word.now)

-- the line of a store
abbrev pub stored_line : StoreLine → Option Line
stored_line s = option_map (λ bytes. line.Event (RawStore s.cntlid s.address (lent bytes))) (bytes_at s.word.now)
