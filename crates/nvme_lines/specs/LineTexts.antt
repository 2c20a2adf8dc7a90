-- The text of each line, which the grammar parses as that line.
use Rattle.std.specs.Prelude.{ℕ, ◌/◌, Bool, true, false, List, [], ◌∷◌, ◌++◌, codes, length, map}
use Rattle.std.specs.Fmt.{decimal, digits}
use Rattle.std.specs.List.{flat_map}
use Rattle.script_text.specs.HexText.{hex_pair, without_trailing_zeros}
use Rattle.nvme_spec.specs.Limits.{block_size}
use Rattle.nvme_driver.specs.declared.request.Request.{Request}
use Rattle.nvme_driver.specs.declared.request.Request.TheVariants as request
use Rattle.nvme_event.specs.declared.event.FleetEvent.{FleetEvent}
use Rattle.nvme_event.specs.declared.event.FleetEvent.TheVariants as event
use Rattle.nvme_grammar.specs.Keywords.{keyword_text}
use Rattle.nvme_grammar.specs.declared.keyword.Keyword.{Keyword}
use Rattle.nvme_grammar.specs.declared.keyword.Keyword.TheVariants as keyword
use Rattle.nvme_grammar.specs.declared.line.Line.{Line}
use Rattle.nvme_grammar.specs.declared.line.Line.TheVariants.{Blank, Controller, Namespace, Attached, Start, Event}

-- words, each after a space
abbrev pub spaced : List (List ℕ) → List ℕ
spaced words = flat_map (λ word. codes " " ++ word) words

-- a keyword, and the words after it
abbrev pub keyword_line : Keyword → List (List ℕ) → List ℕ
keyword_line k words = keyword_text k ++ spaced words

-- numbers in decimal
abbrev pub decimals : List ℕ → List (List ℕ)
decimals numbers = map decimal numbers

-- a host, in hexadecimal
abbrev pub host_word : ℕ → List ℕ
host_word h = codes "0x" ++ digits 16 false h

-- all bytes
abbrev pub bytes_word : List ℕ → List ℕ
bytes_word bytes = codes "hex:" ++ flat_map hex_pair bytes

-- bytes, or a zero if there are none
abbrev pub some_bytes_word : List ℕ → List ℕ
some_bytes_word [] = codes "hex:00"
some_bytes_word (b ∷ bs) = bytes_word (b ∷ bs)

-- data, which are extended with zeros when they are parsed
abbrev pub data_word : List ℕ → List ℕ
data_word bytes = some_bytes_word (without_trailing_zeros bytes)

-- a bit as a number
abbrev pub bit_number : Bool → ℕ
bit_number true = 1
bit_number false = 0

-- a Write or a Compare, after `KEYWORD C`: its blocks are those of its data, or 0 if it has none
abbrev pub transfer_words : ℕ → ℕ → List ℕ → List (List ℕ)
transfer_words nsid slba bytes =
    decimals (nsid ∷ slba ∷ length bytes / block_size ∷ []) ++ data_word bytes ∷ []

-- the keyword of a request
abbrev pub request_keyword : Request → Keyword
request_keyword (request.Read nsid slba blocks) = keyword.Read
request_keyword (request.Write nsid slba bytes) = keyword.Write
request_keyword (request.Compare nsid slba bytes) = keyword.Compare
request_keyword (request.WriteZeroes nsid slba blocks) = keyword.Zeroes
request_keyword (request.Flush nsid) = keyword.Flush
request_keyword (request.Register nsid action iekey cptpl crkey nrkey) = keyword.Register
request_keyword (request.Acquire nsid action rtype crkey prkey) = keyword.Acquire
request_keyword (request.Release nsid action rtype crkey) = keyword.Release
request_keyword (request.Report nsid dwords) = keyword.Report
request_keyword (request.Identify cns nsid) = keyword.Identify
request_keyword (request.Protect nsid state) = keyword.Protect
request_keyword (request.Protection nsid) = keyword.Protection
request_keyword (request.Attach nsid list) = keyword.Attach
request_keyword (request.Detach nsid list) = keyword.Detach

-- the words of a request about reservations, after `KEYWORD C`; none of another one
abbrev pub reservation_words : Request → List (List ℕ)
reservation_words (request.Register nsid action iekey cptpl crkey nrkey) =
    decimals (nsid ∷ action ∷ bit_number iekey ∷ cptpl ∷ crkey ∷ nrkey ∷ [])
reservation_words (request.Acquire nsid action rtype crkey prkey) =
    decimals (nsid ∷ action ∷ rtype ∷ crkey ∷ prkey ∷ [])
reservation_words (request.Release nsid action rtype crkey) = decimals (nsid ∷ action ∷ rtype ∷ crkey ∷ [])
reservation_words other = []

-- the words of a request, after `KEYWORD C`
abbrev pub request_words : Request → List (List ℕ)
request_words (request.Read nsid slba blocks) = decimals (nsid ∷ slba ∷ blocks ∷ [])
request_words (request.Write nsid slba bytes) = transfer_words nsid slba bytes.now
request_words (request.Compare nsid slba bytes) = transfer_words nsid slba bytes.now
request_words (request.WriteZeroes nsid slba blocks) = decimals (nsid ∷ slba ∷ blocks ∷ [])
request_words (request.Flush nsid) = decimals (nsid ∷ [])
request_words (request.Register nsid action iekey cptpl crkey nrkey) =
    reservation_words (request.Register nsid action iekey cptpl crkey nrkey)
request_words (request.Acquire nsid action rtype crkey prkey) =
    reservation_words (request.Acquire nsid action rtype crkey prkey)
request_words (request.Release nsid action rtype crkey) = reservation_words (request.Release nsid action rtype crkey)
request_words (request.Report nsid dwords) = decimals (nsid ∷ dwords ∷ [])
request_words (request.Identify cns nsid) = decimals (cns ∷ nsid ∷ [])
request_words (request.Protect nsid state) = decimals (nsid ∷ state ∷ [])
request_words (request.Protection nsid) = decimals (nsid ∷ [])
request_words (request.Attach nsid list) = decimals (nsid ∷ list.now)
request_words (request.Detach nsid list) = decimals (nsid ∷ list.now)

-- the keyword of an event
abbrev pub event_keyword : FleetEvent → Keyword
event_keyword (event.BringUp cntlid) = keyword.Up
event_keyword (event.Place cntlid asked) = request_keyword asked
event_keyword (event.Ring cntlid) = keyword.Ring
event_keyword (event.Fetch cntlid queue) = keyword.Fetch
event_keyword (event.Execute cntlid index) = keyword.Execute
event_keyword (event.Poll cntlid) = keyword.Poll
event_keyword (event.Reset cntlid) = keyword.Reset
event_keyword (event.RawStore cntlid address bytes) = keyword.Store
event_keyword (event.RawWrite32 cntlid offset value) = keyword.Write32
event_keyword event.PowerCycle = keyword.PowerCycle

-- the words after it
abbrev pub event_words : FleetEvent → List (List ℕ)
event_words (event.BringUp cntlid) = decimals (cntlid ∷ [])
event_words (event.Place cntlid asked) = decimal cntlid ∷ request_words asked
event_words (event.Ring cntlid) = decimals (cntlid ∷ [])
event_words (event.Fetch cntlid queue) = decimals (cntlid ∷ queue ∷ [])
event_words (event.Execute cntlid index) = decimals (cntlid ∷ index ∷ [])
event_words (event.Poll cntlid) = decimals (cntlid ∷ [])
event_words (event.Reset cntlid) = decimals (cntlid ∷ [])
event_words (event.RawStore cntlid address bytes) = decimals (cntlid ∷ address ∷ []) ++ bytes_word bytes.now ∷ []
event_words (event.RawWrite32 cntlid offset value) = decimals (cntlid ∷ offset ∷ value ∷ [])
event_words event.PowerCycle = []

abbrev pub event_line : FleetEvent → List ℕ
event_line e = keyword_line (event_keyword e) (event_words e)

-- `raw` at the end of a controller's line, or nothing
abbrev pub raw_words : Bool → List (List ℕ)
raw_words true = codes "raw" ∷ []
raw_words false = []

abbrev pub sharing_word : Bool → List ℕ
sharing_word true = codes "shared"
sharing_word false = codes "private"

-- a controller's line
abbrev pub controller_line : ℕ → ℕ → Bool → List ℕ
controller_line cntlid host raw =
    keyword_line keyword.Controller (decimal cntlid ∷ codes "host" ∷ host_word host ∷ raw_words raw)

-- a namespace's line
abbrev pub namespace_line : ℕ → ℕ → Bool → List ℕ
namespace_line nsid blocks shared =
    keyword_line keyword.Namespace (decimal nsid ∷ codes "blocks" ∷ decimal blocks ∷ sharing_word shared ∷ [])

-- the text of a line; one without effect has an empty text
abbrev pub line_text : Line → List ℕ
line_text Blank = []
line_text (Controller c) = controller_line c.cntlid c.host c.raw
line_text (Namespace n) = namespace_line n.nsid n.blocks n.shared
line_text (Attached cntlid nsid) = keyword_line keyword.Attached (decimals (cntlid ∷ nsid ∷ []))
line_text Start = keyword_text keyword.Start
line_text (Event e) = event_line e

-- the answer that shows how a text was parsed
abbrev pub reading_text : Line → List ℕ
reading_text Blank = codes "line blank"
reading_text line = codes "line " ++ line_text line
