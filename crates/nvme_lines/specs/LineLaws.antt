-- Statements of the law `lines_are_read_back`: a formatted line is parsed as the same.
use Rattle.std.specs.Prelude.{◌≡◌, ◌<◌, ◌≤◌, ◌%◌, ◌^◌, ℕ, List, [], ◌∷◌, length, Some}
use Rattle.nvme_spec.specs.Limits.{block_size, most_bytes}
use Rattle.nvme_driver.specs.declared.request.Request.{Request}
use Rattle.nvme_driver.specs.declared.request.Request.TheVariants as request
use Rattle.nvme_event.specs.declared.event.FleetEvent.{FleetEvent}
use Rattle.nvme_event.specs.declared.event.FleetEvent.TheVariants as event
use Rattle.nvme_grammar.specs.Lent.{line_by_value}
use Rattle.nvme_grammar.specs.Line.{line_at}
use Rattle.nvme_grammar.specs.declared.line.Line.{Line}
use Rattle.nvme_grammar.specs.declared.line.Line.TheVariants.{Blank, Controller, Namespace, Attached, Start, Event}
use Rattle.nvme_lines.specs.LineTexts.{line_text}

abbrev pub AreBytes : List ℕ → Type 0
AreBytes [] = Unit {0}
AreBytes (b ∷ bs) = (b < 256) × AreBytes bs

abbrev pub AreIdentifiers : List ℕ → Type 0
AreIdentifiers [] = Unit {0}
AreIdentifiers (n ∷ ns) = (n < 2 ^ 16) × AreIdentifiers ns

-- the data of a Write or a Compare: at most 256 whole blocks, or none
pub record IsData (data_bytes : List ℕ) : Type 0 where
  pub bytes : AreBytes data_bytes
  pub whole : length data_bytes % block_size ≡ 0
  pub most : length data_bytes ≤ most_bytes

-- the numbers of a request fit their bits, and its data are whole blocks
abbrev pub RequestFits : Request → Type 0
RequestFits (request.Read nsid slba blocks) = (nsid < 2 ^ 32) × (slba < 2 ^ 64) × (blocks < 2 ^ 32)
RequestFits (request.Write nsid slba bytes) = (nsid < 2 ^ 32) × (slba < 2 ^ 64) × IsData bytes.now
RequestFits (request.Compare nsid slba bytes) = (nsid < 2 ^ 32) × (slba < 2 ^ 64) × IsData bytes.now
RequestFits (request.WriteZeroes nsid slba blocks) = (nsid < 2 ^ 32) × (slba < 2 ^ 64) × (blocks < 2 ^ 32)
RequestFits (request.Flush nsid) = nsid < 2 ^ 32
RequestFits (request.Register nsid action iekey cptpl crkey nrkey) =
    (nsid < 2 ^ 32) × (action < 2 ^ 8) × (cptpl < 2 ^ 8) × (crkey < 2 ^ 64) × (nrkey < 2 ^ 64)
RequestFits (request.Acquire nsid action rtype crkey prkey) =
    (nsid < 2 ^ 32) × (action < 2 ^ 8) × (rtype < 2 ^ 8) × (crkey < 2 ^ 64) × (prkey < 2 ^ 64)
RequestFits (request.Release nsid action rtype crkey) =
    (nsid < 2 ^ 32) × (action < 2 ^ 8) × (rtype < 2 ^ 8) × (crkey < 2 ^ 64)
RequestFits (request.Report nsid dwords) = (nsid < 2 ^ 32) × (dwords < 2 ^ 32)
RequestFits (request.Identify cns nsid) = (cns < 2 ^ 8) × (nsid < 2 ^ 32)
RequestFits (request.Protect nsid state) = (nsid < 2 ^ 32) × (state < 2 ^ 8)
RequestFits (request.Protection nsid) = nsid < 2 ^ 32
RequestFits (request.Attach nsid list) = (nsid < 2 ^ 32) × AreIdentifiers list.now
RequestFits (request.Detach nsid list) = (nsid < 2 ^ 32) × AreIdentifiers list.now

-- the same for an event: the place of an execution fits 16 bits, and a store has bytes
abbrev pub EventFits : FleetEvent → Type 0
EventFits (event.BringUp cntlid) = cntlid < 2 ^ 16
EventFits (event.Place cntlid asked) = (cntlid < 2 ^ 16) × RequestFits asked
EventFits (event.Ring cntlid) = cntlid < 2 ^ 16
EventFits (event.Fetch cntlid queue) = (cntlid < 2 ^ 16) × (queue < 2 ^ 16)
EventFits (event.Execute cntlid index) = (cntlid < 2 ^ 16) × (index < 2 ^ 16)
EventFits (event.Poll cntlid) = cntlid < 2 ^ 16
EventFits (event.Reset cntlid) = cntlid < 2 ^ 16
EventFits (event.RawStore cntlid address bytes) =
    (cntlid < 2 ^ 16) × (address < 2 ^ 64) × AreBytes bytes.now × (0 < length bytes.now)
EventFits (event.RawWrite32 cntlid offset value) = (cntlid < 2 ^ 16) × (offset < 2 ^ 64) × (value < 2 ^ 32)
EventFits event.PowerCycle = Unit {0}

-- the same for a line
abbrev pub LineFits : Line → Type 0
LineFits Blank = Unit {0}
LineFits (Controller c) = (c.cntlid < 2 ^ 16) × (c.host < 2 ^ 128)
LineFits (Namespace n) = (n.nsid < 2 ^ 32) × (n.blocks < 2 ^ 64)
LineFits (Attached cntlid nsid) = (cntlid < 2 ^ 16) × (nsid < 2 ^ 32)
LineFits Start = Unit {0}
LineFits (Event e) = EventFits e

-- the text of such a line is parsed as that line
abbrev pub LinesAreReadBack : Type 0
LinesAreReadBack = (line : Line) → LineFits line → line_at (line_text line) ≡ Some (line_by_value line)

-- the grammar parses only such lines
abbrev pub LinesFit : Type 0
LinesFit = (text : List ℕ) (line : Line) → line_at text ≡ Some line → LineFits line

-- So whatever is parsed from any text is parsed from its line's text as well.
abbrev pub ReadingIsWritten : Type 0
ReadingIsWritten = (text : List ℕ) (line : Line) → line_at text ≡ Some line → line_at (line_text line) ≡ Some line
