-- For programs that show how a line was read: a line's text does not depend on the address of its bytes.
use Rattle.std.proofs.Common.{◌≡◌, ℕ, ◌++◌, codes, refl, ap}
use Rattle.nvme_driver.specs.declared.request.Request.{Request}
use Rattle.nvme_driver.specs.declared.request.Request.TheVariants as request
use Rattle.nvme_event.specs.declared.event.FleetEvent.{FleetEvent}
use Rattle.nvme_event.specs.declared.event.FleetEvent.TheVariants as event
use Rattle.nvme_grammar.specs.Lent.{event_by_value, line_by_value}
use Rattle.nvme_grammar.specs.declared.line.Line.{Line}
use Rattle.nvme_grammar.specs.declared.line.Line.TheVariants.{Blank, Controller, Namespace, Attached, Start, Event}
use Rattle.nvme_lines.specs.LineTexts.{event_line, line_text, reading_text}

placed : (c : ℕ) (r : Request) → event_line (event_by_value (event.Place c r)) ≡ event_line (event.Place c r)
placed c (request.Read nsid slba blocks) = refl
placed c (request.Write nsid slba bytes) = refl
placed c (request.Compare nsid slba bytes) = refl
placed c (request.WriteZeroes nsid slba blocks) = refl
placed c (request.Flush nsid) = refl
placed c (request.Register nsid action iekey cptpl crkey nrkey) = refl
placed c (request.Acquire nsid action rtype crkey prkey) = refl
placed c (request.Release nsid action rtype crkey) = refl
placed c (request.Report nsid dwords) = refl
placed c (request.Identify cns nsid) = refl
placed c (request.Protect nsid state) = refl
placed c (request.Protection nsid) = refl
placed c (request.Attach nsid list) = refl
placed c (request.Detach nsid list) = refl

event-by-value : (e : FleetEvent) → event_line (event_by_value e) ≡ event_line e
event-by-value (event.BringUp c) = refl
event-by-value (event.Place c r) = placed c r
event-by-value (event.Ring c) = refl
event-by-value (event.Fetch c queue) = refl
event-by-value (event.Execute c index) = refl
event-by-value (event.Poll c) = refl
event-by-value (event.Reset c) = refl
event-by-value (event.RawStore c address bytes) = refl
event-by-value (event.RawWrite32 c offset value) = refl
event-by-value event.PowerCycle = refl

pub line_by_value_text : (line : Line) → line_text (line_by_value line) ≡ line_text line
line_by_value_text Blank = refl
line_by_value_text (Controller c) = refl
line_by_value_text (Namespace n) = refl
line_by_value_text (Attached c n) = refl
line_by_value_text Start = refl
line_by_value_text (Event e) = event-by-value e

pub reading_by_value : (line : Line) → reading_text (line_by_value line) ≡ reading_text line
reading_by_value Blank = refl
reading_by_value (Controller c) = refl
reading_by_value (Namespace n) = refl
reading_by_value (Attached c n) = refl
reading_by_value Start = refl
reading_by_value (Event e) = ap (λ text. codes "line " ++ text) (event-by-value e)
