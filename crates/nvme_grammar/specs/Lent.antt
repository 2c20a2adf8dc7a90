-- Events by value, without the address of their bytes, which a script does not determine.
use Rattle.std.specs.Borrow.{Bor}
use Rattle.nvme_driver.specs.declared.request.Request.{Request}
use Rattle.nvme_driver.specs.declared.request.Request.TheVariants.{Write, Compare, Attach, Detach}
use Rattle.nvme_event.specs.declared.event.FleetEvent.{FleetEvent}
use Rattle.nvme_event.specs.declared.event.FleetEvent.TheVariants.{Place, RawStore}
use Rattle.nvme_grammar.specs.declared.line.Line.{Line}
use Rattle.nvme_grammar.specs.declared.line.Line.TheVariants.{Event}

-- a borrowed value at no address in particular
abbrev pub lent : {A : Type 0} → A → Bor A
lent x = record { ref_ptr = (0, 0); now = x }

-- the same request, event or line, with its bytes at no address in particular
abbrev pub request_by_value : Request → Request
request_by_value (Write nsid slba bytes) = Write nsid slba (lent bytes.now)
request_by_value (Compare nsid slba bytes) = Compare nsid slba (lent bytes.now)
request_by_value (Attach nsid list) = Attach nsid (lent list.now)
request_by_value (Detach nsid list) = Detach nsid (lent list.now)
request_by_value request = request

abbrev pub event_by_value : FleetEvent → FleetEvent
event_by_value (Place cntlid request) = Place cntlid (request_by_value request)
event_by_value (RawStore cntlid address bytes) = RawStore cntlid address (lent bytes.now)
event_by_value event = event

abbrev pub line_by_value : Line → Line
line_by_value (Event event) = Event (event_by_value event)
line_by_value line = line
