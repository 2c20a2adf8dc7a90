-- Events as lines of scripts, and results as lines of transcripts.
use Rattle.std.specs.Prelude.{ℕ, ◌==◌, List, [], Option, Some, None, option_map, option_and_then, if◌then◌else◌}
use Rattle.nvme_grammar.specs.Lent.{lent}
use Rattle.nvme_machine.specs.declared.bare.BareExecuted.{BareExecuted}
use Rattle.nvme_machine.specs.declared.bare.BareExecuted.TheVariants.{Posted, NoSuch, CqFull}
use Rattle.nvme_machine.specs.declared.seen.Fetched.TheVariants.{Took, Idle}
use Rattle.nvme_event.specs.declared.bare.BareFleetSeen.{BareFleetSeen}
use Rattle.nvme_event.specs.declared.bare.BareFleetSeen.TheVariants as seen
use Rattle.nvme_event.specs.declared.event.FleetEvent.{FleetEvent}
use Rattle.nvme_event.specs.declared.event.FleetEvent.TheVariants as event
use Rattle.library_text.specs.AnswerLines.{answer_line}
use Rattle.library_text.specs.EventLines.{event_line}
use Rattle.nvme_library.specs.declared.answer.Answer.{Answer}
use Rattle.nvme_library.specs.declared.event.Event.{Event}

-- an event of C as an event of a fleet, with the bytes of a store
abbrev pub fleet_event : Event → List ℕ → Option FleetEvent
fleet_event e bytes =
    if e.kind == 1 then Some (event.RawStore e.cntlid e.at (lent bytes))
    else if e.kind == 2 then Some (event.RawWrite32 e.cntlid e.at e.value)
    else if e.kind == 4 then Some (event.Fetch e.cntlid e.qid)
    else if e.kind == 5 then Some (event.Execute e.cntlid e.at)
    else if e.kind == 6 then Some event.PowerCycle
    else None

-- its line in a script
abbrev pub said_line : Event → List ℕ → Option (List ℕ)
said_line e bytes = option_and_then event_line (fleet_event e bytes)

-- the result of an execution, from its answer
abbrev pub executed_by : Answer → Option BareExecuted
executed_by a =
    if a.what == 6
    then Some (Posted (record { status = record { sct = a.sct; sc = a.sc }; dw0 = a.value; rule = a.rule }))
    else if a.what == 7 then Some NoSuch
    else if a.what == 8 then Some CqFull
    else None

-- the result of an event, from its answer, if the event names a controller
abbrev pub reply_by : FleetEvent → Answer → Option BareFleetSeen
reply_by (event.RawStore cntlid address bytes) a =
    if a.what == 1 then Some seen.Stored else if a.what == 18 then Some seen.Outside else None
reply_by (event.RawWrite32 cntlid offset value) a = if a.what == 2 then Some seen.Wrote else None
reply_by (event.Fetch cntlid qid) a =
    if a.what == 4 then Some (seen.Fetched Took) else if a.what == 5 then Some (seen.Fetched Idle) else None
reply_by (event.Execute cntlid i) a = option_map seen.Executed (executed_by a)
reply_by e a = None

-- the result of an event, from its answer, if such an event has that result
abbrev pub seen_by : FleetEvent → Answer → Option BareFleetSeen
seen_by event.PowerCycle a = if a.what == 9 then Some seen.Cycled else None
seen_by e a = if a.what == 17 then Some seen.NoController else reply_by e a

-- its line in a transcript
abbrev pub told_line : Event → Answer → Option (List ℕ)
told_line e a = option_and_then (λ said. option_and_then (answer_line said) (seen_by said a)) (fleet_event e [])
