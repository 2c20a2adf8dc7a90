-- The lines of transcripts for the results of events of raw hosts, of controllers and of all.
use Rattle.std.specs.Prelude.{ℕ, ◌<◌, Bool, true, false, List, [], Option, Some, None, if◌then◌else◌}
use Rattle.nvme_event.specs.Bare.{seen_of}
use Rattle.nvme_event.specs.declared.bare.BareFleetSeen.{BareFleetSeen}
use Rattle.nvme_event.specs.declared.bare.BareFleetSeen.TheVariants as seen
use Rattle.nvme_event.specs.declared.event.FleetEvent.{FleetEvent}
use Rattle.nvme_event.specs.declared.event.FleetEvent.TheVariants as event
use Rattle.nvme_machine.specs.declared.bare.BareExecuted.TheVariants.{Posted}
use Rattle.nvme_transcript.specs.Transcript.{seen_line}

-- whether such an event has this result
abbrev pub is_short : BareFleetSeen → Bool
is_short (seen.Fetched fetched) = true
is_short (seen.Executed executed) = true
is_short seen.Stored = true
is_short seen.Outside = true
is_short seen.Wrote = true
is_short seen.Cycled = true
is_short seen.NoController = true
is_short what = false

-- its line, with its line feed
abbrev pub answer_line : FleetEvent → BareFleetSeen → Option (List ℕ)
answer_line e what = if is_short what then Some (seen_line e (seen_of what) []) else None

-- the number after that of the controller in an event's line
abbrev pub second_of : FleetEvent → ℕ
second_of (event.Fetch cntlid qid) = qid
second_of (event.Execute cntlid i) = i
second_of e = 0

-- the numbers of a completion that was posted are bytes
abbrev pub AreBytes : BareFleetSeen → Type 0
AreBytes (seen.Executed (Posted o)) = (o.status.sct < 256) × (o.status.sc < 256) × (o.rule < 256)
AreBytes what = Unit {0}
