-- The events of a raw host for the fleet of mailboxes.
use Rattle.nvme_machine.specs.declared.event.Event.{Event}
use Rattle.nvme_machine.specs.declared.event.Event.TheVariants.{Store, Write32, Read32, Fetch, Execute, PowerCycle}
use Rattle.nvme_event.specs.declared.seen.FleetSeen.TheVariants.{NoController}
use Rattle.nvme_mailbox.specs.Fleets.{Fleet, Moment, moment, raw_stored, raw_wrote}

-- a store, or a write to a register
abbrev pub IsOfHost : Event → Type 0
IsOfHost (Store k address bytes) = Unit {0}
IsOfHost (Write32 k offset v) = Unit {0}
IsOfHost (Read32 k offset) = ⊥
IsOfHost (Fetch k q) = ⊥
IsOfHost (Execute k i) = ⊥
IsOfHost PowerCycle = ⊥

abbrev pub raw_moment : Fleet → Event → Moment
raw_moment f (Store k address bytes) = raw_stored f k address bytes.now
raw_moment f (Write32 k offset v) = raw_wrote f k offset v
raw_moment f (Read32 k offset) = moment f NoController
raw_moment f (Fetch k q) = moment f NoController
raw_moment f (Execute k i) = moment f NoController
raw_moment f PowerCycle = moment f NoController
