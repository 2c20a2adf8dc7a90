-- The controllers of a fleet's events, for definitions of fleets.
use Rattle.std.specs.Prelude.{ℕ, ◌==◌, Bool, true}
use Rattle.nvme_event.specs.declared.event.FleetEvent.{FleetEvent}
use Rattle.nvme_event.specs.declared.event.FleetEvent.TheVariants.{
  BringUp,
  Place,
  Ring,
  Fetch,
  Execute,
  Poll,
  Reset,
  RawStore,
  RawWrite32,
  PowerCycle,
}

-- the controller of an event; a power cycle has none, and no controller has the identifier 0
abbrev pub controller_of : FleetEvent → ℕ
controller_of (BringUp cntlid) = cntlid
controller_of (Place cntlid request) = cntlid
controller_of (Ring cntlid) = cntlid
controller_of (Fetch cntlid qid) = cntlid
controller_of (Execute cntlid i) = cntlid
controller_of (Poll cntlid) = cntlid
controller_of (Reset cntlid) = cntlid
controller_of (RawStore cntlid address bytes) = cntlid
controller_of (RawWrite32 cntlid offset value) = cntlid
controller_of PowerCycle = 0

-- whether an event is one of controller k: it names k, or is a power cycle
abbrev pub concerns : FleetEvent → ℕ → Bool
concerns (BringUp cntlid) k = cntlid == k
concerns (Place cntlid request) k = cntlid == k
concerns (Ring cntlid) k = cntlid == k
concerns (Fetch cntlid qid) k = cntlid == k
concerns (Execute cntlid i) k = cntlid == k
concerns (Poll cntlid) k = cntlid == k
concerns (Reset cntlid) k = cntlid == k
concerns (RawStore cntlid address bytes) k = cntlid == k
concerns (RawWrite32 cntlid offset value) k = cntlid == k
concerns PowerCycle k = true

-- a property of the controller of an event; it holds of a power cycle, which no host causes
abbrev pub OfItsHost : (ℕ → Type 0) → FleetEvent → Type 0
OfItsHost P (BringUp cntlid) = P cntlid
OfItsHost P (Place cntlid request) = P cntlid
OfItsHost P (Ring cntlid) = P cntlid
OfItsHost P (Fetch cntlid qid) = P cntlid
OfItsHost P (Execute cntlid i) = P cntlid
OfItsHost P (Poll cntlid) = P cntlid
OfItsHost P (Reset cntlid) = P cntlid
OfItsHost P (RawStore cntlid address bytes) = P cntlid
OfItsHost P (RawWrite32 cntlid offset value) = P cntlid
OfItsHost P PowerCycle = Unit {0}
