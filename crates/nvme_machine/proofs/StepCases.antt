-- For laws about steps: all that an event can do. Nothing changes, a controller reacts, a command completes, or power
-- is lost.
use Rattle.std.proofs.Common.{◌≡◌, ℕ, Bool, Option, None, Some, refl}
use Rattle.std.specs.Prelude.{slice_get}
use Rattle.nvme_machine.specs.declared.event.Event.{Event}
use Rattle.nvme_machine.specs.declared.event.Event.TheVariants.{Store, Write32, Read32, Fetch, Execute, PowerCycle}
use Rattle.nvme_machine.specs.declared.fetched.FetchedCommand.{FetchedCommand}
use Rattle.nvme_machine.specs.declared.seen.Seen.{Seen}
use Rattle.nvme_machine.specs.declared.seen.Seen.TheVariants.{Cycled}
use Rattle.nvme_machine.specs.Controllers.{
  Controller,
  QueuePair,
  Reaction,
  reaction,
  open_pair,
  after_store,
  wrote,
  has_read,
  after_fetch,
}
use Rattle.nvme_machine.specs.Subsystems.{
  Subsystem,
  Step,
  ReactsAs,
  Completes,
  ExecutesAt,
  ExecutesOne,
  ExecutesOver,
  controller_at,
  controller_of,
  with_controller,
  after_power_cycle,
}

-- the reaction of its controller to an event; none to an execution and to a power cycle
abbrev pub reaction_of : Event → Controller → Reaction
reaction_of (Store k address bytes) = after_store address bytes.now
reaction_of (Write32 k offset v) = wrote offset v
reaction_of (Read32 k offset) = has_read offset
reaction_of (Fetch k q) = after_fetch q
reaction_of (Execute k i) = λ c. reaction c Cycled
reaction_of PowerCycle = λ c. reaction c Cycled

pub data StepCase (tells : Bool) (old new : Subsystem) (event : Event) (seen : Seen) : Type 0 where
  Unchanged : new ≡ old → StepCase tells old new event seen
  Reacted : (c : Controller) → controller_at old (controller_of event) ≡ Some c
      → new ≡ with_controller old (controller_of event) (reaction_of event c).controller
      → StepCase tells old new event seen
  Completed : (k i : ℕ) → event ≡ Execute k i → (c : Controller) → (t : FetchedCommand) → (p : QueuePair)
      → controller_at old k ≡ Some c → slice_get c.fetched i ≡ Some t → open_pair c t ≡ Some p
      → Completes tells old k c i t p seen new → StepCase tells old new event seen
  PowerCycled : event ≡ PowerCycle → new ≡ after_power_cycle old → StepCase tells old new event seen

reacts : (o : Option Controller) (tells : Bool) (old new : Subsystem) (event : Event) (seen : Seen)
    → controller_at old (controller_of event) ≡ o → ReactsAs o old (controller_of event) (reaction_of event) seen new
    → StepCase tells old new event seen
reacts None tells old new event seen at h = Unchanged h.1
reacts (Some c) tells old new event seen at h = Reacted c at h.1

over : (o : Option QueuePair) (tells : Bool) (old new : Subsystem) (k i : ℕ) (c : Controller) (t : FetchedCommand)
    (seen : Seen) → controller_at old k ≡ Some c → slice_get c.fetched i ≡ Some t → open_pair c t ≡ o
    → ExecutesOver o tells old k c i t seen new → StepCase tells old new (Execute k i) seen
over None tells old new k i c t seen at found room h = Unchanged h.1
over (Some p) tells old new k i c t seen at found room h = Completed k i refl c t p at found room h

one : (o : Option FetchedCommand) (tells : Bool) (old new : Subsystem) (k i : ℕ) (c : Controller) (seen : Seen)
    → controller_at old k ≡ Some c → slice_get c.fetched i ≡ o → ExecutesOne o tells old k c i seen new
    → StepCase tells old new (Execute k i) seen
one None tells old new k i c seen at found h = Unchanged h.1
one (Some t) tells old new k i c seen at found h = over (open_pair c t) tells old new k i c t seen at found refl h

executes : (o : Option Controller) (tells : Bool) (old new : Subsystem) (k i : ℕ) (seen : Seen)
    → controller_at old k ≡ o → ExecutesAt o tells old k i seen new → StepCase tells old new (Execute k i) seen
executes None tells old new k i seen at h = Unchanged h.1
executes (Some c) tells old new k i seen at h = one (slice_get c.fetched i) tells old new k i c seen at refl h

pub step-case : (tells : Bool) (old new : Subsystem) (event : Event) (seen : Seen)
    → Step tells old event seen new → StepCase tells old new event seen
step-case tells old new (Execute k i) seen h = executes (controller_at old k) tells old new k i seen refl h
step-case tells old new PowerCycle seen h = PowerCycled refl h.1
step-case tells old new event seen h =
    reacts (controller_at old (controller_of event)) tells old new event seen refl h
