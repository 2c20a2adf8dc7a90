-- The events of a subsystem that the premises of its laws are about, defined a second time in other words: by
-- equations, instead of a clause for each event. A premise that is wider or narrower for any event makes one of these
-- false.
use Rattle.std.specs.Prelude.{◌≡◌, ◌≢◌, ◌⊎◌, ◌↔◌, ℕ, Bool, List, Option, Some, None, length, false, true}
use Rattle.std.specs.Borrow.{Bor}
use Rattle.nvme_spec.specs.declared.command.Command.{Command}
use Rattle.nvme_spec.specs.declared.registers.RegEffect.{RegEffect}
use Rattle.nvme_spec.specs.declared.registers.RegEffect.TheVariants.{Enable, Disable, CqHead}
use Rattle.nvme_spec.specs.declared.registers.ControllerState.{ControllerState}
use Rattle.nvme_spec.specs.declared.registers.ControllerState.TheVariants.{Ready}
use Rattle.nvme_spec.specs.AdminEffects.{AdminExecution}
use Rattle.nvme_spec.specs.Execution.{Scene, no_marks}
use Rattle.nvme_spec.specs.Layout.{reservation_of}
use Rattle.nvme_spec.specs.MediumCalls.{MediumCall}
use Rattle.nvme_spec.specs.Registers.{after_write, value_at}
use Rattle.nvme_spec.specs.Reservation.{Reservation}
use Rattle.nvme_machine.specs.declared.event.Event.{Event}
use Rattle.nvme_machine.specs.declared.event.Event.TheVariants.{Store, Write32, Read32, Fetch, Execute, PowerCycle}
use Rattle.nvme_machine.specs.declared.fetched.FetchedCommand.{FetchedCommand}
use Rattle.nvme_machine.specs.declared.seen.Seen.TheVariants.{Value}
use Rattle.nvme_machine.specs.AllowedCalls.{IsCallOf, MayCall}
use Rattle.nvme_machine.specs.CommandExecutions.{CommandExecution, admin_command_execution}
use Rattle.nvme_machine.specs.Controllers.{Controller, has_read, may_fetch}
use Rattle.nvme_machine.specs.EventCalls.{ExecutesNothing}
use Rattle.nvme_machine.specs.Fencing.{Allows, Forgets, IsAllowedAt, IsFleeting}
use Rattle.nvme_machine.specs.Posted.{Consumes, Overlaps, PostedEntry, TakesByExecution, TakesByWrite, TakesEntry}
use Rattle.nvme_machine.specs.Preempted.{empties, place_after}
use Rattle.nvme_machine.specs.Runs.{Deletes, IsReset, TakesOut}
use Rattle.nvme_machine.specs.Subsystems.{OfItsController, Subsystem, controller_of, scene_of}

-- An event allows one of these commands exactly if it executes one that all rules let pass.
pub record AllowsByExecution (commands : List Command) (s : Subsystem) (event : Event) (n : ℕ) : Type 0 where
  pub cntlid : ℕ
  pub index : ℕ
  pub is : event ≡ Execute cntlid index
  pub allowed : IsAllowedAt commands s cntlid index n

abbrev pub AllowsIsExecution : Type 0
AllowsIsExecution =
    (commands : List Command) → (s : Subsystem) → (event : Event) → (n : ℕ)
    → Allows commands s event n ↔ AllowsByExecution commands s event n

-- An event forgets a reservation exactly if it is a power cycle and the reservation does not persist.
abbrev pub FleetingIsNotPersistent : Type 0
FleetingIsNotPersistent =
    (o : Option Reservation) → IsFleeting o ↔ ((r : Reservation) × (o ≡ Some r) × (r.ptpl ≡ false))

abbrev pub ForgetsIsPowerCycle : Type 0
ForgetsIsPowerCycle =
    (s : Subsystem) → (event : Event) → (n : ℕ)
    → Forgets s event n ↔ ((event ≡ PowerCycle) × IsFleeting (reservation_of s.world n))

-- A property of an event's controller is one of the controller that the event names. It holds for a power cycle.
abbrev pub OfItsControllerIsOfIt : Type 0
OfItsControllerIsOfIt =
    (holds : ℕ → Bool) → (event : Event)
    → OfItsController (λ k. holds k ≡ true) event
    ↔ ((event ≡ PowerCycle) ⊎ ((event ≢ PowerCycle) × (holds (controller_of event) ≡ true)))

-- A register write resets a controller exactly if it enables or disables it.
abbrev pub ResetIsEnableOrDisable : Type 0
ResetIsEnableOrDisable = (effect : RegEffect) → IsReset effect ↔ ((effect ≡ Enable) ⊎ (effect ≡ Disable))

abbrev pub EmptiesIsEnableOrDisable : Type 0
EmptiesIsEnableOrDisable =
    (effect : RegEffect) → (empties effect ≡ true) ↔ ((effect ≡ Enable) ⊎ (effect ≡ Disable))

-- An event removes the m-th command of controller j from its list exactly if it executes it, deletes its queue, enables
-- or disables its controller, or is a power cycle.
pub record TakesOutByExecution (old : Subsystem) (c : Controller) (j m : ℕ) (t : FetchedCommand) (event : Event)
    : Type 0 where
  pub index : ℕ
  pub is : event ≡ Execute j index
  pub takes : (index ≡ m) ⊎ Deletes (scene_of old c) c j index t.queue

pub record TakesOutByWrite (c : Controller) (j : ℕ) (event : Event) : Type 0 where
  pub offset : ℕ
  pub value : ℕ
  pub is : event ≡ Write32 j offset value
  pub resets : IsReset (after_write c.registers offset value).effect

abbrev pub TakesOutIsOneOfThree : Type 0
TakesOutIsOneOfThree =
    (old : Subsystem) → (c : Controller) → (j m : ℕ) → (t : FetchedCommand) → (event : Event)
    → TakesOut old c j m t event
    ↔ (TakesOutByExecution old c j m t event ⊎ TakesOutByWrite c j event ⊎ (event ≡ PowerCycle))

-- A register write removes a completion exactly if it enables or disables the controller, or is the doorbell write by
-- which the host consumes it.
abbrev pub TakesByWriteIsResetOrDoorbell : Type 0
TakesByWriteIsResetOrDoorbell =
    (c : Controller) → (e : PostedEntry) → (effect : RegEffect)
    → TakesByWrite c e effect
    ↔ ((effect ≡ Enable) ⊎ (effect ≡ Disable) ⊎ ((v : ℕ) × (effect ≡ CqHead e.queue v) × Consumes c e v))

-- Only an execution makes a call of the medium.
pub record CallsByExecution (s : Subsystem) (event : Event) (call : MediumCall) : Type 0 where
  pub cntlid : ℕ
  pub index : ℕ
  pub is : event ≡ Execute cntlid index
  pub call_is : IsCallOf s cntlid index call

abbrev pub CallIsOfAnExecution : Type 0
CallIsOfAnExecution =
    (s : Subsystem) → (event : Event) → (call : MediumCall) → MayCall s event call ↔ CallsByExecution s event call

abbrev pub ExecutesNothingIsNoExecution : Type 0
ExecutesNothingIsNoExecution =
    (event : Event) → ExecutesNothing event ↔ ((k i : ℕ) → event ≢ Execute k i)

-- An event takes a completion exactly if its own host stores bytes over it, resets or rings, or if it executes a
-- command that takes it, or if power is lost.
pub record TakesByStore (j : ℕ) (e : PostedEntry) (event : Event) : Type 0 where
  pub address : ℕ
  pub bytes : Bor (List ℕ)
  pub is : event ≡ Store j address bytes
  pub over : Overlaps address (length bytes.now) e

pub record TakesByRegister (c : Controller) (j : ℕ) (e : PostedEntry) (event : Event) : Type 0 where
  pub offset : ℕ
  pub value : ℕ
  pub is : event ≡ Write32 j offset value
  pub takes : TakesByWrite c e (after_write c.registers offset value).effect

pub record TakesByCommand (s : Subsystem) (c : Controller) (j : ℕ) (e : PostedEntry) (event : Event) : Type 0 where
  pub index : ℕ
  pub is : event ≡ Execute j index
  pub takes : TakesByExecution s j c index e

abbrev pub TakesEntryIsOneOfFour : Type 0
TakesEntryIsOneOfFour =
    (s : Subsystem) → (j : ℕ) → (c : Controller) → (e : PostedEntry) → (event : Event)
    → TakesEntry s j c e event
    ↔ (TakesByStore j e event ⊎ TakesByRegister c j e event ⊎ TakesByCommand s c j e event ⊎ (event ≡ PowerCycle))

-- An event that neither executes nor resets leaves a fetched command at its place. A power cycle removes it.
abbrev pub PlacesAreKept : Type 0
PlacesAreKept =
    (s : Subsystem) → (j m k offset q : ℕ) → (bytes : Bor (List ℕ))
    → (place_after s j m (Store k offset bytes) ≡ Some m) × (place_after s j m (Read32 k offset) ≡ Some m)
    × (place_after s j m (Fetch k q) ≡ Some m) × (place_after s j m PowerCycle ≡ None)

-- A read of a register returns its value and changes nothing.
abbrev pub ReadGivesTheValue : Type 0
ReadGivesTheValue =
    (c : Controller) → (offset : ℕ)
    → ((has_read offset c).seen ≡ Value (value_at c.registers offset)) × ((has_read offset c).controller ≡ c)

-- Only a ready controller that is not shut down fetches.
abbrev pub OnlyReadyFetches : Type 0
OnlyReadyFetches = (state : ControllerState) → (may_fetch state ≡ true) ↔ (state ≡ Ready)

-- The outcome of an admin command is that of its execution: status, double word 0, rule, queues, access state and
-- window. It has no marks, and the medium is unchanged.
pub record IsAdminOutcome (s : Scene) (x : AdminExecution) (a : CommandExecution) : Type 0 where
  pub status : a.outcome.status ≡ x.status
  pub dw0 : a.outcome.dw0 ≡ x.dw0
  pub rule : a.outcome.rule ≡ x.rule
  pub marks : a.outcome.marks ≡ no_marks
  pub change : a.change ≡ x.change
  pub world : a.left.world ≡ x.world
  pub window : a.left.window ≡ x.window
  pub device : a.left.device ≡ s.device

abbrev pub AdminComesToItsExecution : Type 0
AdminComesToItsExecution = (s : Scene) → (x : AdminExecution) → IsAdminOutcome s x (admin_command_execution s x)
