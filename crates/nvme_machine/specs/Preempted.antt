-- Statements of the law `preempted_hosts_stay_out`: a command that a controller had fetched when its host was preempted
-- is aborted, whenever it is executed (Base Specification: Reservation Acquire command, Preempt and Abort). A command
-- is followed by its place in its controller's list.
use Rattle.std.specs.Prelude.{
  ◌≡◌,
  ℕ,
  ◌-◌,
  ◌==◌,
  nat_lt,
  Bool,
  true,
  false,
  ◌||◌,
  ◌&&◌,
  if◌then◌else◌,
  List,
  [],
  ◌∷◌,
  length,
  take,
  remove,
  Option,
  None,
  Some,
  Ok,
  slice_get,
}
use Rattle.nvme_wire.specs.Submission.{opcode}
use Rattle.nvme_spec.specs.declared.command.Command.TheVariants.{ReservationAcquire}
use Rattle.nvme_spec.specs.declared.queues.QueueChange.{QueueChange}
use Rattle.nvme_spec.specs.declared.queues.QueueChange.TheVariants.{Keep, DropSq}
use Rattle.nvme_spec.specs.declared.registers.RegEffect.{RegEffect}
use Rattle.nvme_spec.specs.declared.registers.RegEffect.TheVariants.{Nothing, Enable, Disable, Shutdown, SqTail, CqHead}
use Rattle.nvme_spec.specs.Statuses as status
use Rattle.nvme_spec.specs.World.{host_of}
use Rattle.nvme_spec.specs.Registers.{after_write}
use Rattle.nvme_spec.specs.Commands.{command_of, action}
use Rattle.nvme_spec.specs.IoData.{reservation_outcome, data_of}
use Rattle.nvme_spec.specs.AdminEffects.{admin_execution}
use Rattle.nvme_spec.specs.Execution.{removed_by, denial_outcome}
use Rattle.nvme_machine.specs.declared.event.Event.{Event}
use Rattle.nvme_machine.specs.declared.event.Event.TheVariants.{Store, Write32, Read32, Fetch, Execute, PowerCycle}
use Rattle.nvme_machine.specs.declared.fetched.FetchedCommand.{FetchedCommand}
use Rattle.nvme_machine.specs.declared.seen.Executed.TheVariants.{Posted}
use Rattle.nvme_machine.specs.declared.seen.Seen.{Seen}
use Rattle.nvme_machine.specs.declared.seen.Seen.TheVariants.{Executed}
use Rattle.nvme_machine.specs.Controllers.{
  Controller,
  QueuePair,
  names,
  queues_of,
  open_pair,
  without_queue,
  after_posting,
}
use Rattle.nvme_machine.specs.CommandExecutions.{judgement}
use Rattle.nvme_machine.specs.Subsystems.{Subsystem, Step, controller_at, with_controller, scene_of, is_host_among}
use Rattle.nvme_machine.specs.Runs.{Waits, IsStill}

-- The place of a fetched command after an event.

-- a register write resets the controller, or enables it
abbrev pub empties : RegEffect → Bool
empties Nothing = false
empties Enable = true
empties Disable = true
empties Shutdown = false
empties (SqTail q v) = false
empties (CqHead q v) = false

abbrev pub is_emptied : Option Controller → ℕ → ℕ → Bool
is_emptied None offset v = false
is_emptied (Some c) offset v = empties (after_write c.registers offset v).effect

-- the change of queues by the execution of a command; none by an I/O command
abbrev pub change_of : Subsystem → ℕ → Controller → FetchedCommand → QueueChange
change_of s k c t = if t.queue == 0 then (admin_execution s.world (queues_of c) k t.entry c.window).change else Keep

-- the command came from a queue that is deleted
abbrev pub is_dropped : QueueChange → Option FetchedCommand → Bool
is_dropped (DropSq qid) (Some t) = t.queue == qid
is_dropped change t = false

-- the place of the m-th command after those of a deleted queue are dropped
abbrev pub moved_up : QueueChange → List FetchedCommand → ℕ → ℕ
moved_up (DropSq qid) commands m = length (without_queue qid (take m commands))
moved_up change commands m = m

-- the place of the m-th command after the i-th was executed, if it is still there
abbrev pub place_posted : QueueChange → ℕ → List FetchedCommand → ℕ → Option ℕ
place_posted change i commands m =
    if m == i || is_dropped change (slice_get commands m) then None
    else Some (moved_up change (remove commands i) (if nat_lt i m then m - 1 else m))

-- if no completion can be posted, or there is no such command, nothing changes
abbrev pub place_over : Option QueuePair → QueueChange → ℕ → List FetchedCommand → ℕ → Option ℕ
place_over None change i commands m = Some m
place_over (Some p) change i commands m = place_posted change i commands m

abbrev pub place_one : Option FetchedCommand → Subsystem → ℕ → Controller → ℕ → ℕ → Option ℕ
place_one None s k c i m = Some m
place_one (Some t) s k c i m = place_over (open_pair c t) (change_of s k c t) i c.fetched m

abbrev pub place_executed : Option Controller → Subsystem → ℕ → ℕ → ℕ → Option ℕ
place_executed None s k i m = Some m
place_executed (Some c) s k i m = place_one (slice_get c.fetched i) s k c i m

-- the place of the m-th command of controller j after an event, if it is still in the list
unfoldable pub place_after : Subsystem → ℕ → ℕ → Event → Option ℕ
place_after s j m (Store k address bytes) = Some m
place_after s j m (Write32 k offset v) = if k == j && is_emptied (controller_at s j) offset v then None else Some m
place_after s j m (Read32 k offset) = Some m
place_after s j m (Fetch k q) = Some m
place_after s j m (Execute k i) = if k == j then place_executed (controller_at s j) s j i m else Some m
place_after s j m PowerCycle = None

-- a command is at this place of a list, and keeps its mark
pub record StandsAt (t : FetchedCommand) (commands : List FetchedCommand) (l : ℕ) : Type 0 where
  pub found_as : FetchedCommand
  pub found : slice_get commands l ≡ Some found_as
  pub still : IsStill t found_as

-- and it is there
abbrev pub CommandsAreFollowed : Type 0
CommandsAreFollowed =
    (tells : Bool) → (old new : Subsystem) → (event : Event) → (seen : Seen) → Step tells old event seen new
    → (j m l : ℕ) → (c : Controller) → (t : FetchedCommand) → controller_at old j ≡ Some c
    → slice_get c.fetched m ≡ Some t
    → place_after old j m event ≡ Some l
    → (d : Controller) × (controller_at new j ≡ Some d) × StandsAt t d.fetched l

-- a run that leaves the m-th command of controller j in its list, at place l in the end
abbrev pub RunKeeping : Bool → ℕ → Subsystem → ℕ → List Event → List Seen → Subsystem → ℕ → Type 0
RunKeeping tells j old m [] [] new l = (new ≡ old) × (l ≡ m)
RunKeeping tells j old m (event ∷ events) (seen ∷ later) new l =
    (mid : Subsystem) × (place : ℕ) × Step tells old event seen mid × (place_after old j m event ≡ Some place)
    × RunKeeping tells j mid place events later new l
RunKeeping tells j old m [] (seen ∷ later) new l = ⊥
RunKeeping tells j old m (event ∷ events) [] new l = ⊥

-- The i-th command of controller k is executed: a Preempt and Abort on the namespace that all rules let pass.
pub record Preempts (tells : Bool) (n : ℕ) (old : Subsystem) (k i : ℕ) (c : Controller) (t : FetchedCommand)
    (new : Subsystem) : Type 0 where
  pub pair : QueuePair
  pub seen : Seen
  pub step : Step tells old (Execute k i) seen new
  pub waits : Waits old k i c t pair
  pub named : names n t ≡ true
  pub acquires : command_of (opcode t.entry) ≡ Some ReservationAcquire
  pub aborts : action t.entry ≡ 2
  pub allowed : judgement (queues_of c) k t (scene_of old c) ≡ Ok tt

-- the hosts that it removes
abbrev pub removed_hosts : Subsystem → ℕ → Controller → FetchedCommand → List ℕ
removed_hosts old k c t = removed_by (reservation_outcome old.world k t.entry (data_of c.window t.entry))

-- the l-th command of a controller, executed now, is answered Command Aborted due to Preempt and Abort, and changes
-- only its completion entry, the counts of its completion queue and its list
abbrev pub IsAbortedAt : Bool → Subsystem → ℕ → ℕ → Type 0
IsAbortedAt tells s j l =
    (new : Subsystem) → (c : Controller) → (t : FetchedCommand) → (p : QueuePair) → (seen : Seen)
    → Step tells s (Execute j l) seen new → Waits s j l c t p
    → (seen ≡ Executed (Posted (denial_outcome 1 status.command_aborted_due_to_preempt_and_abort)))
    × (new ≡ with_controller s j (after_posting l t p status.command_aborted_due_to_preempt_and_abort 0 c))

-- Preempted hosts stay out: after an allowed Preempt and Abort, each command on that namespace that a controller of a
-- removed host had fetched before is aborted when it is executed, after any events in between.
abbrev pub PreemptedStaysOut : Type 0
PreemptedStaysOut =
    (tells : Bool) → (n : ℕ) → (old mid new : Subsystem) → (k i : ℕ) → (c : Controller) → (t : FetchedCommand)
    → Preempts tells n old k i c t mid
    → (j m : ℕ) → (d : Controller) → (u : FetchedCommand) → controller_at mid j ≡ Some d
    → slice_get d.fetched m ≡ Some u → names n u ≡ true
    → is_host_among (removed_hosts old k c t) (host_of mid.world j) ≡ true
    → (events : List Event) → (seen : List Seen) → (l : ℕ) → RunKeeping tells j mid m events seen new l
    → IsAbortedAt tells new j l
