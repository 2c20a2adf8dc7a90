-- Statements of the law `completions_stand`: a completion that was posted stays in its queue until its host's doorbell
-- shows that it has consumed it (Base Specification: Completion Queue Head Doorbell, Completion Queue, Full Queue).
use Rattle.std.specs.Prelude.{
  ◌≡◌,
  ◌≢◌,
  ◌⊎◌,
  ◌<◌,
  ◌≤◌,
  ◌+◌,
  ◌*◌,
  ◌==◌,
  ◌&&◌,
  nat_lt,
  nat_le,
  ℕ,
  Bool,
  true,
  if◌then◌else◌,
  List,
  [],
  ◌∷◌,
  length,
  Some,
  slice_get,
  slice_range,
}
use Rattle.std.specs.List.{list_any}
use Rattle.nvme_wire.specs.Submission.{opcode}
use Rattle.nvme_spec.specs.declared.outcome.Outcome.{Outcome}
use Rattle.nvme_spec.specs.declared.queues.QueueChange.TheVariants.{DropCq}
use Rattle.nvme_spec.specs.declared.registers.RegEffect.{RegEffect}
use Rattle.nvme_spec.specs.declared.registers.RegEffect.TheVariants.{Nothing, Enable, Disable, Shutdown, SqTail, CqHead}
use Rattle.nvme_spec.specs.Queues.{CompletionTail, ahead, slot_of, after_head_doorbell}
use Rattle.nvme_spec.specs.Registers.{after_write}
use Rattle.nvme_spec.specs.Commands as io
use Rattle.nvme_spec.specs.AdminCommands as admin
use Rattle.nvme_spec.specs.DataRules.{data_addresses}
use Rattle.nvme_machine.specs.declared.event.Event.{Event}
use Rattle.nvme_machine.specs.declared.event.Event.TheVariants.{Store, Write32, Read32, Fetch, Execute, PowerCycle}
use Rattle.nvme_machine.specs.declared.fetched.FetchedCommand.{FetchedCommand}
use Rattle.nvme_machine.specs.declared.seen.Executed.TheVariants.{Posted}
use Rattle.nvme_machine.specs.declared.seen.Seen.{Seen}
use Rattle.nvme_machine.specs.declared.seen.Seen.TheVariants.{Executed}
use Rattle.nvme_machine.specs.Controllers.{
  Controller,
  CompletionQueue,
  QueuePair,
  completion_at,
  open_pair,
  completion_slot,
  completion_of,
}
use Rattle.nvme_machine.specs.Subsystems.{Subsystem, Step, controller_at}
use Rattle.nvme_machine.specs.Runs.{Waits}
use Rattle.nvme_machine.specs.Windows.{AllHaveTheirWindows}
use Rattle.nvme_machine.specs.Preempted.{change_of}

-- the distance from a slot to the tail of its queue
abbrev pub behind : CompletionTail → ℕ → ℕ
behind q slot = ahead q.size (slot_of q.size q.posted) slot

-- a slot whose completion the host has not consumed: it is between the head, by the doorbell, and the tail
pub record IsUnread (q : CompletionTail) (slot : ℕ) : Type 0 where
  pub inside : slot < q.size
  pub posted : 0 < behind q slot
  pub unread : behind q slot ≤ q.unread

-- An entry of a completion queue: the identifier of the queue, its address, the slot, and the entry's bytes.
pub record PostedEntry : Type 0 where
  pub queue : ℕ
  pub base : ℕ
  pub slot : ℕ
  pub bytes : List ℕ

abbrev pub entry_address : PostedEntry → ℕ
entry_address e = e.base + 16 * e.slot

-- it is in the window of a controller, in its queue, and unread
pub record StandsUnread (e : PostedEntry) (c : Controller) : Type 0 where
  pub found_in : CompletionQueue
  pub at : completion_at c e.queue ≡ Some found_in
  pub base : found_in.base ≡ e.base
  pub unread : IsUnread found_in.tail e.slot
  pub stands : slice_range c.window (entry_address e) (entry_address e + 16) ≡ e.bytes

-- The completion of an executed command is unread in the queue that it was posted to.
abbrev pub PostedIsUnread : Type 0
PostedIsUnread =
    (tells : Bool) → (old new : Subsystem) → (k i : ℕ) → (c : Controller) → (t : FetchedCommand) → (p : QueuePair)
    → (outcome : Outcome)
    → Step tells old (Execute k i) (Executed (Posted outcome)) new → Waits old k i c t p → AllHaveTheirWindows old
    → (d : Controller) × (controller_at new k ≡ Some d)
    × StandsUnread (record {
      queue = p.submission.cqid;
      base = p.completion.base;
      slot = slot_of p.completion.tail.size p.completion.tail.posted;
      bytes = completion_of t p outcome.status outcome.dw0;
    }) d

-- Events that take an unread entry from its queue, or change its bytes.

-- some of these bytes are bytes of the entry
abbrev pub Overlaps : ℕ → ℕ → PostedEntry → Type 0
Overlaps start len e = (start < entry_address e + 16) × (entry_address e < start + len)

-- one of these addresses is one of the entry's
abbrev pub is_touched : List ℕ → PostedEntry → Bool
is_touched places e = list_any (λ a. nat_le (entry_address e) a && nat_lt a (entry_address e + 16)) places

-- the addresses of the data of a fetched command
abbrev pub addresses_of : Controller → FetchedCommand → List ℕ
addresses_of c t =
    if t.queue == 0
    then data_addresses (admin.data_length_of (admin.command_of (opcode t.entry)) t.entry) c.window t.entry
    else data_addresses (io.data_length_of (io.command_of (opcode t.entry)) t.entry) c.window t.entry

-- The execution of the i-th command of its controller may take it: the command's data may overwrite it, its completion
-- may be posted to another queue that overlaps this one, or it deletes the queue.
pub record TakesByExecution (s : Subsystem) (k : ℕ) (c : Controller) (i : ℕ) (e : PostedEntry) : Type 0 where
  pub command : FetchedCommand
  pub pair : QueuePair
  pub found : slice_get c.fetched i ≡ Some command
  pub room : open_pair c command ≡ Some pair
  pub takes : (is_touched (addresses_of c command) e ≡ true)
      ⊎ ((pair.submission.cqid ≢ e.queue) × Overlaps (completion_slot pair.completion) 16 e)
      ⊎ (change_of s k c command ≡ DropCq e.queue)

-- its host's doorbell writes a head after it
pub record Consumes (c : Controller) (e : PostedEntry) (v : ℕ) : Type 0 where
  pub found_in : CompletionQueue
  pub at : completion_at c e.queue ≡ Some found_in
  pub consumed : IsUnread (after_head_doorbell found_in.tail v) e.slot → ⊥

-- a register write takes it: a reset, an enabling write, or the doorbell
abbrev pub TakesByWrite : Controller → PostedEntry → RegEffect → Type 0
TakesByWrite c e Nothing = ⊥
TakesByWrite c e Enable = Unit {0}
TakesByWrite c e Disable = Unit {0}
TakesByWrite c e Shutdown = ⊥
TakesByWrite c e (SqTail q v) = ⊥
TakesByWrite c e (CqHead q v) = (q ≡ e.queue) × Consumes c e v

-- an event takes an entry of controller j
abbrev pub TakesEntry : Subsystem → ℕ → Controller → PostedEntry → Event → Type 0
TakesEntry s j c e (Store k address bytes) = (k ≡ j) × Overlaps address (length bytes.now) e
TakesEntry s j c e (Write32 k offset v) = (k ≡ j) × TakesByWrite c e (after_write c.registers offset v).effect
TakesEntry s j c e (Read32 k offset) = ⊥
TakesEntry s j c e (Fetch k q) = ⊥
TakesEntry s j c e PowerCycle = Unit {0}
TakesEntry s j c e (Execute k i) = (k ≡ j) × TakesByExecution s k c i e

-- An unread entry stays, and no later completion takes its slot, until an event of its own host takes it, or power is
-- lost. Other events leave it unread.
abbrev pub UnreadStands : Type 0
UnreadStands =
    (tells : Bool) → (old new : Subsystem) → (event : Event) → (seen : Seen) → Step tells old event seen new
    → AllHaveTheirWindows old
    → (j : ℕ) → (c : Controller) → (e : PostedEntry) → controller_at old j ≡ Some c → StandsUnread e c
    → ((d : Controller) × (controller_at new j ≡ Some d) × StandsUnread e d) ⊎ TakesEntry old j c e event

-- no event of a run takes the entry of controller j
abbrev pub RunSparing : Bool → ℕ → PostedEntry → Subsystem → List Event → List Seen → Subsystem → Type 0
RunSparing tells j e old [] [] new = new ≡ old
RunSparing tells j e old (event ∷ events) (seen ∷ later) new =
    (mid : Subsystem) × Step tells old event seen mid
    × ((c : Controller) → controller_at old j ≡ Some c → TakesEntry old j c e event → ⊥)
    × RunSparing tells j e mid events later new
RunSparing tells j e old [] (seen ∷ later) new = ⊥
RunSparing tells j e old (event ∷ events) [] new = ⊥

-- an unread entry stays in any run without an event that takes it
abbrev pub UnreadStandsOverRuns : Type 0
UnreadStandsOverRuns =
    (tells : Bool) → (old new : Subsystem) → (events : List Event) → (seen : List Seen) → (j : ℕ) → (e : PostedEntry)
    → RunSparing tells j e old events seen new → AllHaveTheirWindows old
    → (c : Controller) → controller_at old j ≡ Some c → StandsUnread e c
    → (d : Controller) × (controller_at new j ≡ Some d) × StandsUnread e d
