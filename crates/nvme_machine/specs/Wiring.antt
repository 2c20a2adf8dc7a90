-- Statements of the law `nothing_is_lost`: every fetched command has its queues.
use Rattle.std.specs.Prelude.{◌≡◌, ℕ, Bool, None, Some, slice_get}
use Rattle.nvme_spec.specs.Blocks.{Device}
use Rattle.nvme_spec.specs.Configuration.{Configuration}
use Rattle.nvme_spec.specs.Queues.{completion_room}
use Rattle.nvme_machine.specs.declared.event.Event.{Event}
use Rattle.nvme_machine.specs.declared.fetched.FetchedCommand.{FetchedCommand}
use Rattle.nvme_machine.specs.declared.seen.Seen.{Seen}
use Rattle.nvme_machine.specs.Controllers.{
  Controller,
  SubmissionQueue,
  CompletionQueue,
  submission_at,
  completion_at,
  open_pair,
}
use Rattle.nvme_machine.specs.Subsystems.{Subsystem, Step, controller_at, opening}

-- each fetched command's submission queue exists, and each submission queue's completion queue
pub record IsWired (c : Controller) : Type 0 where
  pub fetched : (i : ℕ) → (t : FetchedCommand) → slice_get c.fetched i ≡ Some t → (s : SubmissionQueue)
      × (submission_at c t.queue ≡ Some s)
  pub completes : (q : ℕ) → (s : SubmissionQueue) → submission_at c q ≡ Some s → (x : CompletionQueue)
      × (completion_at c s.cqid ≡ Some x)

abbrev pub AreWired : Subsystem → Type 0
AreWired s = (k : ℕ) → (c : Controller) → controller_at s k ≡ Some c → IsWired c

-- This holds at the opening, and every event keeps it.
abbrev pub OpeningIsWired : Type 0
OpeningIsWired = (c : Configuration) → (d : Device) → AreWired (opening c d)

abbrev pub WiringStays : Type 0
WiringStays =
    (tells : Bool) → (old new : Subsystem) → (event : Event) → (seen : Seen) → Step tells old event seen new
    → AreWired old → AreWired new

-- A fetched command waits for its completion queue only if that is full.
abbrev pub WaitsWhereFull : Type 0
WaitsWhereFull =
    (c : Controller) → IsWired c → (i : ℕ) → (t : FetchedCommand) → slice_get c.fetched i ≡ Some t
    → open_pair c t ≡ None
    → (s : SubmissionQueue) × (x : CompletionQueue) × (submission_at c t.queue ≡ Some s)
    × (completion_at c s.cqid ≡ Some x) × (completion_room x.tail ≡ 0)
