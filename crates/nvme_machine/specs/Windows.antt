-- Statements of the law `windows_keep_their_bytes`: windows keep their length, and queues are inside.
use Rattle.std.specs.Prelude.{◌≡◌, ℕ, Bool, List, length, Some}
use Rattle.nvme_spec.specs.Blocks.{Device}
use Rattle.nvme_spec.specs.Configuration.{Configuration}
use Rattle.nvme_spec.specs.Memory.{window_size}
use Rattle.nvme_spec.specs.Queues.{FitsSubmissionHead, FitsCompletionTail}
use Rattle.nvme_spec.specs.RegisterLaws.{IsQueuePlace, IsConsistent}
use Rattle.nvme_machine.specs.declared.event.Event.{Event}
use Rattle.nvme_machine.specs.declared.seen.Seen.{Seen}
use Rattle.nvme_machine.specs.Controllers.{Controller, SubmissionQueue, CompletionQueue, submission_at, completion_at}
use Rattle.nvme_machine.specs.Subsystems.{Subsystem, Run, controller_at, opening}

-- a submission queue is in the window, and its counts are within its size
abbrev pub SubmitsInside : SubmissionQueue → Type 0
SubmitsInside s = IsQueuePlace s.base s.head.size 64 × FitsSubmissionHead s.head

-- so is a completion queue
abbrev pub LiesInside : CompletionQueue → Type 0
LiesInside x = IsQueuePlace x.base x.tail.size 16 × FitsCompletionTail x.tail

-- a controller has its whole window, registers that agree with their state, and its queues in the window
pub record HasItsWindow (c : Controller) : Type 0 where
  pub window : length c.window ≡ window_size
  pub registers : IsConsistent c.registers
  pub submission : (q : ℕ) → (s : SubmissionQueue) → submission_at c q ≡ Some s → SubmitsInside s
  pub completion : (q : ℕ) → (x : CompletionQueue) → completion_at c q ≡ Some x → LiesInside x

abbrev pub AllHaveTheirWindows : Subsystem → Type 0
AllHaveTheirWindows s = (k : ℕ) → (c : Controller) → controller_at s k ≡ Some c → HasItsWindow c

-- it is so at the opening
abbrev pub OpeningHasItsWindows : Type 0
OpeningHasItsWindows = (c : Configuration) → (d : Device) → AllHaveTheirWindows (opening c d)

-- and stays so over every run: no window ever has a byte more or less
abbrev pub WindowsKeepTheirLength : Type 0
WindowsKeepTheirLength =
    (tells : Bool) → (old new : Subsystem) → (events : List Event) → (seen : List Seen)
    → Run tells old events seen new → AllHaveTheirWindows old → AllHaveTheirWindows new
