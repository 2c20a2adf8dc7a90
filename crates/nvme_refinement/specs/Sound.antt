-- The relation between a driver with its controller and the mailbox that represents them, which every event keeps.
use Rattle.std.specs.Prelude.{◌≡◌, ◌≤◌, ◌⊎◌, ℕ, true, false, List, [], ◌∷◌, map, Option, None, Some}
use Rattle.std.specs.List.{AllByRecursion}
use Rattle.nvme_spec.specs.declared.registers.ControllerState.TheVariants.{Off, Ready}
use Rattle.nvme_spec.specs.Registers.{is_enabled}
use Rattle.nvme_driver.specs.declared.lane.Lane.{Lane}
use Rattle.nvme_driver.specs.declared.lane.Lane.TheVariants.{Admin, Io}
use Rattle.nvme_driver.specs.Layout.{queue_id, submission_queue, completion_queue}
use Rattle.nvme_driver.specs.Drivers.{Ends, Driver, is_up, ends}
use Rattle.nvme_machine.specs.declared.fetched.FetchedCommand.{FetchedCommand}
use Rattle.nvme_machine.specs.Controllers.{
  Controller,
  SubmissionQueue,
  CompletionQueue,
  no_submission_queues,
  no_completion_queues,
}
use Rattle.nvme_mailbox.specs.Mailboxes.{Mailbox}
use Rattle.nvme_refinement.specs.Views.{box, received_in}
use Rattle.nvme_driver.specs.Polls.{waiting_at}
use Rattle.nvme_spec.specs.Limits.{most_bytes}
use Rattle.nvme_refinement.specs.Lanes.{Both, host, state, fetched_by, held_by, in_order, aborted_number}

-- the mailbox of a driver and its controller
abbrev pub mailbox : Driver → Controller → Mailbox
mailbox d c = record {
  up = is_up d.state;
  next = d.next;
  admin = box (host Admin d c.window) (state Admin c);
  io = box (host Io d c.window) (state Io c);
  fetched = map (fetched_by (held_by d c.window)) c.fetched;
  aborted = in_order aborted_number d.slots;
}

-- the driver's ends have the sizes of its queues
pub record EndsFit (e : Ends) : Type 0 where
  pub tail : e.tail.size ≡ 8
  pub head : e.head.size ≡ 32

-- the counts of a lane's queues at the controller
pub record DeviceEnds : Type 0 where
  pub fetched : ℕ
  pub waiting : ℕ
  pub posted : ℕ
  pub unread : ℕ

-- a lane's queues at the controller, with these counts
abbrev pub submission_as : Lane → DeviceEnds → SubmissionQueue
submission_as lane p = record {
  base = submission_queue lane;
  cqid = queue_id lane;
  head = record { size = 8; fetched = p.fetched; waiting = p.waiting };
}

abbrev pub completion_as : Lane → DeviceEnds → CompletionQueue
completion_as lane p =
    record { base = completion_queue lane; tail = record { size = 32; posted = p.posted; unread = p.unread } }

abbrev pub submissions_as : DeviceEnds → DeviceEnds → List (Option SubmissionQueue)
submissions_as a i = Some (submission_as Admin a) ∷ Some (submission_as Io i) ∷ None ∷ None ∷ None ∷ []

abbrev pub completions_as : DeviceEnds → DeviceEnds → List (Option CompletionQueue)
completions_as a i = Some (completion_as Admin a) ∷ Some (completion_as Io i) ∷ None ∷ None ∷ None ∷ []

-- a command of one of the driver's queues
abbrev pub IsOfLane : FetchedCommand → Type 0
IsOfLane t = (t.queue ≡ 0) ⊎ (t.queue ≡ 1)

-- A controller that its driver has brought up: it is ready, and has the queues of both lanes (queue pairs) and no
-- others.
pub record IsPaired (c : Controller) : Type 0 where
  pub admin : DeviceEnds
  pub io : DeviceEnds
  pub submission : c.submission ≡ submissions_as admin io
  pub completion : c.completion ≡ completions_as admin io
  pub fetched : AllByRecursion IsOfLane c.fetched
  pub ready : c.registers.state ≡ Ready
  pub enabled : is_enabled c.registers.cc ≡ true

-- one that is off
pub record IsOff (c : Controller) : Type 0 where
  pub submission : c.submission ≡ no_submission_queues
  pub completion : c.completion ≡ no_completion_queues
  pub fetched : c.fetched ≡ []
  pub off : c.registers.state ≡ Off
  pub disabled : is_enabled c.registers.cc ≡ false

-- The invariant of a driver and its controller.
pub record Sound (d : Driver) (c : Controller) : Type 0 where
  pub both : Both d c
  pub fits : (lane : Lane) → EndsFit (ends lane d)
  pub sizes : (slot : ℕ) → received_in (waiting_at d.slots slot) ≤ most_bytes
  pub up : is_up d.state ≡ true → IsPaired c
  pub down : is_up d.state ≡ false → IsOff c
