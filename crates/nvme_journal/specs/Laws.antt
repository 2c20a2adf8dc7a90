-- Laws of the records: what a journal keeps of a command is all that the command changes of the access state, and the
-- command succeeds with that effect whenever it is executed again.
use Rattle.std.specs.Prelude.{◌≡◌, ◌≤◌, ◌++◌, ℕ, Bool, true, false, List, [], ◌∷◌, None, length, take}
use Rattle.nvme_wire.specs.Submission.{opcode, fuse, psdt, nsid, cdw10, cdw11, cdw12}
use Rattle.nvme_spec.specs.declared.outcome.Outcome.{Outcome}
use Rattle.nvme_spec.specs.declared.queues.Queues.{Queues}
use Rattle.nvme_spec.specs.AdminEffects.{AdminExecution, admin_execution}
use Rattle.nvme_spec.specs.AdminRules as admin
use Rattle.nvme_spec.specs.DataRules.{data_fault}
use Rattle.nvme_spec.specs.Execution.{Scene, Executes}
use Rattle.nvme_spec.specs.IoData as io
use Rattle.nvme_spec.specs.World.{World}
use Rattle.nvme_data_buffers.specs.Entries.{moved}
use Rattle.nvme_journal.specs.Records.{
  Record,
  Command,
  Cycle,
  carried_all,
  is_success,
  kept,
  kept_data,
  kept_length,
  lasts,
}

-- An I/O command changes the access state as the journal says, whatever faults the medium has: not at all, if nothing
-- is kept of it.
abbrev pub IoCommandsAreKept : Type 0
IoCommandsAreKept =
    (tells : Bool) (k : ℕ) (e : List ℕ) (marked : Bool) (old new : Scene) (outcome : Outcome)
    → Executes tells k e marked old new outcome
    → new.world ≡ carried_all (kept outcome.status k false e (io.data_of old.window e)) old.world

-- And so does an admin command.
abbrev pub AdminCommandsAreKept : Type 0
AdminCommandsAreKept =
    (w : World) (queues : Queues) (k : ℕ) (e window : List ℕ)
    → (admin_execution w queues k e window).world
    ≡ carried_all (kept (admin_execution w queues k e window).status k true e (admin.data_of window e)) w

-- The same command, with another identifier or data pointer.
pub record IsSameCommand (e again : List ℕ) : Type 0 where
  pub opcode : opcode again ≡ opcode e
  pub fuse : fuse again ≡ fuse e
  pub psdt : psdt again ≡ psdt e
  pub nsid : nsid again ≡ nsid e
  pub cdw10 : cdw10 again ≡ cdw10 e
  pub cdw11 : cdw11 again ≡ cdw11 e
  pub cdw12 : cdw12 again ≡ cdw12 e

-- Data that a command reads the same: all of them, or for an admin command its list of controllers
abbrev pub ReadsTheSame : Bool → List ℕ → List ℕ → Type 0
ReadsTheSame true sent again = admin.listed_controllers again ≡ admin.listed_controllers sent
ReadsTheSame false sent again = again ≡ sent

-- Two records hold the same command of a controller with the same data, or two power cycles.
pub record IsSameRecord (k other : ℕ) (is_admin from_admin : Bool) (e again sent data_again : List ℕ) : Type 0 where
  pub controller : other ≡ k
  pub queue : from_admin ≡ is_admin
  pub command : IsSameCommand e again
  pub reads : ReadsTheSame is_admin sent data_again

abbrev pub Matches : Record → Record → Type 0
Matches (Command k is_admin e sent) (Command other from_admin again data_again) =
    IsSameRecord k other is_admin from_admin e again sent data_again
Matches (Command k is_admin e sent) Cycle = ⊥
Matches Cycle (Command other from_admin again data_again) = ⊥
Matches Cycle Cycle = Unit {0}

abbrev pub AllMatch : List Record → List Record → Type 0
AllMatch [] [] = Unit {0}
AllMatch (r ∷ records) (x ∷ others) = Matches r x × AllMatch records others
AllMatch [] (x ∷ others) = ⊥
AllMatch (r ∷ records) [] = ⊥

-- They have the same effect on the access state.
abbrev pub MatchingRecordsCarryAlike : Type 0
MatchingRecordsCarryAlike =
    (records others : List Record) (w : World) → AllMatch records others → carried_all others w ≡ carried_all records w

-- the data pointer of a command has no fault
abbrev pub ReachesData : Bool → List ℕ → List ℕ → Type 0
ReachesData is_admin window e = data_fault (moved is_admin e) window e ≡ None

-- An I/O command was kept. With the same data it succeeds in each subsystem with the same access state, and leaves the
-- same access state.
pub record SucceedsAgain (left : World) (new : Scene) (outcome : Outcome) : Type 0 where
  pub succeeds : is_success outcome.status ≡ true
  pub world : new.world ≡ left

abbrev pub IoRecordsSucceedAgain : Type 0
IoRecordsSucceedAgain =
    (tells : Bool) (k : ℕ) (e : List ℕ) (marked : Bool) (old new : Scene) (outcome : Outcome)
    → Executes tells k e marked old new outcome → is_success outcome.status ≡ true → lasts false e ≡ true
    → (tells_there : Bool) (again : List ℕ) (there left : Scene) (there_outcome : Outcome)
    → there.world ≡ old.world → IsSameCommand e again → ReachesData false there.window again
    → io.data_of there.window again ≡ io.data_of old.window e
    → Executes tells_there k again false there left there_outcome
    → SucceedsAgain new.world left there_outcome

-- An admin command that was kept, by the data that it reads: a list of controllers
pub record AdminSucceedsAgain (left : World) (x : AdminExecution) : Type 0 where
  pub succeeds : is_success x.status ≡ true
  pub world : x.world ≡ left

abbrev pub AdminRecordsSucceedAgain : Type 0
AdminRecordsSucceedAgain =
    (w : World) (queues there : Queues) (k : ℕ) (e again window other : List ℕ)
    → is_success (admin_execution w queues k e window).status ≡ true → lasts true e ≡ true
    → IsSameCommand e again → ReachesData true other again
    → admin.listed_controllers (admin.data_of other again) ≡ admin.listed_controllers (admin.data_of window e)
    → AdminSucceedsAgain (admin_execution w queues k e window).world (admin_execution w there k again other)

-- The kept data are enough: an I/O command moves no others, and a list of controllers is read the same with any bytes
-- after it.
abbrev pub KeptDataAreEnough : Type 0
KeptDataAreEnough =
    (e sent : List ℕ) → lasts false e ≡ true → take (moved false e) (kept_data false sent) ≡ take (moved false e) sent

abbrev pub KeptListsAreEnough : Type 0
KeptListsAreEnough =
    (sent more : List ℕ) → kept_length true sent ≤ length sent
    → admin.listed_controllers (kept_data true sent ++ more) ≡ admin.listed_controllers sent

-- Their length depends on the first two bytes alone.
abbrev pub TwoBytesAreEnough : Type 0
TwoBytesAreEnough =
    (is_admin : Bool) (sent : List ℕ) → 2 ≤ length sent
    → kept_length is_admin (take 2 sent) ≡ kept_length is_admin sent
