-- The calls of the medium of a call over a link: one that gives the device no turn makes none, and a turn makes those
-- of its two events.
use Rattle.std.specs.Prelude.{◌≡◌, ◌+◌, ℕ, Bool, List}
use Rattle.nvme_spec.specs.MediumCalls.{MediumCall, MakesCalls}
use Rattle.nvme_driver.specs.Calls.{Call, Stores, Writes, Reads, Turns, Sees, Loads}
use Rattle.nvme_machine.specs.declared.seen.Seen.{Seen}
use Rattle.nvme_machine.specs.Subsystems.{Subsystem}
use Rattle.nvme_machine.specs.EventCalls.{AreCallsOfRun}
use Rattle.nvme_subsys.specs.OverMedium.{OverMedium}
use Rattle.nvme_fleet.specs.DriverEvents.{CallOver, events_of}
use Rattle.nvme_fleet.specs.Linked.{Linked}

-- the calls of the medium that a turn of controller k makes
abbrev pub AreCallsOfTurn : Bool → ℕ → Subsystem → Subsystem → List MediumCall → Type 0
AreCallsOfTurn tells k old new calls = (given : List Seen) × AreCallsOfRun tells old (events_of k Turns) given new calls

abbrev pub ReachesMedium :
    {M : Type 0} → (M → MediumCall → M → Type 0) → Bool → ℕ → Subsystem → Subsystem → Call → M → M → Type 0
ReachesMedium step tells k old new (Stores address bytes) before after = after ≡ before
ReachesMedium step tells k old new (Writes offset v) before after = after ≡ before
ReachesMedium step tells k old new (Reads offset v) before after = after ≡ before
ReachesMedium step tells k old new (Sees lane head expected seen) before after = after ≡ before
ReachesMedium step tells k old new (Loads at part) before after = after ≡ before
ReachesMedium step tells k old new Turns before after = MakesCalls step (AreCallsOfTurn tells k old new) before after

pub record CallOverMedium {M : Type 0} (step : M → MediumCall → M → Type 0) (tells : Bool) (old : OverMedium Linked M)
    (call : Call) (new : OverMedium Linked M) : Type 0 where
  pub over : CallOver tells old.state call new.state
  pub medium : ReachesMedium step tells (old.state.place + 1) old.state.subsystem new.state.subsystem call old.medium
      new.medium
