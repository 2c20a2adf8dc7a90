-- The effect of each exported event on an open subsystem.
use Rattle.std.specs.Prelude.{◌≡◌, ℕ, Option, Some, None, true}
use Rattle.nvme_spec.specs.declared.outcome.Marks.{Marks}
use Rattle.nvme_spec.specs.MediumCalls.{MakesCalls}
use Rattle.nvme_lent.specs.OwnOrLent.{step_of}
use Rattle.nvme_machine.specs.declared.bare.BareSeen.{BareSeen}
use Rattle.nvme_machine.specs.declared.bare.BareSeen.TheVariants.{Cycled}
use Rattle.nvme_machine.specs.declared.event.Event.{Event as SubsystemEvent}
use Rattle.nvme_machine.specs.Bare.{seen_of, seen_with, marks_by}
use Rattle.nvme_machine.specs.Controllers.{Controller, Reaction}
use Rattle.nvme_machine.specs.EventCalls.{CallingAt}
use Rattle.nvme_machine.specs.Subsystems.{Reacts, Step, ExecutesAt, controller_at, after_power_cycle}
use Rattle.nvme_library.specs.declared.answer.Answer.{Answer}
use Rattle.nvme_library.specs.Answers.{answer_of, closed}
use Rattle.nvme_library.specs.Holding.{Inside}

-- a relation of a subsystem before an event, the result, and the subsystem after it
abbrev pub Event : Type 1
Event = Inside → BareSeen → Inside → Type 0

-- If a subsystem is open, the event happens, the answer is its result, and it stays open; else nothing happens.
abbrev pub Happens : Event → Option Inside → Answer → Option Inside → Type 0
Happens E None answer new = (answer ≡ closed) × (new ≡ None)
Happens E (Some old) answer None = ⊥
Happens E (Some old) answer (Some new) = (seen : BareSeen) × (answer ≡ answer_of seen) × E old seen new

-- an event that makes no call of the medium
abbrev pub Stepping : SubsystemEvent → Event
Stepping event old seen new = Step true old.state event (seen_of seen) new.state × (new.medium ≡ old.medium)

-- a controller reacts, without a call of the medium
abbrev pub Reacting : ℕ → (Controller → Reaction) → Event
Reacting cntlid f old seen new =
    Reacts old.state cntlid f (seen_of seen) new.state × (new.medium ≡ old.medium)

-- a controller executes a command, which makes its calls of the medium and no others
pub record Executing (cntlid i : ℕ) (old : Inside) (seen : BareSeen) (new : Inside) : Type 0 where
  pub marks : Marks
  pub marked : marks ≡ marks_by seen marks
  pub executes : ExecutesAt (controller_at old.state cntlid) true old.state cntlid i (seen_with marks seen) new.state
  pub calls : MakesCalls step_of
      (CallingAt (controller_at old.state cntlid) true old.state cntlid i (seen_with marks seen) new.state) old.medium
      new.medium

-- power is lost in the whole subsystem, and returns
abbrev pub Cycling : Event
Cycling old seen new = (seen ≡ Cycled) × (new.state ≡ after_power_cycle old.state) × (new.medium ≡ old.medium)
