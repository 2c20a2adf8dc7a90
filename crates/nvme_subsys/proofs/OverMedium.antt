-- For the answers of the events: a value over a medium, part by part, and events that make no call of the medium.
use Rattle.std.proofs.Common.{◌≡◌, Bool, ap, subst}
use Rattle.nvme_spec.specs.MediumCalls.{MediumCall, MakesCalls, Calls}
use Rattle.nvme_machine.specs.declared.event.Event.{Event}
use Rattle.nvme_machine.specs.declared.event.Event.TheVariants.{Store, Write32, Read32, Fetch, Execute, PowerCycle}
use Rattle.nvme_machine.specs.declared.seen.Seen.{Seen}
use Rattle.nvme_machine.specs.EventCalls.{AreCallsOfStep, ExecutesNothing}
use Rattle.nvme_machine.specs.Subsystems.{Subsystem}
use Rattle.nvme_subsys.specs.OverMedium.{OverMedium}

pub state-is : {S M : Type 0} {a b : OverMedium S M} → a ≡ b → a.state ≡ b.state
state-is {S} {M} e = ap (λ (x : OverMedium S M). x.state) e

pub medium-is : {S M : Type 0} {a b : OverMedium S M} → a ≡ b → a.medium ≡ b.medium
medium-is {S} {M} e = ap (λ (x : OverMedium S M). x.medium) e

-- An event that executes nothing makes no call, and leaves the medium unchanged.
pub medium-kept : {M : Type 0} (step : M → MediumCall → M → Type 0) (tells : Bool) (old new : Subsystem) (event : Event)
    (seen : Seen) (before after : M) → ExecutesNothing event
    → MakesCalls step (AreCallsOfStep tells old event seen new) before after → after ≡ before
medium-kept step tells old new (Store k address bytes) seen before after quiet h =
    subst (λ cs. Calls step before cs after) h.are.1 h.made
medium-kept step tells old new (Write32 k offset v) seen before after quiet h =
    subst (λ cs. Calls step before cs after) h.are.1 h.made
medium-kept step tells old new (Read32 k offset) seen before after quiet h =
    subst (λ cs. Calls step before cs after) h.are.1 h.made
medium-kept step tells old new (Fetch k q) seen before after quiet h =
    subst (λ cs. Calls step before cs after) h.are.1 h.made
medium-kept step tells old new (Execute k i) seen before after quiet h = absurd quiet
medium-kept step tells old new PowerCycle seen before after quiet h =
    subst (λ cs. Calls step before cs after) h.are.2 h.made
