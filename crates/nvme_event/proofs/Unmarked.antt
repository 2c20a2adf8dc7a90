-- For `bare.rt`: empty marks are the marks of the event.
use Rattle.std.proofs.Common.{◌≡◌, refl}
use Rattle.nvme_spec.specs.declared.outcome.Marks.{Marks}
use Rattle.nvme_spec.specs.Execution.{no_marks}
use Rattle.nvme_machine.specs.declared.bare.BareExecuted.TheVariants as executed
use Rattle.nvme_event.specs.declared.bare.BareFleetSeen.{BareFleetSeen}
use Rattle.nvme_event.specs.declared.bare.BareFleetSeen.TheVariants as bare
use Rattle.nvme_event.specs.Bare.{marks_by}

pub nothing_marked : (x : BareFleetSeen) (m : Marks) → m ≡ no_marks → m ≡ marks_by x m
nothing_marked (bare.Executed (executed.Posted o)) m none = refl
nothing_marked (bare.Executed other) m none = none
nothing_marked other m none = none
