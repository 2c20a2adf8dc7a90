-- For proofs about calls: the calls of the medium are those of steps and runs.
use Rattle.std.proofs.Common.{ℕ, Bool, List, [], ◌∷◌, Option, None, Some}
use Rattle.std.specs.Prelude.{slice_get}
use Rattle.nvme_spec.specs.MediumCalls.{MediumCall}
use Rattle.nvme_machine.specs.declared.event.Event.TheVariants.{Execute, PowerCycle}
use Rattle.nvme_machine.specs.declared.fetched.FetchedCommand.{FetchedCommand}
use Rattle.nvme_machine.specs.declared.seen.Seen.{Seen}
use Rattle.nvme_machine.specs.Controllers.{Controller, QueuePair, open_pair}
use Rattle.nvme_machine.specs.Subsystems.{Subsystem, ExecutesOver, ExecutesOne, ExecutesAt, controller_at}
use Rattle.nvme_machine.specs.EventCalls.{CallingOver, CallingOne, CallingAt, CallsAreOfAStep, CallsAreOfARun}

of-over : (o : Option QueuePair) (tells : Bool) (old : Subsystem) (k : ℕ) (c : Controller) (i : ℕ) (t : FetchedCommand)
    (seen : Seen) (new : Subsystem) (calls : List MediumCall)
    → CallingOver o tells old k c i t seen new calls → ExecutesOver o tells old k c i t seen new
of-over None tells old k c i t seen new calls h = (h.0, h.1)
of-over (Some p) tells old k c i t seen new calls h = h.completes

of-one : (o : Option FetchedCommand) (tells : Bool) (old : Subsystem) (k : ℕ) (c : Controller) (i : ℕ) (seen : Seen)
    (new : Subsystem) (calls : List MediumCall)
    → CallingOne o tells old k c i seen new calls → ExecutesOne o tells old k c i seen new
of-one None tells old k c i seen new calls h = (h.0, h.1)
of-one (Some t) tells old k c i seen new calls h = of-over (open_pair c t) tells old k c i t seen new calls h

of-at : (o : Option Controller) (tells : Bool) (old : Subsystem) (k i : ℕ) (seen : Seen) (new : Subsystem)
    (calls : List MediumCall)
    → CallingAt o tells old k i seen new calls → ExecutesAt o tells old k i seen new
of-at None tells old k i seen new calls h = (h.0, h.1)
of-at (Some c) tells old k i seen new calls h = of-one (slice_get c.fetched i) tells old k c i seen new calls h

pub calls_are_of_a_step : CallsAreOfAStep
calls_are_of_a_step tells old new (Execute k i) seen calls h =
    of-at (controller_at old k) tells old k i seen new calls h
calls_are_of_a_step tells old new PowerCycle seen calls h = (h.0, h.1)
calls_are_of_a_step tells old new event seen calls h = h.0

pub calls_are_of_a_run : CallsAreOfARun
calls_are_of_a_run tells old new [] [] calls h = h.0
calls_are_of_a_run tells old new [] (seen ∷ later) calls h = absurd h
calls_are_of_a_run tells old new (event ∷ events) [] calls h = absurd h
calls_are_of_a_run tells old new (event ∷ events) (seen ∷ later) calls (mid, here, behind, step, run, joined) = (
  mid,
  calls_are_of_a_step tells old mid event seen here step,
  calls_are_of_a_run tells mid new events later behind run,
)
