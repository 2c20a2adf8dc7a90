-- For `nvme_fleet`: no event adds or removes a controller.
use Rattle.std.proofs.Common.{◌≡◌, ℕ, zero, suc, Bool, List, length, Option, None, Some, refl, ap, ◌∙◌}
use Rattle.std.specs.Prelude.{slice_get}
use Rattle.std.proofs.lemmas.List.{length-set, length-map}
use Rattle.nvme_machine.specs.declared.event.Event.{Event}
use Rattle.nvme_machine.specs.declared.event.Event.TheVariants.{Store, Write32, Read32, Fetch, Execute, PowerCycle}
use Rattle.nvme_machine.specs.declared.fetched.FetchedCommand.{FetchedCommand}
use Rattle.nvme_machine.specs.declared.seen.Seen.{Seen}
use Rattle.nvme_machine.specs.Controllers.{Controller, QueuePair, Reaction, open_pair, power_cycled}
use Rattle.nvme_machine.specs.Subsystems.{
  Subsystem,
  Step,
  ReactsAs,
  ExecutesAt,
  ExecutesOne,
  ExecutesOver,
  controller_at,
  with_controller,
  after_completion,
  after_execution,
  after_power_cycle,
  replaced,
}
use Rattle.nvme_subsys.proofs.Sound.{length-marked}

length-replaced : (cs : List Controller) (k : ℕ) (c : Controller) → length (replaced cs k c) ≡ length cs
length-replaced cs zero c = refl
length-replaced cs (suc n) c = length-set cs n c

reacts-count : (o : Option Controller) (old new : Subsystem) (k : ℕ) (f : Controller → Reaction) (seen : Seen)
    → ReactsAs o old k f seen new → length new.controllers ≡ length old.controllers
unfolding with_controller
reacts-count None old new k f seen h = ap (λ (s : Subsystem). length s.controllers) h.1
reacts-count (Some c) old new k f seen h = ap (λ (s : Subsystem). length s.controllers) h.1
    ∙ (let a : Reaction = f c in length-replaced old.controllers k a.controller)

over-count : (o : Option QueuePair)
    (tells : Bool) (old new : Subsystem) (k : ℕ) (c : Controller) (i : ℕ) (t : FetchedCommand) (seen : Seen)
    → ExecutesOver o tells old k c i t seen new → length new.controllers ≡ length old.controllers
unfolding after_execution
over-count None tells old new k c i t seen h = ap (λ (s : Subsystem). length s.controllers) h.1
over-count (Some p) tells old new k c i t seen h =
    ap (λ (s : Subsystem). length s.controllers) h.leaves
    ∙ length-marked h.execution.left.world h.execution.outcome.marks 1
    (replaced old.controllers k (after_completion i t p h.execution c))
    ∙ length-replaced old.controllers k (after_completion i t p h.execution c)

one-count : (o : Option FetchedCommand) (tells : Bool) (old new : Subsystem) (k : ℕ) (c : Controller) (i : ℕ)
    (seen : Seen) → ExecutesOne o tells old k c i seen new → length new.controllers ≡ length old.controllers
one-count None tells old new k c i seen h = ap (λ (s : Subsystem). length s.controllers) h.1
one-count (Some t) tells old new k c i seen h = over-count (open_pair c t) tells old new k c i t seen h

executes-count : (o : Option Controller) (tells : Bool) (old new : Subsystem) (k i : ℕ) (seen : Seen)
    → ExecutesAt o tells old k i seen new → length new.controllers ≡ length old.controllers
executes-count None tells old new k i seen h = ap (λ (s : Subsystem). length s.controllers) h.1
executes-count (Some c) tells old new k i seen h = one-count (slice_get c.fetched i) tells old new k c i seen h

cycled-count : (old new : Subsystem) → new ≡ after_power_cycle old → length new.controllers ≡ length old.controllers
unfolding after_power_cycle
cycled-count old new h = ap (λ (s : Subsystem). length s.controllers) h ∙ length-map old.controllers power_cycled

pub step-count : (tells : Bool) (old new : Subsystem) (event : Event) (seen : Seen)
    → Step tells old event seen new → length new.controllers ≡ length old.controllers
step-count tells old new (Store k address bytes) seen h = reacts-count (controller_at old k) old new k _ seen h
step-count tells old new (Write32 k offset v) seen h = reacts-count (controller_at old k) old new k _ seen h
step-count tells old new (Read32 k offset) seen h = reacts-count (controller_at old k) old new k _ seen h
step-count tells old new (Fetch k q) seen h = reacts-count (controller_at old k) old new k _ seen h
step-count tells old new (Execute k i) seen h = executes-count (controller_at old k) tells old new k i seen h
step-count tells old new PowerCycle seen h = cycled-count old new h.1
