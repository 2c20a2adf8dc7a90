use Rattle.std.proofs.Common.{◌≡◌, ◌+◌, true, false, sym, subst, refl, arith}
use Rattle.nvme_capsules.specs.Destinations.{destination}
use Rattle.nvme_target.specs.Destinations.{IsOfDestination}
use Rattle.nvme_target.specs.Examples.{executes, read}
use Rattle.nvme_target.proofs.ExampleSessions.{live-8, live-9, closed-8, ended-8}
use Rattle.nvme_target.proofs.examples.destinations.Goals as goal

pub returns-clause-own : goal.returns-clause-own
returns-clause-own c = subst (λ s. IsOfDestination (destination s read true) (executes 1)) (sym live-8) refl

pub returns-clause-of_another : goal.returns-clause-of_another
returns-clause-of_another c h =
    let at : 2 ≡ 0 + 1 = subst (λ s. IsOfDestination (destination s read true) (executes 2)) live-8 h in
    omega (arith, at)

pub returns-clause-no_queue : goal.returns-clause-no_queue
returns-clause-no_queue c h = subst (λ s. IsOfDestination (destination s read false) (executes 1)) live-8 h

pub returns-clause-not_connected : goal.returns-clause-not_connected
returns-clause-not_connected c h = subst (λ s. IsOfDestination (destination s read true) (executes 1)) live-9 h

pub returns-clause-closed : goal.returns-clause-closed
returns-clause-closed c h = subst (λ s. IsOfDestination (destination s read true) (executes 1)) closed-8 h

pub returns-clause-ended : goal.returns-clause-ended
returns-clause-ended c h = subst (λ s. IsOfDestination (destination s read true) (executes 1)) ended-8 h

pub returns-clause-fabrics : goal.returns-clause-fabrics
returns-clause-fabrics c h = h
