use Rattle.std.proofs.Common.{refl, sym, ap, subst}
use Rattle.std.specs.Fn.{FnOnceReturnsAtMut}
use Rattle.nvme_subsys.specs.Sound.{IsSound}
use Rattle.nvme_subsys.proofs.subsystem.Subsystem.change_medium.Goals as goal

pub returns-clause-medium : goal.returns-clause-medium
returns-clause-medium g c =
    rw (← c.self.view_is) (record { shown = _; shows = refl; left = _; met = c.change.ensures; leaves = refl })

pub invariant_of-self : goal.invariant_of-self
invariant_of-self g c =
    let size = c.requires.size c.self.inside.medium c.change.new.arg2 c.change.result
    (record { shown = _; shows = refl; left = _; met = c.change.ensures; leaves = refl }) in
    subst (λ n. IsSound c.self.inside.spaces n c.self.inside.controllers.items) (sym size) c.self.invariant
