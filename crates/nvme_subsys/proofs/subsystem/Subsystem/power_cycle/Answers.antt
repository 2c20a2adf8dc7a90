use Rattle.std.proofs.Common.{◌≡◌, ◌++◌, ◌∙◌, sym, ap, subst, length, map, take, drop, arith}
use Rattle.std.proofs.lemmas.List.{length-map}
use Rattle.nvme_spec.specs.Power.{cycled_world}
use Rattle.nvme_machine.specs.Controllers.{power_cycled}
use Rattle.nvme_machine.specs.Subsystems.{Subsystem, after_power_cycle}
use Rattle.nvme_subsys.specs.Sound.{IsSound}
use Rattle.nvme_subsys.proofs.Cycled.{cycled-sound}
use Rattle.nvme_subsys.proofs.Numbers.{refill-all}
use Rattle.nvme_subsys.proofs.subsystem.Subsystem.power_cycle.Goals as goal

pub invariant_of-self : goal.invariant_of-self
invariant_of-self g c =
    let items = c.self.inside.controllers.items in
    let ms : c.power_cycle_all.new.controllers ≡ map power_cycled items =
    rw c.deref_mut.ensures.value at c.power_cycle_all.ensures in
    let whole : take c.self.inside.controllers.len
    (c.power_cycle_all.new.controllers ++ drop (length c.power_cycle_all.new.controllers) items)
    ≡ c.power_cycle_all.new.controllers =
    refill-all c.self.inside.controllers.len _ c.power_cycle_all.new.controllers
    (omega (arith, c.deref_mut.ensures.len, c.power_cycle_all.auto.controllers)) in
    rw c.power_cycle.ensures
    (subst (λ cs. IsSound (cycled_world c.self.inside.spaces) (g.M.Medium.size c.self.inside.medium) cs)
    (sym (whole ∙ ms))
    (cycled-sound c.self.inside.spaces (g.M.Medium.size c.self.inside.medium) items c.self.invariant))

pub returns-clause-state : goal.returns-clause-state
unfolding after_power_cycle
returns-clause-state g c =
    let items = c.self.inside.controllers.items in
    let ms : c.power_cycle_all.new.controllers ≡ map power_cycled items =
    rw c.deref_mut.ensures.value at c.power_cycle_all.ensures in
    let whole : take c.self.inside.controllers.len
    (c.power_cycle_all.new.controllers ++ drop (length c.power_cycle_all.new.controllers) items)
    ≡ c.power_cycle_all.new.controllers =
    refill-all c.self.inside.controllers.len _ c.power_cycle_all.new.controllers
    (omega (arith, c.deref_mut.ensures.len, c.power_cycle_all.auto.controllers)) in
    rw (← c.self.view_is, c.power_cycle.ensures)
    (ap (λ cs. (let s : Subsystem = record {
      world = cycled_world c.self.inside.spaces;
      device = g.M.Medium.device c.self.inside.medium;
      controllers = cs;
    } in s)) (whole ∙ ms))
