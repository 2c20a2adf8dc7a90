use Rattle.std.proofs.Common.{rules, sym, ap, arith}
use Rattle.std.specs.Prelude.{option_map}
use Rattle.std.proofs.lemmas.Bool.Decides.{nat_tests}
use Rattle.nvme_spec.specs.World.{host_of}
use Rattle.nvme_ns.proofs.Telling.{none_before, host_past, host_here}
use Rattle.nvme_ns.proofs.spaces.Spaces.host_of.Goals as goal

pub returns-in_err-index-clause-host : goal.returns-in_err-index-clause-host
unfolding host_of
returns-in_err-index-clause-host c =
    let low = c.in_err-index.ensures {u = tt} in
    let none_ = none_before 1 c.args.cntlid c.self.inside.controllers.items c.self.invariant.3
    (omega (arith, low, c.from.ensures)) in
    rw (← c.self.view_is, c.from_residual.ensures) (sym (ap (option_map (λ k. k.1)) none_))

pub returns-in_err-get-clause-host : goal.returns-in_err-get-clause-host
unfolding host_of
returns-in_err-get-clause-host c =
    let place = c.in_ok-index.index in
    let none_ =
    host_past c.args.cntlid place c.self.inside.controllers.items c.self.invariant.3
    (omega (arith, c.in_ok-index.ensures {u = tt}, c.from.ensures)) (grind (arith, nat_tests)) in
    rw (← c.self.view_is, c.from_residual-in_err-get.ensures) (sym (ap (option_map (λ k. k.1)) none_))

pub returns-clause-host : goal.returns-clause-host
unfolding host_of
returns-clause-host c =
    let place = c.in_ok-index.index in
    let found =
    host_here c.args.cntlid place c.self.inside.controllers.items c.in_ok-get.field-0.now c.self.invariant.3
    (omega (arith, c.in_ok-index.ensures {u = tt}, c.from.ensures)) (grind (arith, nat_tests)) (search rules) in
    rw (← c.self.view_is) (sym (ap (option_map (λ k. k.1)) found))
