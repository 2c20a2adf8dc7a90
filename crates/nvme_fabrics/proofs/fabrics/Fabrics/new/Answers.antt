use Rattle.std.proofs.Common.{◌≡◌, map, arith, sym, ap, ◌∙◌, length-set, refl}
use Rattle.std.specs.Prelude.{None}
use Rattle.std.proofs.lemmas.List.{take_more_set, map_more, take_all}
use Rattle.nvme_fabrics.specs.Sessions.{no_association}
use Rattle.nvme_fabrics.proofs.fabrics.Fabrics.new.Goals as goal

pub loop-i-preserved : goal.loop-i-preserved
loop-i-preserved c = record {
  whole = rw length-set c.loop-i.invariant.whole;
  hosts =
      rw (
        take_more_set c.loop-i.controllers c.loop-i.i _ (omega (arith, c.loop-i.invariant.whole, c.loop-i-test.true)),
        map_more no_association c.args.hosts.now c.loop-i.i None (omega (arith, c.told-hosts, c.loop-i-test.true)),
      )
      (rw c.loop-i.invariant.hosts refl);
}

pub returns : goal.returns
returns c =
    let all : c.loop-i.controllers ≡ map no_association c.args.hosts.now =
    sym (take_all c.loop-i.i c.loop-i.controllers (omega (arith, c.loop-i.invariant.whole, c.loop-i-test.false)))
    ∙ c.loop-i.invariant.hosts
    ∙ ap (map no_association)
    (take_all c.loop-i.i c.args.hosts.now (omega (arith, c.told-hosts, c.loop-i-test.false))) in
    λ i. record { has_keys = c.args.has_keys; controllers = all i }
