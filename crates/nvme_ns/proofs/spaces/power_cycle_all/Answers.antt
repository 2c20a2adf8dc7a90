use Rattle.std.proofs.Common.{arith}
use Rattle.std.proofs.lemmas.List.Edits.{map_over_more}
use Rattle.nvme_spec.specs.Power.{cycled_namespace}
use Rattle.nvme_ns.proofs.spaces.power_cycle_all.Goals as goal

pub loop-i-preserved : goal.loop-i-preserved
loop-i-preserved c =
    rw (c.power_cycle.ensures, ← c.index-namespaces-i.is)
    (map_over_more cycled_namespace c.args.namespaces.now c.loop-i.namespaces c.loop-i.i c.index-namespaces-i.result
    (omega arith) c.loop-i.invariant c.index-namespaces-i.is)
