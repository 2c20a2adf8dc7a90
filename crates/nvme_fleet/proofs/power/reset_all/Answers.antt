use Rattle.nvme_fleet.proofs.Words.{◌∙◌, arith, option_map, map_over_more, after_reset}
use Rattle.nvme_fleet.proofs.power.reset_all.Goals as goal

pub loop-i-preserved : goal.loop-i-preserved
loop-i-preserved g c = record {
  reset =
      rw (c.reset_if_any.ensures.driver, ← c.index-drivers-i.is)
      (map_over_more (option_map after_reset) c.args.drivers.now c.loop-i.drivers c.loop-i.i c.index-drivers-i.result
      (omega arith) c.loop-i.invariant.reset c.index-drivers-i.is);
  state = c.reset_if_any.ensures.state ∙ c.loop-i.invariant.state;
  medium = c.reset_if_any.ensures.medium ∙ c.loop-i.invariant.medium;
}
