use Rattle.std.proofs.lemmas.List.Edits.{map_over_more}
use Rattle.std.proofs.Common.{rules}
use Rattle.nvme_driver.specs.Drivers.{abort}
use Rattle.nvme_driver.proofs.slots.abort_all.Goals as goal

pub loop-index-preserved : goal.loop-index-preserved
loop-index-preserved c = rw c.aborted.ensures (map_over_more abort c.args.slots.now c.loop-index.slots
    c.loop-index.index _ (search rules) c.loop-index.invariant (search rules))
