use Rattle.nvme_medium.proofs.Kept.{put_this, put_others, Fits-put, capacity-put}
use Rattle.nvme_medium.proofs.cached.keep.Goals as goal

pub returns-clause-this : goal.returns-clause-this
returns-clause-this c = λ b. put_this c.put.result c.args.kept.now c.put.new.self c.args.i c.args.block.now b
    c.put.ensures.entries c.put.ensures.err c.put.ensures.succeeds

pub returns-clause-others : goal.returns-clause-others
returns-clause-others c = λ j b. put_others c.put.result c.args.kept.now c.put.new.self c.args.i c.args.block.now j b
    c.put.ensures.entries c.put.ensures.err

pub returns-clause-capacity : goal.returns-clause-capacity
returns-clause-capacity c = capacity-put c.put.result c.args.kept.now c.put.new.self c.args.i c.args.block.now
    c.put.ensures.entries c.put.ensures.err

pub returns-clause-fits : goal.returns-clause-fits
returns-clause-fits c = Fits-put c.put.result c.args.kept.now c.put.new.self c.args.i c.args.block.now
    c.put.ensures.entries c.put.ensures.err
