use Rattle.nvme_medium.proofs.Kept.{lookup-remove_other, lookup-remove_same, Fits-removed}
use Rattle.nvme_medium.proofs.cached.forget.Goals as goal

pub returns-then-len-gt0-clause-gone : goal.returns-then-len-gt0-clause-gone
returns-then-len-gt0-clause-gone c =
    rw c.pop.ensures.entries (lookup-remove_same c.args.i c.args.kept.now.entries c.len.ensures.valid.0)

pub returns-then-len-gt0-clause-others : goal.returns-then-len-gt0-clause-others
returns-then-len-gt0-clause-others c = λ j ne. rw c.pop.ensures.entries (lookup-remove_other c.args.i j _ ne)

pub returns-then-len-gt0-clause-fits : goal.returns-then-len-gt0-clause-fits
returns-then-len-gt0-clause-fits c = Fits-removed c.args.i _ _ c.pop.ensures.entries
