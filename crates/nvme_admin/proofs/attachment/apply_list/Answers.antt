use Rattle.std.proofs.Common.{arith}
use Rattle.nvme_admin.proofs.Executing.{too-long}
use Rattle.nvme_admin.proofs.attachment.apply_list.Goals as goal

pub returns-then-count-gt-LONGEST_LIST-clause-refused : goal.returns-then-count-gt-LONGEST_LIST-clause-refused
returns-then-count-gt-LONGEST_LIST-clause-refused c =
    too-long c.args.spaces.now c.args.sqe.now c.args.list.now
    (omega (arith, c.count_of-count.ensures, c.if-count-gt-LONGEST_LIST.true))
