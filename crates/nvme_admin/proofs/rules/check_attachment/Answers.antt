use Rattle.nvme_admin.proofs.Executing.{protects}
use Rattle.nvme_admin.proofs.rules.check_attachment.Goals as goal

pub returns-clause-protects : goal.returns-clause-protects
returns-clause-protects c = protects c.deny_if.result c.lacks_attachment.result _ c.args.command c.args.sqe.now _ _
    c.deny_if.ensures c.lacks_attachment.ensures
