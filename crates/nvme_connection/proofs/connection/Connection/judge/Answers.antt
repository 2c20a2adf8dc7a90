use Rattle.std.proofs.Common.{sym, ap, ◌∙◌, subst}
use Rattle.nvme_connection.specs.Holding.{Holds}
use Rattle.nvme_connection.proofs.Verdicts.{judged-whole}
use Rattle.nvme_connection.proofs.connection.Connection.judge.Goals as goal

pub returns-in-Whole-clause-next : goal.returns-in-Whole-clause-next
returns-in-Whole-clause-next c = λ d h.
    subst (λ s. Holds c.judge_whole.new.self s.0) (sym
    (judged-whole c.args.self.now d c.args.digests h c.in-Whole.is)) (c.judge_whole.ensures.judges d h).next

pub returns-in-Whole-clause-verdict : goal.returns-in-Whole-clause-verdict
returns-in-Whole-clause-verdict c = λ d h.
    (c.judge_whole.ensures.judges d h).told ∙ ap (λ s. s.1) (sym
    (judged-whole c.args.self.now d c.args.digests h c.in-Whole.is))
