use Rattle.std.proofs.Common.{ap}
use Rattle.std.proofs.lemmas.Result.{err_from_is_err_and}
use Rattle.nvme_spec.proofs.Splices.{Torn-unchanged}
use Rattle.nvme_medium.proofs.failing.FailingMedium.write.Goals as goal

pub returns-in_err-count_call-clause-err : goal.returns-in_err-count_call-clause-err
returns-in_err-count_call-clause-err g c =
    let p = err_from_is_err_and c.from_residual.result c.from_residual.ensures.1 in
    rw p.1 (λ tells. Torn-unchanged _ _ c.args.i (g.M.Medium.size c.args.self.now.inner)
    (ap (λ m. (g.M.Medium.device m).content) c.in_err-count_call.ensures.inner)
    (g.met.M.Medium.whole c.args.self.now.inner tells) c.requires)
