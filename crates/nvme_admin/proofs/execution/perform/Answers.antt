use Rattle.std.proofs.lemmas.Result.{err_from_is_err_and}
use Rattle.nvme_admin.proofs.Executing.{access-denies, pointer-denies, allowed, refused}
use Rattle.nvme_admin.proofs.execution.perform.Goals as goal

pub returns-in-Err-clause-denied : goal.returns-in-Err-clause-denied
returns-in-Err-clause-denied c = access-denies _ _ _ _ _ _ (c.in-Err.ensures {u = tt}).denied

pub returns-in_err-locate-clause-denied : goal.returns-in_err-locate-clause-denied
returns-in_err-locate-clause-denied c =
    let ok = c.in-Ok.ensures {u = tt} in
    let p = err_from_is_err_and c.from_residual.result c.from_residual.ensures.1 in
    rw (p.1, p.2) (pointer-denies _ _ _ _ _ _ _ ok.allowed ok.admitted.named
    (rw c.data_length.ensures.length at (c.in_err-locate.ensures {u = tt}).denied))

pub returns-clause-allowed : goal.returns-clause-allowed
returns-clause-allowed c =
    let ok = c.in-Ok.ensures {u = tt} in
    allowed _ _ _ _ _ _ _ _ c.carry_out.result ok.allowed ok.admitted.named
    (rw c.data_length.ensures.length at (c.in_ok-locate.ensures {u = tt}).passed)
    c.carry_out.ensures.passed c.carry_out.ensures.done

pub returns-clause-denied : goal.returns-clause-denied
returns-clause-denied c =
    let ok = c.in-Ok.ensures {u = tt} in
    refused _ _ _ _ _ _ c.carry_out.result ok.allowed ok.admitted.named
    (rw c.data_length.ensures.length at (c.in_ok-locate.ensures {u = tt}).passed)
    c.carry_out.ensures.refused
