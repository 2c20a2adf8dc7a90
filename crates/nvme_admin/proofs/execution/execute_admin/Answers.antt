use Rattle.nvme_admin.proofs.Executing.{denied}
use Rattle.nvme_admin.proofs.execution.execute_admin.Goals as goal

pub returns-in-Err : goal.returns-in-Err
returns-in-Err c =
    let failed = c.in-Err.ensures {u = tt} in
    record {
      executed =
          denied _ _ _ _ _ _ _ _ c.denied.result failed.denied c.denied.ensures failed.unchanged.0 failed.unchanged.1;
    }
