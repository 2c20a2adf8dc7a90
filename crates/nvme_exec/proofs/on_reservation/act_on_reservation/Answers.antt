use Rattle.std.proofs.Common.{refl}
use Rattle.nvme_exec.proofs.Settling.{removed, refused, left}
use Rattle.nvme_exec.proofs.Data.{outcome-is}
use Rattle.nvme_exec.proofs.on_reservation.act_on_reservation.Goals as goal

pub returns-in-Ok-clause-acts : goal.returns-in-Ok-clause-acts
returns-in-Ok-clause-acts c =
    removed _ _ _ _ _ _ _ (outcome-is _ _ _ _ _ _ c.requires.admitted c.gather.ensures.bytes) c.in-Ok.is c.act.ensures

pub returns-in-Ok-clause-world : goal.returns-in-Ok-clause-world
returns-in-Ok-clause-world c =
    left _ _ _ _ _ _ (outcome-is _ _ _ _ _ _ c.requires.admitted c.gather.ensures.bytes) c.act.ensures

pub returns-in-Err-clause-acts : goal.returns-in-Err-clause-acts
returns-in-Err-clause-acts c = (
  refl,
  refused _ _ _ _ _ _ _ (outcome-is _ _ _ _ _ _ c.requires.admitted c.gather.ensures.bytes) c.in-Err.is c.act.ensures,
)

pub returns-in-Err-clause-world : goal.returns-in-Err-clause-world
returns-in-Err-clause-world c =
    left _ _ _ _ _ _ (outcome-is _ _ _ _ _ _ c.requires.admitted c.gather.ensures.bytes) c.act.ensures
