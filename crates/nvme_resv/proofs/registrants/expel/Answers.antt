use Rattle.std.proofs.Common.{rules, not}
use Rattle.arrayvec.proofs.ArrayVecLemmas.{filter-from_retain}
use Rattle.nvme_resv.specs.Leaving.{leaves_test}
use Rattle.nvme_resv.proofs.registrants.expel.Goals as goal

pub returns-clause-stay : goal.returns-clause-stay
returns-clause-stay c =
    filter-from_retain _ (λ r. not (leaves_test c.args.key c.args.spared r)) _
    (λ x b f' y k. search rules) _ _ c.retain.ensures.filtered
