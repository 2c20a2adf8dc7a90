use Rattle.std.proofs.Common.{rules, ◌==◌, not}
use Rattle.arrayvec.proofs.ArrayVecLemmas.{filter-from_retain}
use Rattle.nvme_resv.proofs.registrants.remove_host.Goals as goal

pub returns : goal.returns
returns c =
    filter-from_retain _ (λ r. not (r.host == c.args.host)) _ (λ x b f' y k. search rules) _ _ c.retain.ensures.filtered
