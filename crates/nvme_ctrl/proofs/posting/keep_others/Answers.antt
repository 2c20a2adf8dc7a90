use Rattle.std.proofs.Common.{rules, ◌==◌, not}
use Rattle.arrayvec.proofs.ArrayVecLemmas.{filter-from_retain}
use Rattle.nvme_ctrl.proofs.posting.keep_others.Goals as goal

pub returns : goal.returns
returns c =
    filter-from_retain _ (λ t. not (t.queue == c.args.qid)) _ (λ x b f' y k. search rules) _ _ c.retain.ensures.filtered
