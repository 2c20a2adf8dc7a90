use Rattle.std.proofs.Common.{rules, ◌==◌, ◌&&◌, not}
use Rattle.std.specs.List.{list_any}
use Rattle.arrayvec.proofs.ArrayVecLemmas.{filter-from_retain}
use Rattle.nvme_ns.proofs.spaces.attaching.remove.Goals as goal

pub returns : goal.returns
returns c =
    filter-from_retain _ (λ a. not ((a.1 == c.args.nsid) && list_any (λ cntlid. cntlid == a.0) c.args.controllers.now))
    _ (λ x b f' y k. search rules) _ _
    c.retain.ensures.filtered
