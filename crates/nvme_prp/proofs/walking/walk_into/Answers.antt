use Rattle.std.proofs.Common.{length, sym, ap, subst, ◌∙◌}
use Rattle.std.proofs.lemmas.List.FromFn.{length-map-range_with_len}
use Rattle.nvme_spec.specs.Transfers.{addresses, ArePages}
use Rattle.nvme_spec.proofs.PagesJoined.{joined}
use Rattle.nvme_spec.proofs.PagesSound.{parts-are_pages}
use Rattle.nvme_prp.proofs.walking.walk_into.Goals as goal

pub invariant_of-pieces-in-Err : goal.invariant_of-pieces-in-Err
unfolding ArePages
invariant_of-pieces-in-Err c = record { pages = rw c.clear-in-Err.ensures tt }

pub invariant_of-pieces : goal.invariant_of-pieces
invariant_of-pieces c =
    let walked = c.in-Ok.ensures in
    record { pages = subst ArePages (sym walked.parts) (parts-are_pages _ walked.sound) }

pub returns-in-Ok-clause-joined : goal.returns-in-Ok-clause-joined
returns-in-Ok-clause-joined c = ap addresses c.in-Ok.ensures.parts ∙ joined _

pub returns-in-Ok-clause-size : goal.returns-in-Ok-clause-size
returns-in-Ok-clause-size c =
    ap length (ap addresses c.in-Ok.ensures.parts ∙ joined _) ∙ length-map-range_with_len _ 0 c.args.len
