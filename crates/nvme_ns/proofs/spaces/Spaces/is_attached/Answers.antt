use Rattle.std.proofs.Common.{false, sym, ap, ◌∙◌}
use Rattle.std.specs.Prelude.{slice_index_or}
use Rattle.nvme_spec.specs.World.{is_attached}
use Rattle.nvme_ns.proofs.Telling.{none_outside}
use Rattle.nvme_ns.proofs.spaces.Spaces.is_attached.Goals as goal

pub returns-then-is_pair : goal.returns-then-is_pair
unfolding is_attached
returns-then-is_pair c =
    rw (← c.self.view_is)
    (ap (λ n. slice_index_or c.self.inside.pairs n false) c.pair_number.ensures.number
    ∙ c.self.invariant.4 (c.args.cntlid, c.args.nsid) (c.is_pair.ensures.0 c.if-is_pair.true))

pub returns-else-is_pair : goal.returns-else-is_pair
unfolding is_attached
returns-else-is_pair c =
    rw (← c.self.view_is, c.if-is_pair.false)
    (sym (none_outside c.self.inside.attachments.items (c.args.cntlid, c.args.nsid) c.self.invariant.2.0
    (λ q. let passed = (c.if-is_pair.ensures {u = tt}).1 q in absurd (cc))))
