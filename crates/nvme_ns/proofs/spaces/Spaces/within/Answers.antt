use Rattle.std.proofs.Common.{◌≤◌, arith, rules}
use Rattle.nvme_spec.specs.Configuration.{total_blocks}
use Rattle.nvme_ns.specs.Configured.{configuration}
use Rattle.nvme_ns.proofs.Numbered.{rising, counted}
use Rattle.nvme_ns.proofs.Opened.{few, small, opened}
use Rattle.nvme_ns.proofs.Placing.{LiesWithin-laid_out}
use Rattle.nvme_ns.proofs.spaces.Spaces.within.Goals as goal

pub pair_table-requires : goal.pair_table-requires
pair_table-requires c =
    let config = configuration c.args.config.now in
    let ok = c.in_ok-check.ensures {u = tt} in
    rw c.deref-4.ensures.value (opened config config.attached ok.attached ok.numbered (few config ok.counts) ok.known).0

pub invariant_of-result : goal.invariant_of-result
invariant_of-result c =
    let config = configuration c.args.config.now in
    let ok = c.in_ok-check.ensures {u = tt} in
    let count = few config ok.counts in
    let table = opened config config.attached ok.attached ok.numbered count ok.known in (
      rw (c.controller_table.ensures, c.deref.ensures.value) (rising 0 config.controllers ok.numbered),
      rw (c.controller_table.ensures, c.deref.ensures.value) (small config.controllers ok.numbered count),
      rw (c.attachment_table.ensures, c.deref-3.ensures.value) table,
      rw (c.controller_table.ensures, c.deref.ensures.value) (counted 0 config.controllers ok.numbered),
      rw (c.attachment_table.ensures, c.deref-3.ensures.value, ← c.deref-4.ensures.value) c.pair_table.ensures,
    )

pub returns-clause-within : goal.returns-clause-within
returns-clause-within c =
    let fits : total_blocks c.deref-2.result.now ≤ c.args.medium_blocks = search rules in
    rw c.namespace_table.ensures (LiesWithin-laid_out c.args.medium_blocks 0 c.deref-2.result.now (omega (arith, fits)))
