use Rattle.std.proofs.Common.{length, ap, arith, refl, ◌∙◌}
use Rattle.nvme_spec.specs.Bytes.{with_bytes}
use Rattle.nvme_driver.proofs.Spelling.{count-put, identifier-put, list-spelled}
use Rattle.nvme_driver.proofs.payload.spell_list.Goals as goal

pub loop-index-init : goal.loop-index-init
loop-index-init c = record {
  page = count-put (length c.args.list.now) _ _ c.to_le_bytes.ensures
      (c.put_bytes.ensures ∙ ap (λ old. with_bytes old 0 c.to_le_bytes.result) c.requires.zeros);
}

pub loop-index-preserved : goal.loop-index-preserved
loop-index-preserved c =
    record {
      page = identifier-put (length c.args.list.now) c.loop-index.index c.args.list.now _ _ _ c.loop-index-test.true
          c.loop-index.invariant.page c.to_le_bytes-in-loop-index.ensures c.put_bytes-in-loop-index.ensures;
    }

pub returns : goal.returns
returns c =
    let end = c.loop-index.auto.index-end in
    let past = c.loop-index-test.false in
    list-spelled (length c.args.list.now) c.loop-index.index c.args.list.now c.loop-index.page refl
    (omega arith) c.loop-index.invariant.page
