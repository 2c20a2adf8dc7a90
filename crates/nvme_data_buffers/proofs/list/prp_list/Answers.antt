use Rattle.std.proofs.Common.{refl, ◌∙◌, arith}
use Rattle.nvme_data_buffers.specs.Buffers.{first_listed, prp_list}
use Rattle.nvme_data_buffers.proofs.Listed.{entry-put, all-entries}
use Rattle.nvme_data_buffers.proofs.list.prp_list.Goals as goal

pub loop-index-init : goal.loop-index-init
loop-index-init c = record { bytes = refl }

pub loop-index-preserved : goal.loop-index-preserved
loop-index-preserved c = record {
  bytes = c.put_page.ensures
      ∙ entry-put first_listed c.loop-index.index c.loop-index.bytes _ c.loop-index.invariant.bytes refl;
}

pub returns : goal.returns
unfolding prp_list
returns c =
    let end = c.loop-index.auto.index-end in
    let past = c.loop-index-test.false in
    all-entries first_listed c.loop-index.index c.loop-index.bytes (omega arith) c.loop-index.invariant.bytes
