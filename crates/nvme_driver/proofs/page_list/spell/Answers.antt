use Rattle.nvme_driver.proofs.Spelling.{no-entry-put, page-entry-put}
use Rattle.nvme_driver.proofs.page_list.spell.Goals as goal

pub loop-index-init : goal.loop-index-init
loop-index-init c = record { bytes = no-entry-put c.args.first }

pub loop-index-preserved : goal.loop-index-preserved
loop-index-preserved c =
    record {
      bytes = page-entry-put c.args.first c.loop-index.index c.loop-index.bytes _ _ c.loop-index.invariant.bytes
          c.to_le_bytes.ensures c.put_bytes.ensures;
    }
