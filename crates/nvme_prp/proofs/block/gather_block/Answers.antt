use Rattle.std.proofs.Common.{arith, ◌∙◌, ap, sym, refl}
use Rattle.nvme_spec.specs.Transfers.{gathered_bytes}
use Rattle.nvme_spec.proofs.Runs.{run-read}
use Rattle.nvme_prp.proofs.block.gather_block.Goals as goal

pub returns-in-One : goal.returns-in-One
returns-in-One c =
    let lies = c.in-One.ensures.lies in
    let size = c.bytes.ensures.whole_len in
    record {
      block =
          run-read c.args.window.now c.in-One.address 512 _ _ _ refl refl (omega arith)
          (c.copy_from_slice.ensures.after ∙ c.bytes.ensures.bytes)
          ∙ ap (gathered_bytes c.args.window.now) (sym c.in-One.ensures.addresses);
    }

pub returns-in-Two : goal.returns-in-Two
returns-in-Two c =
    record { block = c.gather_two.ensures ∙ ap (gathered_bytes c.args.window.now) (sym c.in-Two.ensures.addresses) }
