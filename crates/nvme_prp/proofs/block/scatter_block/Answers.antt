use Rattle.std.proofs.Common.{rules, ◌≡◌, ◌-◌, length, arith, ◌∙◌, ap, sym, refl}
use Rattle.nvme_spec.specs.Transfers.{with_scattered}
use Rattle.nvme_spec.proofs.Runs.{run-store, two-store}
use Rattle.nvme_prp.proofs.block.scatter_block.Goals as goal

pub returns-in-One : goal.returns-in-One
returns-in-One c =
    let lies = c.in-One.ensures.lies in
    let size = c.bytes_mut.ensures.whole_len in
    let bytes : length c.args.block.now ≡ 512 = search rules in
    record {
      window =
          run-store c.args.window.now c.in-One.address 512 _ _ _ refl c.copy_from_slice.ensures.after
          bytes (omega arith)
          ∙ ap (λ xs. with_scattered c.args.window.now xs c.args.block.now) (sym c.in-One.ensures.addresses);
    }

pub returns-in-Two : goal.returns-in-Two
returns-in-Two c =
    let lies = c.in-Two.ensures.lies in
    let size = c.bytes_mut-in-Two.ensures.whole_len in
    let bytes : length c.args.block.now ≡ 512 = search rules in
    record {
      window =
          two-store c.args.window.now c.in-Two.address c.in-Two.len _ c.in-Two.next
          (512 - c.in-Two.len) _ _ _ c.args.block.now
          refl refl (c.copy_from_slice-in-Two.ensures.after ∙ c.split_at.ensures.front)
          (c.copy_from_slice-in-Two-2.ensures.after ∙ c.split_at.ensures.back)
          (omega (arith, bytes, lies.1)) (omega (arith, lies.2)) (omega (arith, lies.3))
          ∙ ap (λ xs. with_scattered c.args.window.now xs c.args.block.now) (sym c.in-Two.ensures.addresses);
    }
