use Rattle.std.proofs.Common.{arith, ◌∙◌, refl}
use Rattle.std.specs.List.{range_with_len}
use Rattle.nvme_spec.proofs.Runs.{run-read, two-read}
use Rattle.nvme_prp.proofs.block.gather_two.Goals as goal

pub returns : goal.returns
returns c =
    let size = c.bytes.ensures.whole_len in
    let front = c.args.front in
    let back = c.args.back in
    two-read c.args.window.now (range_with_len front.address front.len) (range_with_len back.address back.len) _ _
    (c.copy_from_slice.ensures.after ∙ run-read _ front.address front.len _ _ _ refl refl
    (let i = c.requires.front_inside in omega arith) c.bytes.ensures.bytes)
    (c.copy_from_slice-2.ensures.after ∙ run-read _ back.address back.len _ _ _ refl refl
    (let i = c.requires.back_inside in omega arith) c.bytes-2.ensures.bytes)
