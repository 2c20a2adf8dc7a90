use Rattle.std.proofs.Common.{◌/◌, Ok, Err, subst, sym, ap, ◌∙◌, arith}
use Rattle.std.proofs.lemmas.Result.{err_from_is_err_and}
use Rattle.nvme_spec.specs.Bytes.{with_bytes_within}
use Rattle.nvme_spec.specs.Transfers.{addresses}
use Rattle.nvme_exec.specs.Reading.{ReadsAsMany}
use Rattle.nvme_exec.proofs.Directly.{run-read, run-failed, block-read, block-failed}
use Rattle.nvme_exec.proofs.transfer.read_some.Goals as goal

pub returns-in_ok-read_blocks-in-Some-clause-reads : goal.returns-in_ok-read_blocks-in-Some-clause-reads
returns-in_ok-read_blocks-in-Some-clause-reads g c =
    let r = c.in-Some.ensures in
    let size = c.bytes_mut.ensures.whole_len in
    let some = r.some in
    let few = r.few in
    let lies = r.lies in (
      omega arith,
      omega arith,
      run-read g.M.Medium.step g.M.Medium.tells c.args.i c.args.j c.args.most c.args.pieces.now.parts.items
          c.in-Some.run' _ c.args.window.now c.bytes_mut.result.now c.read_blocks.new.target
          c.args.medium.now c.read_blocks.new.self (Ok tt) r
          (omega arith) c.bytes_mut.ensures.bytes c.bytes_mut.ensures.len c.in_ok-read_blocks-in-Some.ensures.reads,
    )

pub returns-in_err-read_blocks-in-Some-clause-reads : goal.returns-in_err-read_blocks-in-Some-clause-reads
returns-in_err-read_blocks-in-Some-clause-reads g c =
    let r = c.in-Some.ensures in
    let size = c.bytes_mut.ensures.whole_len in
    let few = r.few in
    let lies = r.lies in
    let p = err_from_is_err_and c.from_residual.result c.from_residual.ensures.1 in
    subst (λ result. ReadsAsMany g.M.Medium.step g.M.Medium.tells c.args.i c.args.j c.args.most
    ((g.M.Medium.device c.args.medium.now).content)
    (addresses c.args.pieces.now.parts.items) c.args.medium.now result c.read_blocks.new.self c.args.window.now
    (with_bytes_within c.args.window.now c.in-Some.run'.address c.read_blocks.new.target)) (ap Err (sym p.2) ∙ sym p.1)
    (run-failed g.M.Medium.step g.M.Medium.tells c.args.i c.args.j
    (c.in-Some.run'.len / 512) c.args.most _ _ _ _ _ _ _ (omega arith)
    (run-read g.M.Medium.step g.M.Medium.tells c.args.i c.args.j c.args.most c.args.pieces.now.parts.items
    c.in-Some.run' _ c.args.window.now c.bytes_mut.result.now c.read_blocks.new.target
    c.args.medium.now c.read_blocks.new.self (Err c.in_err-read_blocks-in-Some.field-0.0) r
    (omega arith) c.bytes_mut.ensures.bytes c.bytes_mut.ensures.len c.in_err-read_blocks-in-Some.ensures.reads))

pub returns-in_ok-read_apart-in-None-clause-reads : goal.returns-in_ok-read_apart-in-None-clause-reads
returns-in_ok-read_apart-in-None-clause-reads g c = (
  omega arith,
  c.requires.some,
  block-read g.M.Medium.step g.M.Medium.tells c.args.i c.args.j _
      (addresses c.args.pieces.now.parts.items) c.args.window.now c.read_apart.new.window c.args.medium.now
      c.read_apart.new.medium c.in_ok-read_apart-in-None.ensures.read,
)

pub returns-in_err-read_apart-in-None-clause-reads : goal.returns-in_err-read_apart-in-None-clause-reads
returns-in_err-read_apart-in-None-clause-reads g c =
    let p = err_from_is_err_and c.from_residual-in_err-read_apart-in-None.result
    c.from_residual-in_err-read_apart-in-None.ensures.1 in
    let failed = c.in_err-read_apart-in-None.ensures.fault in
    subst (λ result. ReadsAsMany g.M.Medium.step g.M.Medium.tells c.args.i c.args.j c.args.most
    ((g.M.Medium.device c.args.medium.now).content) (addresses c.args.pieces.now.parts.items) c.args.medium.now result
    c.read_apart.new.medium c.args.window.now c.read_apart.new.window) (ap Err (sym p.2) ∙ sym p.1)
    (block-failed g.M.Medium.step g.M.Medium.tells c.args.i c.args.j c.args.most
    ((g.M.Medium.device c.args.medium.now).content) (addresses c.args.pieces.now.parts.items) c.args.window.now
    c.read_apart.new.window c.args.medium.now c.read_apart.new.medium c.in_err-read_apart-in-None.field-0.0
    c.requires.some failed.0 failed.1)
