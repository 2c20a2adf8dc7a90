use Rattle.std.proofs.Common.{◌≡◌, ◌+◌, ◌*◌, ◌/◌, length, Ok, Err, sym, ap, ◌∙◌, refl, arith}
use Rattle.std.proofs.lemmas.Result.{err_from_is_err_and}
use Rattle.nvme_spec.proofs.Splices.{with_bytes-next}
use Rattle.nvme_spec.specs.MediumCalls.{Writes, writes_from}
use Rattle.nvme_medium.proofs.Made.{one-passed, one-failed}
use Rattle.nvme_brought.specs.Brought.{content_of}
use Rattle.nvme_brought.specs.Whole.{content_is_whole}
use Rattle.nvme_brought.proofs.medium.BroughtMedium.write_each.Goals as goal

pub loop-j-preserved : goal.loop-j-preserved
loop-j-preserved c =
    let block = rw c.unwrap-block.ensures at c.as_array.ensures.cases in
    let all : length c.args.bytes.now ≡ 512 * (length c.args.bytes.now / 512) = omega (arith, c.requires.whole) in
    record {
      written =
          with_bytes-next (content_of c.args.self.now) c.args.first c.args.bytes.now c.loop-j.j
          (length c.args.bytes.now / 512) _ _ _ c.loop-j.invariant.written (c.in_ok-write.ensures.ok refl)
          block.same (omega arith) all (omega (arith, content_is_whole c.args.self.now, all));
      size = c.write.ensures.size ∙ c.loop-j.invariant.size;
      calls = one-passed _ (writes_from c.args.first c.args.bytes.now) c.loop-j.j _ _ _ _ c.loop-j.invariant.calls
          (ap (λ bytes. Writes (c.args.first + c.loop-j.j) bytes (Ok tt)) block.same) c.in_ok-write.ensures.step;
      failures = c.in_ok-write.ensures.count.done refl ∙ c.loop-j.invariant.failures;
    }

pub returns-in_err-write-clause-calls : goal.returns-in_err-write-clause-calls
returns-in_err-write-clause-calls c =
    let block = rw c.unwrap-block.ensures at c.as_array.ensures.cases in
    let p = err_from_is_err_and c.from_residual.result c.from_residual.ensures.1 in
    let call = writes_from c.args.first c.args.bytes.now in
    one-failed _ call c.loop-j.j _ _ _ _ _ _ c.loop-j.invariant.calls
    (ap (λ bytes. Writes (c.args.first + c.loop-j.j) bytes (Err c.in_err-write.field-0.0)) block.same
    ∙ ap (call c.loop-j.j) (ap Err (sym p.2) ∙ sym p.1))
    c.in_err-write.ensures.step (omega arith) c.from_residual.ensures.0
