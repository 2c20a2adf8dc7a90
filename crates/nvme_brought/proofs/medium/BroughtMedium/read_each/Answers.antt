use Rattle.std.proofs.Common.{◌≡◌, ◌+◌, ◌-◌, ◌*◌, ◌/◌, true, Err, length, subst, sym, ◌∙◌, ap, refl, arith}
use Rattle.std.proofs.lemmas.Result.{err_from_is_err_and}
use borrow.Rule.Slice.PartMut.{put_mid}
use Rattle.nvme_spec.specs.Blocks.{block_at}
use Rattle.nvme_spec.specs.MediumCalls.{reads_from}
use Rattle.nvme_medium.specs.Reading.{ReadsBlocks}
use Rattle.nvme_medium.proofs.Made.{one-read, block_at-before, block_at-put, put-same}
use Rattle.nvme_medium.proofs.Reading.{all-read, read-failed}
use Rattle.nvme_medium.proofs.Runs.{no_front, one_more}
use Rattle.nvme_brought.specs.Brought.{content_of, brought_step}
use Rattle.nvme_brought.specs.Whole.{content_is_whole}
use Rattle.nvme_brought.proofs.medium.BroughtMedium.read_each.Goals as goal

pub loop-j-init : goal.loop-j-init
loop-j-init c = record {
  read = no_front true c.args.first (content_of c.args.self.now) c.args.target.now;
  kept = refl;
  size = refl;
  calls = refl;
  failures = refl;
}

pub loop-j-preserved : goal.loop-j-preserved
loop-j-preserved c = record {
  read = one_more true c.args.first c.loop-j.j (content_of c.args.self.now) c.args.target.now c.loop-j.target _
      c.read_onto.new.target c.args.self.now.disk.blocks c.loop-j.invariant.read c.read_onto.ensures.len
      (λ tells. c.in_ok-read_onto.ensures.ok tells
      ∙ ap (λ x. block_at x (c.args.first + c.loop-j.j)) c.loop-j.invariant.kept)
      (λ tells. content_is_whole c.args.self.now) refl (omega arith) (omega arith);
  kept = c.read_onto.ensures.kept refl ∙ c.loop-j.invariant.kept;
  size = c.read_onto.ensures.size ∙ c.loop-j.invariant.size;
  calls =
      one-read _ c.args.first c.loop-j.j c.loop-j.target _ c.read_onto.new.target _ _ _ c.loop-j.invariant.calls
      c.in_ok-read_onto.ensures.step
      (λ k h.
      block_at-before c.loop-j.target c.read_onto.new.target c.loop-j.j k (omega arith) c.read_onto.ensures.len h)
      (block_at-put c.loop-j.target c.read_onto.new.target c.loop-j.j (omega arith) c.read_onto.ensures.len);
  failures = c.in_ok-read_onto.ensures.count.done refl ∙ c.loop-j.invariant.failures;
}

pub returns-in_err-read_onto-clause-reads : goal.returns-in_err-read_onto-clause-reads
returns-in_err-read_onto-clause-reads c =
    let p = err_from_is_err_and c.from_residual.result c.from_residual.ensures.1 in
    let same : put_mid (512 * c.loop-j.j)
    (512 * c.loop-j.j + 512 - 512 * c.loop-j.j) c.loop-j.target c.read_onto.new.target ≡ c.loop-j.target =
    put-same c.loop-j.target c.read_onto.new.target c.loop-j.j (omega arith) c.in_err-read_onto.ensures.err in
    subst
    (λ left. ReadsBlocks brought_step true (content_of c.args.self.now) c.args.first (length c.args.target.now / 512)
    c.args.target.now left c.args.self.now c.from_residual.result c.read_onto.new.self) (sym same)
    (read-failed _ true c.args.first c.loop-j.j _ _ _ c.loop-j.target _ _ _ _ _ c.loop-j.invariant.read
    c.loop-j.invariant.calls
    (ap (reads_from c.args.first c.loop-j.target c.loop-j.j) (ap Err (sym p.2) ∙ sym p.1))
    c.in_err-read_onto.ensures.step (omega arith) (omega arith) c.from_residual.ensures.0)

pub returns-clause-reads : goal.returns-clause-reads
returns-clause-reads c =
    all-read _ true c.args.first c.loop-j.j _ _ _ c.loop-j.target _ _ c.loop-j.invariant.read
    c.loop-j.invariant.calls (omega arith) (omega arith)
