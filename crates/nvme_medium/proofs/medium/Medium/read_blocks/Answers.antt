use Rattle.std.proofs.Common.{◌≡◌, ◌+◌, ◌-◌, ◌*◌, ◌/◌, Err, length, subst, sym, ◌∙◌, ap, refl, arith}
use borrow.Rule.Slice.PartMut.{put_mid}
use Rattle.nvme_spec.specs.Blocks.{block_at}
use Rattle.nvme_medium.proofs.Runs.{no_front, one_more}
use Rattle.std.proofs.lemmas.Result.{err_from_is_err_and}
use Rattle.nvme_spec.specs.MediumCalls.{reads_from}
use Rattle.nvme_medium.specs.Reading.{ReadsBlocks}
use Rattle.nvme_medium.proofs.Reading.{all-read, read-failed}
use Rattle.nvme_medium.proofs.Made.{one-read, block_at-before, block_at-put, put-same}
use Rattle.nvme_medium.proofs.medium.Medium.read_blocks.Goals as goal

pub loop-j-init : goal.loop-j-init
loop-j-init g c = record {
  read = no_front g.Self.Medium.tells c.args.first (g.Self.Medium.device c.args.self.now).content c.args.target.now;
  kept = λ tells. refl;
  size = refl;
  calls = refl;
  failures = refl;
}

pub loop-j-preserved : goal.loop-j-preserved
loop-j-preserved g c = record {
  read = one_more g.Self.Medium.tells c.args.first c.loop-j.j
      (g.Self.Medium.device c.args.self.now).content c.args.target.now c.loop-j.target
      _ c.read_onto.new.target (g.Self.Medium.size c.args.self.now) c.loop-j.invariant.read c.read_onto.ensures.len
      (λ tells. c.in_ok-read_onto.ensures.ok tells
      ∙ ap (λ x. block_at x (c.args.first + c.loop-j.j)) (c.loop-j.invariant.kept tells))
      (g.met.Self.Medium.whole c.args.self.now) refl (omega arith) (omega arith);
  kept = λ tells. c.read_onto.ensures.kept tells ∙ c.loop-j.invariant.kept tells;
  size = c.read_onto.ensures.size ∙ c.loop-j.invariant.size;
  calls =
      one-read _ c.args.first c.loop-j.j c.loop-j.target _ c.read_onto.new.target _ _ _ c.loop-j.invariant.calls
      c.in_ok-read_onto.ensures.step
      (λ k h.
      block_at-before c.loop-j.target c.read_onto.new.target c.loop-j.j k (omega arith) c.read_onto.ensures.len h)
      (block_at-put c.loop-j.target c.read_onto.new.target c.loop-j.j (omega arith) c.read_onto.ensures.len);
  failures = c.in_ok-read_onto.ensures.count.done refl ∙ c.loop-j.invariant.failures;
}

pub returns-in_err-read_onto-clause-reads : goal.returns-in_err-read_onto-clause-reads
returns-in_err-read_onto-clause-reads g c =
    let p = err_from_is_err_and c.from_residual.result c.from_residual.ensures.1 in
    let content = (g.Self.Medium.device c.args.self.now).content in
    let same : put_mid (512 * c.loop-j.j)
    (512 * c.loop-j.j + 512 - 512 * c.loop-j.j) c.loop-j.target c.read_onto.new.target ≡ c.loop-j.target =
    put-same c.loop-j.target c.read_onto.new.target c.loop-j.j (omega arith) c.in_err-read_onto.ensures.err in
    subst
    (λ left. ReadsBlocks g.Self.Medium.step g.Self.Medium.tells content c.args.first (length c.args.target.now / 512)
    c.args.target.now left c.args.self.now c.from_residual.result c.read_onto.new.self) (sym same)
    (read-failed _ g.Self.Medium.tells c.args.first c.loop-j.j _ _ _ c.loop-j.target _ _ _ _ _ c.loop-j.invariant.read
    c.loop-j.invariant.calls
    (ap (reads_from c.args.first c.loop-j.target c.loop-j.j) (ap Err (sym p.2) ∙ sym p.1))
    c.in_err-read_onto.ensures.step (omega arith) (omega arith) c.from_residual.ensures.0)

pub returns-clause-reads : goal.returns-clause-reads
returns-clause-reads g c =
    all-read _ g.Self.Medium.tells c.args.first c.loop-j.j _ _ _ c.loop-j.target _ _ c.loop-j.invariant.read
    c.loop-j.invariant.calls (omega arith) (omega arith)
