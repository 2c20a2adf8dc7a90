use Rattle.std.proofs.Common.{◌∙◌, ap, sym, subst, Ok, Err}
use Rattle.nvme_spec.specs.Blocks.{block_at}
use Rattle.nvme_medium.proofs.Kept.{
  Keeps-promoted,
  Keeps-changed,
  Fits-promoted,
  steps-found,
  steps-missed,
  steps-failed,
}
use Rattle.nvme_medium.specs.Cached.{StepsBehind}
use Rattle.std.specs.Option.{option_copied}
use Rattle.std.proofs.lemmas.Result.{err_from_is_err_and}
use Rattle.nvme_spec.specs.MediumCalls.{Reads, read_answer}
use Rattle.nvme_medium.proofs.cached.CachedMedium.read_onto.Goals as goal

pub invariant_of-self : goal.invariant_of-self
invariant_of-self g c = record {
  coherent = λ tells. rw c.get.follows.holds-at-none
      (Keeps-promoted c.args.i c.args.self.now.kept.entries _ (c.args.self.now.coherent tells));
  fits = Fits-promoted c.args.i _ _ c.get.follows.holds-at-none c.args.self.now.fits;
}

pub invariant_of-self-in-Break-1 : goal.invariant_of-self-in-Break-1
invariant_of-self-in-Break-1 g c = record {
  coherent = λ tells. rw (c.get.follows.holds-at-none, c.read.ensures.kept tells)
      (Keeps-promoted c.args.i c.args.self.now.kept.entries _ (c.args.self.now.coherent tells));
  fits = Fits-promoted c.args.i _ _ c.get.follows.holds-at-none c.args.self.now.fits;
}

pub invariant_of-self-2 : goal.invariant_of-self-2
invariant_of-self-2 g c = record {
  coherent = λ tells.
      let same = c.read.ensures.kept tells in
      let before = Keeps-promoted c.args.i c.args.self.now.kept.entries _ (c.args.self.now.coherent tells) in
      let is = c.in_ok-read.ensures.ok tells ∙ ap (λ x. block_at x c.args.i) (sym same) in
      Keeps-changed c.args.i c.get.follows.lender-at-none.entries c.keep.new.kept.entries _
      (λ j b ne. rw (c.get.follows.holds-at-none, same) (before j b))
      (λ b found. c.keep.ensures.this b found ∙ is) c.keep.ensures.others;
  fits = c.keep.ensures.fits (Fits-promoted c.args.i _ _ c.get.follows.holds-at-none c.args.self.now.fits);
}

pub returns-in-Some-clause-step : goal.returns-in-Some-clause-step
returns-in-Some-clause-step g c =
    subst (λ b. StepsBehind g.M.Medium.step c.args.self.now.kept c.args.self.now.inner
    (Reads c.args.i (Ok b)) c.get.follows.lender-at-none c.args.self.now.inner)
    (sym c.copy_from_slice.ensures.after)
    (steps-found _ c.args.i _ _ _ _ _ c.get.ensures.value (ap option_copied c.in-Some.is) c.get.follows.holds-at-none
    (Fits-promoted c.args.i _ _ c.get.follows.holds-at-none c.args.self.now.fits))

pub returns-in_err-read-clause-step : goal.returns-in_err-read-clause-step
returns-in_err-read-clause-step g c =
    let p = err_from_is_err_and c.from_residual.result c.from_residual.ensures.1 in
    subst (λ a. StepsBehind g.M.Medium.step c.args.self.now.kept c.args.self.now.inner
    (Reads c.args.i (read_answer a c.args.target.now)) c.get.follows.lender-at-none c.read.new.self)
    (ap Err (sym p.2) ∙ sym p.1)
    (steps-failed _ c.args.i _ _ _ _ _ _ c.get.ensures.value
    (ap option_copied c.in_default.is) c.in_err-read.ensures.step
    c.get.follows.holds-at-none (Fits-promoted c.args.i _ _ c.get.follows.holds-at-none c.args.self.now.fits))

pub returns-clause-step : goal.returns-clause-step
returns-clause-step g c =
    subst (λ b. StepsBehind g.M.Medium.step c.args.self.now.kept c.args.self.now.inner
    (Reads c.args.i (Ok b)) c.keep.new.kept c.read.new.self)
    (sym c.copy_from_slice-2.ensures.after)
    (steps-missed _ c.args.i _ _ _ _ _ c.read.new.buffer _ c.get.ensures.value
    (ap option_copied c.in_default.is) c.in_ok-read.ensures.step
    c.get.follows.holds-at-none c.keep.ensures.this c.keep.ensures.others c.keep.ensures.capacity
    (c.keep.ensures.fits (Fits-promoted c.args.i _ _ c.get.follows.holds-at-none c.args.self.now.fits)))
