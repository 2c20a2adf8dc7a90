use Rattle.std.proofs.Common.{sym, subst, refl, Option}
use Rattle.nvme_library.specs.Holding.{Inside}
use Rattle.nvme_library.specs.Submitting.{AlwaysAnswers, SubmitsTo}
use Rattle.nvme_library.specs.Whole.{AreWhole}
use Rattle.nvme_library.proofs.Answering.{submits_whole, submits_and_answers}
use Rattle.nvme_library.proofs.submitting.nvmesim_submit.Goals as goal

pub of-requires : goal.of-requires
of-requires c =
    let before = subst (λ (s : Inside). AreWhole s.state) (sym c.deref_mut.ensures.value) c.in-Some.ensures.whole in
    let x = c.submit_to-answer in
    submits_whole c.args.cntlid c.args.qid c.args.entry.now c.args.completion.now x.new.completion
    c.deref_mut.result.now x.new.subsystem x.result x.ensures before

pub returns-clause-answers : goal.returns-clause-answers
returns-clause-answers c =
    let x = c.submit_to-answer in
    let k = c.args.cntlid in
    let entry = c.args.entry.now in
    let submits = subst (λ (s : Inside). SubmitsTo k c.args.qid entry s x.result c.args.completion.now
    x.new.completion x.new.subsystem) c.deref_mut.ensures.value x.ensures in
    subst (λ (held : Option Inside). AlwaysAnswers k c.args.qid entry held x.result x.new.completion)
    (sym c.in-Some.ensures.some)
    (submits_and_answers _ k c.args.qid entry c.args.completion.now x.new.completion c.in-Some.subsystem.value
    x.new.subsystem x.result c.in-Some.ensures.whole refl c.told-entry c.told-completion submits)
