use Rattle.std.proofs.Common.{sym, subst, Option, Some}
use Rattle.nvme_library.specs.Completing.{AlwaysCompletes, CompletesBy}
use Rattle.nvme_library.specs.Events.{Executing}
use Rattle.nvme_library.specs.Holding.{Inside}
use Rattle.nvme_library.specs.Whole.{AreWhole}
use Rattle.nvme_library.proofs.Consuming.{completes_and_answers, completes_whole}
use Rattle.nvme_library.proofs.completing.nvmesim_complete.Goals as goal

pub of-requires : goal.of-requires
of-requires c =
    let before = subst (λ (s : Inside). AreWhole s.state) (sym c.deref_mut.ensures.value) c.in-Some.ensures.whole in
    let x = c.complete_in-completed in
    completes_whole c.args.cntlid c.args.i c.deref_mut.result.now x.new.subsystem x.result c.args.completion.now
    x.new.completion x.ensures before

pub returns-clause-answers : goal.returns-clause-answers
returns-clause-answers c =
    let x = c.complete_in-completed in
    let k = c.args.cntlid in
    let i = c.args.i in
    let old = c.in-Some.subsystem.value in
    let completes = subst (λ (s : Inside). CompletesBy (Executing k i) k i s x.result c.args.completion.now
    x.new.completion x.new.subsystem) c.deref_mut.ensures.value x.ensures in
    subst (λ (held : Option Inside). AlwaysCompletes k i held x.result x.new.completion c.of.result.slot.value)
    (sym c.in-Some.ensures.some)
    (subst (λ (held : Option Inside). AlwaysCompletes k i (Some old) x.result x.new.completion held)
    (sym c.of.ensures.open) (completes_and_answers k i old x.new.subsystem x.result c.args.completion.now
    x.new.completion c.in-Some.ensures.whole c.told-completion completes))
