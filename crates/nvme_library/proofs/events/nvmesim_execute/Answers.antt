use Rattle.std.proofs.Common.{sym, subst, true}
use Rattle.nvme_machine.specs.declared.event.Event.TheVariants.{Execute}
use Rattle.nvme_machine.specs.Bare.{seen_with}
use Rattle.nvme_library.specs.Holding.{Inside}
use Rattle.nvme_library.specs.Whole.{AreWhole}
use Rattle.nvme_library.proofs.Whole.{step_keeps_whole}
use Rattle.nvme_library.proofs.events.nvmesim_execute.Goals as goal

pub of-requires : goal.of-requires
of-requires c =
    let before = subst (λ (s : Inside). AreWhole s.state) (sym c.deref_mut.ensures.value) c.in-Some.ensures.whole in
    let x = c.execute-seen in
    step_keeps_whole true _ x.new.self.state (Execute c.args.cntlid c.args.i)
    (seen_with x.ensures.marks x.result) x.ensures.executes before
