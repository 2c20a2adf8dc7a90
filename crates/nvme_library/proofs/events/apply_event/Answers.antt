use Rattle.std.proofs.Common.{sym, subst, true}
use Rattle.nvme_machine.specs.Bare.{seen_of}
use Rattle.nvme_library.specs.Holding.{Inside}
use Rattle.nvme_library.specs.Whole.{AreWhole}
use Rattle.nvme_library.proofs.Whole.{step_keeps_whole}
use Rattle.nvme_library.proofs.events.apply_event.Goals as goal

pub of-requires : goal.of-requires
of-requires c =
    let before = subst (λ (s : Inside). AreWhole s.state) (sym c.deref_mut.ensures.value) c.in-Some.ensures.whole in
    let x = c.react-seen in
    step_keeps_whole true _ x.new.self.state c.args.event (seen_of x.result) x.ensures.step before
