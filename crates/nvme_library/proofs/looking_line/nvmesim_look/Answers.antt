use Rattle.std.proofs.Common.{sym, subst}
use Rattle.live_text.specs.Looking.{is_looking}
use Rattle.nvme_library.specs.Holding.{Inside}
use Rattle.nvme_library.specs.Whole.{AreWhole}
use Rattle.nvme_library.proofs.LookingLines.{answers-whole}
use Rattle.nvme_library.proofs.looking_line.nvmesim_look.Goals as goal

pub of-requires : goal.of-requires
of-requires c =
    let before = subst (λ (s : Inside). AreWhole s.state) (sym c.deref_mut.ensures.value) c.in-Some.ensures.whole in
    let x = c.answer_line-written in
    answers-whole (is_looking c.args.line.now) c.args.number c.args.line.now _ x.result _ _ x.new.subsystem
    x.ensures before
