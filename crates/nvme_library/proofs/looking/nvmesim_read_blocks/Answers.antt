use Rattle.std.proofs.Common.{sym, subst, true}
use Rattle.nvme_library.specs.Holding.{Inside}
use Rattle.nvme_library.specs.Whole.{AreWhole}
use Rattle.nvme_library.proofs.Whole.{looks_whole}
use Rattle.nvme_library.proofs.looking.nvmesim_read_blocks.Goals as goal

pub of-requires : goal.of-requires
of-requires c =
    let before = subst (λ (s : Inside). AreWhole s.state) (sym c.deref_mut.ensures.value) c.in-Some.ensures.whole in
    looks_whole true _ _ c.read_blocks-looked.new.self.state _ _ c.read_blocks-looked.ensures.look before
