use Rattle.std.proofs.Common.{sym, subst}
use Rattle.nvme_library.specs.Whole.{AreWhole}
use Rattle.nvme_library.proofs.Whole.{opening_is_whole}
use Rattle.nvme_library.proofs.opening.nvmesim_open.Goals as goal

pub of-requires : goal.of-requires
of-requires c = subst AreWhole (sym c.in-Ok-opened.ensures.opened.state) (opening_is_whole _ _)
