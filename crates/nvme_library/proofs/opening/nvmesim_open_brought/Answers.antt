use Rattle.std.proofs.Common.{sym, subst}
use Rattle.nvme_library.specs.Whole.{AreWhole}
use Rattle.nvme_library.proofs.Whole.{opening_is_whole}
use Rattle.nvme_library.proofs.opening.nvmesim_open_brought.Goals as goal

pub of-requires-in-Ok : goal.of-requires-in-Ok
of-requires-in-Ok c = subst AreWhole (sym c.in-Ok.ensures.opened.state) (opening_is_whole _ _)
