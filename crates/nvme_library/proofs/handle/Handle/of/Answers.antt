use Rattle.std.proofs.Common.{◌∙◌, sym, ap, subst, Some, is_some}
use Rattle.nvme_library.specs.Whole.{HoldsWhole}
use Rattle.nvme_library.proofs.handle.Handle.of.Goals as goal

pub invariant_of-result : goal.invariant_of-result
invariant_of-result c =
    let is = c.of-2.ensures ∙ ap Some c.of.ensures in
    record { told = ap is_some is; whole = subst HoldsWhole (sym is) c.requires }
