use Rattle.std.proofs.Common.{◌∙◌, sym, ap, subst, Some}
use Rattle.nvme_library.specs.Whole.{HoldsWhole}
use Rattle.nvme_library.proofs.handle.Handle.take.Goals as goal

pub returns-then-is_open-clause-whole : goal.returns-then-is_open-clause-whole
returns-then-is_open-clause-whole c =
    subst HoldsWhole (c.into_pointer.ensures ∙ ap Some (sym c.into_box.ensures)) c.replace-slot.result.whole
