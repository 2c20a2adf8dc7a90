use Rattle.nvme_admin.proofs.Structures.{controller}
use Rattle.nvme_admin.proofs.identify.fill_controller.Goals as goal

pub returns-clause-filled : goal.returns-clause-filled
returns-clause-filled c =
    controller c.args.structure.now c.fill_names.new.structure c.fill_kind.new.structure c.fill_commands.new.structure
    c.args.cntlid c.requires.zeros
    c.fill_names.ensures.filled c.fill_kind.ensures.filled c.fill_commands.ensures.filled
