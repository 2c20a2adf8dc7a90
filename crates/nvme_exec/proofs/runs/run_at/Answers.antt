use Rattle.std.proofs.Common.{sym}
use Rattle.nvme_exec.proofs.SideBySide.{run-is}
use Rattle.nvme_exec.proofs.runs.run_at.Goals as goal

pub returns-in-One : goal.returns-in-One
returns-in-One c =
    run-is c.args.pieces.now.parts.items c.args.j c.args.most c.in-One.address c.min-blocks.result
    c.args.pieces.now.pages c.requires.some c.requires.inside (sym c.in-One.ensures.place) c.min-blocks.ensures
