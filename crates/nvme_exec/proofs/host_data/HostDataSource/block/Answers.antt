use Rattle.std.proofs.Common.{◌∙◌}
use Rattle.nvme_spec.specs.Transfers.{addresses}
use Rattle.nvme_exec.proofs.Transferring.{gathered_bytes-block}
use Rattle.nvme_exec.proofs.host_data.HostDataSource.block.Goals as goal

pub returns : goal.returns
returns c = c.lend_block.ensures.block
    ∙ gathered_bytes-block c.args.self.now.window.now (addresses c.args.self.now.pieces.now.parts.items) c.args.j
