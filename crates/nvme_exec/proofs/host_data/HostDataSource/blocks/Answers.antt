use Rattle.std.proofs.Common.{arith}
use Rattle.nvme_exec.proofs.SideBySide.{run-bytes}
use Rattle.nvme_exec.proofs.host_data.HostDataSource.blocks.Goals as goal

pub returns-in-Some-clause-bytes : goal.returns-in-Some-clause-bytes
returns-in-Some-clause-bytes c =
    let size = c.bytes.ensures.whole_len in
    let r = c.in-Some.ensures in
    let lies = r.lies in
    run-bytes c.args.self.now.pieces.now.parts.items c.args.j c.args.most c.in-Some.run' c.args.self.now.window.now
    c.bytes.result.now r (omega arith) c.bytes.ensures.bytes c.bytes.ensures.len
