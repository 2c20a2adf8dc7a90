use Rattle.nvme_spec.specs.Configuration.{capacity}
use Rattle.nvme_script.proofs.Ending.{early_fault}
use Rattle.nvme_script.proofs.run.run_reasoned.Goals as goal

pub returns-in-Err-clause-fault : goal.returns-in-Err-clause-fault
returns-in-Err-clause-fault g c =
    let fault = c.in-Err.refusal.fault in
    let size = capacity c.args.max_blocks (g.M.Medium.size c.args.medium) in
    early_fault g.M.Medium.step g.M.Medium.tells g.M.Medium.device g.W.Sink.step g.W.Sink.contents
    c.args.text.now size c.args.medium c.args.medium c.args.writer.now c.args.writer.now fault c.in-Err.ensures.early
    (c.in-Err.ensures.fault size)
