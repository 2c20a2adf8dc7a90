use Rattle.nvme_spec.specs.Configuration.{capacity}
use Rattle.std.proofs.Common.{ap, ◌∙◌}
use Rattle.nvme_live.specs.SetUps.{numbered_reason, set_up_of}
use Rattle.nvme_live.specs.Streams.{SendsBy}
use Rattle.nvme_live.proofs.Starting.{refused-start, unsaid-start}
use Rattle.nvme_live.proofs.session.start.Goals as goal

pub returns-in-Err-send-clause-fault : goal.returns-in-Err-send-clause-fault
returns-in-Err-send-clause-fault g c =
    unsaid-start (SendsBy g.W.Sink.step g.W.FlushedSink.flushes g.W.Sink.contents) c.in-Err-send.unsaid
    (capacity c.args.max_blocks (g.M.Medium.size c.args.medium)) (g.M.Medium.device c.args.medium) c.args.number
    (set_up_of c.args.config.now c.args.numbers.now) c.args.writer.now c.send.new.writer
    c.in-Ok.ensures.accepted c.in-Err-send.ensures

pub returns-in-Err-clause-fault : goal.returns-in-Err-clause-fault
returns-in-Err-clause-fault g c =
    let set = set_up_of c.args.config.now c.args.numbers.now in
    let fault = c.in-Err.field-0.fault in
    let because = c.numbered_reason-reason.ensures ∙ ap (λ b. numbered_reason set (capacity c.args.max_blocks b))
    (c.blocks-in-Err.ensures ∙ ap g.M.Medium.size c.in-Err.ensures.kept) in
    refused-start (SendsBy g.W.Sink.step g.W.FlushedSink.flushes g.W.Sink.contents) c.refuse_start-answered.result
    (capacity c.args.max_blocks (g.M.Medium.size c.args.medium)) (g.M.Medium.device c.args.medium) c.args.number set
    fault c.numbered_reason-reason.result c.args.writer.now c.refuse_start-answered.new.writer
    c.in-Err.ensures.fault because c.refuse_start-answered.ensures
