use Rattle.nvme_live.proofs.Takings.{cut-last, cut-middle}
use Rattle.nvme_live.proofs.reading.cut.Goals as goal

pub returns-then-len-bytes : goal.returns-then-len-bytes
returns-then-len-bytes c = cut-last c.args.bytes.now c.line_len-len.result c.line_len-len.ensures c.if-len-bytes.true

pub returns-else-len-eq0 : goal.returns-else-len-eq0
returns-else-len-eq0 c =
    cut-middle c.args.bytes.now c.line_len-len.result c.line_len-len.ensures c.if-len-bytes.false c.if-len-eq0.false
