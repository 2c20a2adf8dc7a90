use Rattle.std.proofs.Common.{[], sym, ◌∙◌, arith}
use Rattle.nvme_connection.specs.Connections.{at_stage}
use Rattle.nvme_connection.specs.declared.stage.Stage.TheVariants.{Taking}
use Rattle.nvme_connection.proofs.Data.{fresh-holds, fresh-takes, takes-nothing}
use Rattle.nvme_connection.proofs.Gathering.{ended-stops, whole-stops}
use Rattle.nvme_connection.proofs.connection.Connection.take.Goals as goal

pub returns-else-is_empty-clause-takes : goal.returns-else-is_empty-clause-takes
returns-else-is_empty-clause-takes c = λ d h.
    fresh-takes d c.args.bytes.now c.take_more-in-Complete.result c.take_more-in-Complete.new.self (sym h.stage
    ∙ c.in-Complete.is) (grind (arith, c.is_empty.ensures, c.if-is_empty.false))
    (c.take_more-in-Complete.ensures.takes (at_stage Taking d []) (fresh-holds c.args.self.now d h))

pub returns-in-Whole-clause-takes : goal.returns-in-Whole-clause-takes
returns-in-Whole-clause-takes c = λ d h.
    takes-nothing d c.args.bytes.now c.args.self.now c.without_data-in-Whole.result h
    (whole-stops d c.args.bytes.now (sym h.stage ∙ c.in-Whole.is))
    c.without_data-in-Whole.ensures.count c.without_data-in-Whole.ensures.breach
    c.without_data-in-Whole.ensures.begin c.without_data-in-Whole.ensures.end c.without_data-in-Whole.ensures.offset

pub returns-in-Ended-clause-takes : goal.returns-in-Ended-clause-takes
returns-in-Ended-clause-takes c = λ d h.
    takes-nothing d c.args.bytes.now c.args.self.now c.without_data-in-Ended.result h
    (ended-stops d c.args.bytes.now (sym h.stage ∙ c.in-Ended.is))
    c.without_data-in-Ended.ensures.count c.without_data-in-Ended.ensures.breach
    c.without_data-in-Ended.ensures.begin c.without_data-in-Ended.ensures.end c.without_data-in-Ended.ensures.offset
