use Rattle.std.proofs.Common.{rules}
use Rattle.nvme_driver.proofs.Risen.{rises-not, rises-first, rises-second, rises-up}
use Rattle.nvme_driver.proofs.driver.Driver.bring_up.Goals as goal

pub returns-then-not-start-clause-rises : goal.returns-then-not-start-clause-rises
returns-then-not-start-clause-rises g c =
    λ u.
    rises-not g.P.Port.step c.args.self.now _ _ _ c.if-not-start.ensures.calls c.start.ensures.driver

pub returns-in_err-judge-clause-rises : goal.returns-in_err-judge-clause-rises
returns-in_err-judge-clause-rises g c =
    λ u.
    rises-first g.P.Port.step c.args.self.now c.start.new.self _ _ _ _ _ c.create.result c.judge.result
    c.from_residual.result c.in_err-judge.field-0.0 c.if-not-start.ensures.calls c.start.ensures.driver
    c.completion_queue.ensures c.create.ensures.creates c.judge.ensures c.in_err-judge.was (search rules)

pub returns-in_err-judge-2-clause-rises : goal.returns-in_err-judge-2-clause-rises
returns-in_err-judge-2-clause-rises g c =
    λ u. rises-second g.P.Port.step c.args.self.now c.start.new.self _ _ _ _ _ _ _ _ c.create.result
    c.create-2.result c.judge.result c.judge-2.result c.from_residual-in_err-judge-2.result c.in_err-judge-2.field-0.0
    c.if-not-start.ensures.calls c.start.ensures.driver c.completion_queue.ensures c.create.ensures.creates
    c.judge.ensures c.in_ok-judge.was c.submission_queue.ensures c.create-2.ensures.creates c.judge-2.ensures
    c.in_err-judge-2.was (search rules)

pub returns-clause-rises : goal.returns-clause-rises
returns-clause-rises g c =
    λ u. rises-up g.P.Port.step c.args.self.now c.start.new.self _ _ _ _ _ _ _ _ _ c.create.result
    c.create-2.result c.judge.result c.judge-2.result c.if-not-start.ensures.calls c.start.ensures.driver
    c.completion_queue.ensures c.create.ensures.creates c.judge.ensures c.in_ok-judge.was c.submission_queue.ensures
    c.create-2.ensures.creates c.judge-2.ensures c.in_ok-judge-2.was (search rules)
