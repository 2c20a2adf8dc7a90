use Rattle.std.proofs.Common.{◌≤◌, ◌∙◌, length, ap, arith}
use Rattle.nvme_machine.specs.Subsystems.{controller_at}
use Rattle.nvme_subsys.proofs.Numbers.{none-at-zero, none-past}
use Rattle.nvme_subsys.proofs.subsystem.Subsystem.index_of.Goals as goal

pub returns-then-cntlid-eq0-clause-none : goal.returns-then-cntlid-eq0-clause-none
returns-then-cntlid-eq0-clause-none g c =
    ap (controller_at c.args.self.now.state) c.if-cntlid-eq0.true ∙ none-at-zero c.args.self.now.state

pub returns-then-index-len-clause-none : goal.returns-then-index-len-clause-none
returns-then-index-len-clause-none g c =
    let past : length c.self.inside.controllers.items ≤ c.from-index.result =
    omega (arith, c.if-index-len.true, c.len.ensures) in
    none-past c.args.self.now.state c.args.cntlid c.from-index.result
    (omega (arith, c.from-index.ensures, c.if-cntlid-eq0.false)) (rw (← c.self.view_is) past)
