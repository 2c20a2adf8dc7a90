use Rattle.std.proofs.Common.{sym, subst}
use Rattle.nvme_spec.specs.MediumCalls.{MakesCalls}
use Rattle.nvme_machine.specs.declared.seen.Seen.TheVariants.{Executed}
use Rattle.nvme_machine.specs.Bare.{executed_with}
use Rattle.nvme_machine.specs.Subsystems.{ExecutesAt, controller_at}
use Rattle.nvme_machine.specs.EventCalls.{CallingAt}
use Rattle.nvme_subsys.proofs.Numbers.{none-calling}
use Rattle.nvme_subsys.proofs.subsystem.Subsystem.execute_into.Goals as goal

pub returns-in_default-clause-calls : goal.returns-in_default-clause-calls
returns-in_default-clause-calls g c = none-calling g.M.Medium.step c.args.self.now.medium g.M.Medium.tells
    c.args.self.now.state c.args.cntlid c.args.i c.in_default.ensures.none

pub returns-clause-executes : goal.returns-clause-executes
returns-clause-executes g c =
    subst (λ n. ExecutesAt (controller_at c.args.self.now.state n) g.M.Medium.tells c.args.self.now.state n c.args.i
    (Executed (executed_with c.execute_at.new.marks c.execute_at.result)) c.execute_at.new.self.state)
    (sym c.in-Some.ensures.some.0) c.execute_at.ensures.executes

pub returns-clause-calls : goal.returns-clause-calls
returns-clause-calls g c =
    subst (λ n. MakesCalls g.M.Medium.step (CallingAt (controller_at c.args.self.now.state n) g.M.Medium.tells
    c.args.self.now.state n c.args.i (Executed (executed_with c.execute_at.new.marks c.execute_at.result))
    c.execute_at.new.self.state) c.args.self.now.medium c.execute_at.new.self.medium)
    (sym c.in-Some.ensures.some.0) c.execute_at.ensures.calls
