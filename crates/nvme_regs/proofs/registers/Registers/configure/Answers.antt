-- A write of CC keeps registers consistent.
use Rattle.std.proofs.Common.{ap, subst}
use Rattle.nvme_spec.specs.Registers.{Written}
use Rattle.nvme_spec.specs.RegisterLaws.{IsConsistent}
use Rattle.nvme_spec.proofs.RegisterLaws.{configured_consistent}
use Rattle.nvme_regs.proofs.registers.Registers.configure.Goals as goal

pub invariant_of-self : goal.invariant_of-self
invariant_of-self c =
    let leaves = rw (← c.self.view_is) at c.configured-cc.ensures in
    subst IsConsistent (ap (λ (w : Written). w.registers) leaves) (configured_consistent _ c.args.v c.self.invariant)
