-- The contract on the effect of `write32` follows from that of `write`.
use Rattle.std.proofs.Common.{subst}
use Rattle.nvme_spec.specs.Registers.{Written}
use Rattle.nvme_spec.specs.RegisterLaws.{TellsItsEffect, NamesQueue}
use Rattle.nvme_spec.proofs.RegisterEffects.{effects_tell, doorbells_name_queues}
use Rattle.nvme_regs.proofs.registers.Registers.write32.Goals as goal

pub returns-clause-tells : goal.returns-clause-tells
returns-clause-tells c =
    let r = c.args.self.now in
    subst (λ (w : Written). TellsItsEffect r c.args.offset c.args.v w.registers w.effect) c.write.ensures.written
    (effects_tell r c.args.offset c.args.v c.write.ensures.consistent)

pub returns-clause-names : goal.returns-clause-names
returns-clause-names c =
    subst (λ (w : Written). NamesQueue w.effect) c.write.ensures.written
    (doorbells_name_queues c.args.self.now c.args.offset c.args.v)
