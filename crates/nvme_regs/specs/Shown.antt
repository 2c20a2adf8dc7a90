-- The registers, as contracts see them.
use Rattle.nvme_spec.specs.Registers.{Registers}
use Rattle.nvme_regs.specs.declared.registers.Registers.TheInside.{Inside}

abbrev pub shown : Inside → Registers
shown r = record { cc = r.cc; state = r.state; aqa = r.aqa; asq = r.asq; acq = r.acq }
