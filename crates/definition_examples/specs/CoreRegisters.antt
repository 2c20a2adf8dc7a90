-- The registers after a write of Controller Configuration that enables a controller, for worked examples.
use Rattle.nvme_spec.specs.declared.registers.ControllerState.TheVariants.{Ready}
use Rattle.nvme_spec.specs.declared.registers.RegEffect.TheVariants.{Enable}
use Rattle.nvme_spec.specs.Registers.{Registers, Written}
use Rattle.nvme_regs.specs.Configuring.{Leaves}

-- the write, as its parts are known
abbrev pub CoreLeaves : Registers → Written → Type 0
CoreLeaves r w = Leaves r w (record { cc = 0x460001; state = Ready; effect = Enable })

-- CC and the state are those of the write, and the other registers stay
abbrev pub core_enabled : Registers → Written
core_enabled r = record { registers = record r { cc = 0x460001; state = Ready }; effect = Enable }
