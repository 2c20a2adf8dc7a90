-- The result of a write of CC, for the contracts of its parts: CC, the state and the effect. The other registers stay.
use Rattle.std.specs.Prelude.{◌≡◌}
use Rattle.nvme_spec.specs.Registers.{Registers, Written, written}
use Rattle.nvme_regs.specs.declared.registers.writes.Configured.{Configured}

abbrev pub Leaves : Registers → Written → Configured → Type 0
Leaves r w c = w ≡ written (record r { cc = c.cc; state = c.state }) c.effect
