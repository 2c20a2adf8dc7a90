-- Registers of the worked examples.
use Rattle.std.specs.Prelude.{[], ◌∷◌}
use Rattle.nvme_spec.specs.Registers.{Registers, initial_registers, after_writes}

-- an admin submission queue of 8 entries at 0, and an admin completion queue of 32 entries at 1000h
abbrev pub prepared_registers : Registers
prepared_registers =
    after_writes initial_registers
    ((0x24, 0x001f0007) ∷ (0x28, 0) ∷ (0x2c, 0) ∷ (0x30, 0x1000) ∷ (0x34, 0) ∷ [])

-- the same, enabled
abbrev pub ready_registers : Registers
ready_registers = after_writes prepared_registers ((0x14, 0x00460001) ∷ [])
