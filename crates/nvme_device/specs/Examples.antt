-- Data structures of the worked examples: those that QEMU's controller returns, and others that differ in one field.
use Rattle.std.specs.Prelude.{ℕ}
use Rattle.nvme_device.specs.declared.controller.ControllerFacts.{ControllerFacts}
use Rattle.nvme_device.specs.declared.namespace.NamespaceFacts.{NamespaceFacts}
use Rattle.nvme_device.specs.declared.admission.Span.{Span}

-- what QEMU's controller supports: ONCS is 15dh, and 2 ^ 7 pages a command
abbrev pub qemu : ControllerFacts
qemu = record { nn = 256; cntlid = 0; oncs = 0x15d; mdts = 7; vwc = 7 }

-- a namespace of 131,072 blocks
abbrev pub disk : NamespaceFacts
disk = record { blocks = 131072 }

-- blocks from this one, with this number of bytes to transfer
abbrev pub span : ℕ → ℕ → ℕ → Span
span first count moved = record { slba = first; blocks = count; bytes = moved }
