-- Data buffers by their numbers for C: BUFFER_AT_ONCE, and n + 1 for the n-th of held commands.
use Rattle.std.specs.Prelude.{ℕ, ◌-◌, ◌==◌, if◌then◌else◌}
use Rattle.nvme_data_buffers.specs.declared.buffer.DataBuffer.{DataBuffer}
use Rattle.nvme_data_buffers.specs.declared.buffer.DataBuffer.TheVariants.{AtOnce, Held}

abbrev pub buffer_of : ℕ → DataBuffer
buffer_of number = if number == 0 then AtOnce else Held (number - 1)
