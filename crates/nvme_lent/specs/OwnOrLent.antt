-- A medium over its own blocks, over borrowed bytes or over brought blocks, as contracts see it.
use Rattle.std.specs.Prelude.{◌≡◌, ◌<◌, ◌^◌, ℕ, ◌*◌, List, length, Option, Some, None, option_map}
use denote.RawPtr.{Ptr}
use Rattle.nvme_spec.specs.Blocks.{Device}
use Rattle.nvme_spec.specs.MediumCalls.{MediumCall}
use Rattle.nvme_medium.specs.Memory.{memory_bytes, memory_step}
use Rattle.nvme_brought.specs.Brought.{content_of, brought_step, HasNothing}
use Rattle.nvme_brought.specs.Whole.{content_is_whole}
use Rattle.nvme_lent.specs.Bytes.{extent}
use Rattle.nvme_lent.specs.Lent.{bytes_lent, lent_bytes, lent_step, has_whole_blocks}
use Rattle.nvme_lent.specs.declared.bytes.LentBytes.{LentBytes}
use Rattle.nvme_lent.specs.declared.either.OwnOrLent.{OwnOrLent}
use Rattle.nvme_lent.specs.declared.either.OwnOrLent.TheVariants.{Own, Lent, Brought}

-- the bytes of all blocks
abbrev pub bytes_of : OwnOrLent → List ℕ
bytes_of (Own m) = memory_bytes m
bytes_of (Lent m) = lent_bytes m
bytes_of (Brought m) = content_of m

abbrev pub blocks_of : OwnOrLent → ℕ
blocks_of (Own m) = m.blocks
blocks_of (Lent m) = m.blocks
blocks_of (Brought m) = m.disk.blocks

-- the number of failed calls: none fails in memory
abbrev pub failures_of : OwnOrLent → ℕ
failures_of (Own m) = 0
failures_of (Lent m) = 0
failures_of (Brought m) = m.failures

-- the medium as the definitions see it
abbrev pub device_of : OwnOrLent → Device
device_of m = record { content = bytes_of m; failures = failures_of m }

-- each call is one call of the inner medium, which stays what it is
abbrev pub step_of : OwnOrLent → MediumCall → OwnOrLent → Type 0
step_of (Own old) call (Own new) = memory_step old call new
step_of (Own old) call (Lent new) = ⊥
step_of (Own old) call (Brought new) = ⊥
step_of (Lent old) call (Own new) = ⊥
step_of (Lent old) call (Lent new) = lent_step old call new
step_of (Lent old) call (Brought new) = ⊥
step_of (Brought old) call (Own new) = ⊥
step_of (Brought old) call (Lent new) = ⊥
step_of (Brought old) call (Brought new) = brought_step old call new

abbrev pub countable_of : (m : OwnOrLent) → blocks_of m < 2 ^ 64
countable_of (Own m) = m.countable
countable_of (Lent m) = m.countable
countable_of (Brought m) = m.countable

abbrev pub whole_of : (m : OwnOrLent) → length (bytes_of m) ≡ 512 * blocks_of m
whole_of (Own m) = m.whole
whole_of (Lent m) = has_whole_blocks m
whole_of (Brought m) = content_is_whole m

-- the bytes of a medium over borrowed bytes, as they are now
abbrev pub lent_of : OwnOrLent → Option LentBytes
lent_of (Own m) = None
lent_of (Lent m) = Some (bytes_lent m)
lent_of (Brought m) = None

-- their address and length
abbrev pub extent_of : OwnOrLent → Option (Ptr × ℕ)
extent_of m = option_map extent (lent_of m)

-- a medium in memory, of which no call fails
abbrev pub IsInMemory : OwnOrLent → Type 0
IsInMemory (Own m) = Unit {0}
IsInMemory (Lent m) = Unit {0}
IsInMemory (Brought m) = ⊥

-- a medium of brought blocks that has none at hand
abbrev pub NothingIsAtHand : OwnOrLent → Type 0
NothingIsAtHand (Own m) = ⊥
NothingIsAtHand (Lent m) = ⊥
NothingIsAtHand (Brought m) = HasNothing m
