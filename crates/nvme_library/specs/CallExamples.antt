-- Statements of worked examples: which calls of the medium an execution, a power cycle and a read of blocks make.
use Rattle.std.specs.Prelude.{◌≡◌, ◌≢◌, [], ◌∷◌, List, Ok, Some, ℕ, replicate, true}
use Rattle.nvme_spec.specs.Statuses as status
use Rattle.nvme_brought.specs.Brought.{content_of, HasNothing}
use Rattle.nvme_brought.specs.declared.medium.BroughtMedium.{BroughtMedium}
use Rattle.nvme_brought.specs.declared.room.Room.{Room}
use Rattle.nvme_lent.specs.OwnOrLent.{bytes_of, IsInMemory}
use Rattle.nvme_lent.specs.declared.either.OwnOrLent.{OwnOrLent}
use Rattle.nvme_lent.specs.declared.either.OwnOrLent.TheVariants.{Brought}
use Rattle.nvme_machine.specs.declared.bare.BareExecuted.TheVariants.{Posted}
use Rattle.nvme_machine.specs.declared.bare.BareSeen.{BareSeen}
use Rattle.nvme_machine.specs.declared.bare.BareSeen.TheVariants.{Cycled, Executed}
use Rattle.nvme_machine.specs.declared.event.Event.TheVariants.{Execute}
use Rattle.nvme_machine.specs.Examples.{a_flush, a_write, having}
use Rattle.nvme_machine.specs.FaultFree.{fault_free_step}
use Rattle.nvme_machine.specs.Subsystems.{Subsystem, after_power_cycle}
use Rattle.nvme_subsys.specs.OverMedium.{over}
use Rattle.nvme_library.specs.DiskLaws.{IsAsOn}
use Rattle.nvme_library.specs.Events.{Cycling, Executing}
use Rattle.nvme_library.specs.Holding.{Inside}
use Rattle.nvme_library.specs.Looking.{LooksAt}
use Rattle.nvme_library.specs.Over.{ExecutingOver}

-- A controller over two blocks has fetched a Flush, or a Write of both.
unfoldable pub flushing : Subsystem
flushing = having (a_flush ∷ [])

unfoldable pub writing : Subsystem
writing = having (a_write ∷ [])

abbrev pub after : Subsystem → Subsystem
after s = (fault_free_step s (Execute 1 0)).left

abbrev pub is_done : BareSeen
is_done = Executed (Posted (record { status = status.successful_completion; dw0 = 0; rule = 0 }))

-- The Flush is executed over any medium in memory, and leaves it unchanged; no execution of it ends with another
-- medium. The Write leaves its bytes.
pub record ExecutingMakesItsCalls : Type 0 where
  pub flushes : (m : OwnOrLent) → IsInMemory m → Executing 1 0 (over flushing m) is_done (over (after flushing) m)
  pub no_write : (m other : OwnOrLent) → IsInMemory m → bytes_of other ≢ bytes_of m
      → Executing 1 0 (over flushing m) is_done (over (after flushing) other) → ⊥
  pub writes : (m other : OwnOrLent) → IsInMemory m → bytes_of m ≡ writing.device.content
      → Executing 1 0 (over writing m) is_done (over (after writing) other) → bytes_of other ≡ replicate 1024 0

-- The Flush is executed over a program's disk, if the program says that a flush passes. It brings no block, so the room
-- is as the disk has it, and comes back as it was.
abbrev pub FlushesOverADisk : Type 0
FlushesOverADisk =
    (m : BroughtMedium) → (room : Room) → HasNothing m → m.failures ≡ 0 → content_of m ≡ flushing.device.content
    → room.first ≡ 0 → room.at_hand ≡ 0 → room.flushes ≡ true
    → ExecutingOver 1 0 room (over flushing (Brought m)) is_done room (over (after flushing) (Brought m))
    × IsAsOn flushing.device.content room

-- A power cycle leaves the medium unchanged: a step to another medium is not one.
pub record CyclingMakesNoCall : Type 0 where
  pub leaves : (s : Inside) → Cycling s Cycled (over (after_power_cycle s.state) s.medium)
  pub no_write : (s : Inside) → (other : OwnOrLent) → bytes_of other ≢ bytes_of s.medium
      → Cycling s Cycled (over (after_power_cycle s.state) other) → ⊥

-- A read of the first of two blocks in memory gives its bytes, and no others, and leaves the medium unchanged.
abbrev pub LooksAtFirst : OwnOrLent → List ℕ → OwnOrLent → Type 0
LooksAtFirst m left other =
    LooksAt 1 0 1 (over flushing m) (replicate 512 7) left (Some (Ok tt)) (over flushing other)

pub record LooksMakeTheirReads : Type 0 where
  pub reads : (m : OwnOrLent) → IsInMemory m → bytes_of m ≡ flushing.device.content → LooksAtFirst m (replicate 512 1) m
  pub no_other_bytes : (m other : OwnOrLent) → LooksAtFirst m (replicate 512 2) other → ⊥
  pub no_write : (m other : OwnOrLent) → IsInMemory m → bytes_of other ≢ bytes_of m
      → LooksAtFirst m (replicate 512 1) other → ⊥
