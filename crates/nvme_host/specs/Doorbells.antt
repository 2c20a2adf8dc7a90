-- The doorbells, as a driver wrote them (Base Specification: Submission Queue Tail Doorbell, Completion Queue Head
-- Doorbell; Controller Capabilities, DSTRD).
use Rattle.std.specs.Prelude.{ℕ, ◌+◌, ◌*◌, ◌==◌, Bool, ◌&&◌, if◌then◌else◌}
use Rattle.nvme_spec.specs.Queues.{CompletionHead, empty_completion_head, after_consumption, slot_of}
use Rattle.nvme_driver.specs.declared.lane.Lane.{Lane}
use Rattle.nvme_driver.specs.declared.lane.Lane.TheVariants.{Admin, Io}
use Rattle.nvme_driver.specs.Layout.{completion_entries, completion_queue, tail_doorbell, head_doorbell}
use Rattle.nvme_driver.specs.Drivers.{cc}
use Rattle.nvme_host.specs.declared.doorbells.Doorbells.{Doorbells}

-- those of a controller that was reset
abbrev pub initial_doorbells : Doorbells
initial_doorbells = record {
  admin_tail = 0;
  io_tail = 0;
  admin_head = empty_completion_head completion_entries;
  io_head = empty_completion_head completion_entries;
}

-- A register is written: 0 in Controller Configuration is a reset, a tail doorbell has its value, and a completion was
-- consumed if it is a head doorbell.
abbrev pub after_write : Doorbells → ℕ → ℕ → Doorbells
after_write b offset v =
    if offset == cc then (if v == 0 then initial_doorbells else b)
    else (if offset == tail_doorbell Admin then record b { admin_tail = v }
    else (if offset == tail_doorbell Io then record b { io_tail = v }
    else (if offset == head_doorbell Admin then record b { admin_head = after_consumption b.admin_head }
    else (if offset == head_doorbell Io then record b { io_head = after_consumption b.io_head } else b))))

-- a write that would leave a tail doorbell as it is, which the standard calls an invalid doorbell write
abbrev pub repeats_tail : Doorbells → ℕ → ℕ → Bool
repeats_tail b offset v =
    if offset == tail_doorbell Admin then b.admin_tail == v else (offset == tail_doorbell Io) && (b.io_tail == v)

-- the heads, by lane (queue pair)
abbrev pub head_of_lane : Lane → Doorbells → CompletionHead
head_of_lane Admin b = b.admin_head
head_of_lane Io b = b.io_head

-- the place of the next completion of a lane
abbrev pub place_by : Lane → CompletionHead → ℕ
place_by lane head = completion_queue lane + 16 * slot_of head.size head.consumed

abbrev pub next_place : Lane → Doorbells → ℕ
next_place lane doorbells = place_by lane (head_of_lane lane doorbells)

-- the offset of a register if doorbells are this number of bytes apart
abbrev pub register_at : ℕ → ℕ → ℕ
register_at stride offset =
    if offset == head_doorbell Admin then 0x1000 + stride
    else (if offset == tail_doorbell Io then 0x1000 + 2 * stride
    else (if offset == head_doorbell Io then 0x1000 + 3 * stride else offset))
