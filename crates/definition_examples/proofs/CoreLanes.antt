-- For `core_lanes.rt`: the two lanes of a driver and its controller.
use Rattle.std.specs.Prelude.{◌≡◌, ◌≤◌, ℕ, Bool, true}
use Rattle.nvme_spec.specs.Registers.{value_at}
use Rattle.nvme_driver.specs.Calls.{Reads}
use Rattle.nvme_machine.specs.Executing.{Setting}
use Rattle.nvme_refinement.specs.Links.{LinkStep}
use Rattle.nvme_refinement.specs.Views.{Running, Holds, Host, State}

pub core_register_reads_value : (tells : Bool) → (before after : Setting) → (offset v : ℕ)
    → LinkStep tells before (Reads offset v) after → v ≡ value_at before.controller.registers offset
core_register_reads_value tells before after offset v x =
    let both : (v ≡ value_at before.controller.registers offset) × (after ≡ before) = x in both.0

pub core_register_reads_unchanged : (tells : Bool) → (before after : Setting) → (offset v : ℕ)
    → LinkStep tells before (Reads offset v) after → after ≡ before
core_register_reads_unchanged tells before after offset v x =
    let both : (v ≡ value_at before.controller.registers offset) × (after ≡ before) = x in both.1

pub core_sound_lanes_queues : (d : Host) → (c : State) → Running d c → c.ready ≡ true
core_sound_lanes_queues d c x = x.ready

pub core_sound_lanes_tickets : (first : ℕ) → (d : Host) → (c : State) → Holds first d c → first ≤ d.next
core_sound_lanes_tickets first d c x = x.begun
