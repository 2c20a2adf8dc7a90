-- Controller Status, while a host waits for it (Base Specification: Controller Status, that is RDY, CFS and SHST;
-- Controller Capabilities, TO).
use Rattle.std.specs.Prelude.{ℕ, ◌-◌, ◌^◌, ◌==◌, nat_lt, Bool, false, if◌then◌else◌}
use Rattle.nvme_wire.specs.Entry.{bits}
use Rattle.nvme_device.specs.declared.status.Awaited.{Awaited}
use Rattle.nvme_device.specs.declared.status.Awaited.TheVariants.{Disabled, Ready, ShutDown}
use Rattle.nvme_device.specs.declared.status.Progress.{Progress}
use Rattle.nvme_device.specs.declared.status.Progress.TheVariants.{Reached, Waits, Removed, Fatal, TimedOut}

-- a register of 32 bits of a device that is gone
abbrev pub gone : ℕ
gone = 2 ^ 32 - 1

-- RDY is bit 0, SHST bits 3:2, 10b after a shutdown
abbrev pub is_reached : Awaited → ℕ → Bool
is_reached Disabled csts = bits csts 0 0 == 0
is_reached Ready csts = bits csts 0 0 == 1
is_reached ShutDown csts = bits csts 3 2 == 2

-- CFS is bit 1; a reset ends it
abbrev pub is_fatal : Awaited → ℕ → Bool
is_fatal Disabled csts = false
is_fatal Ready csts = bits csts 1 1 == 1
is_fatal ShutDown csts = bits csts 1 1 == 1

abbrev pub progress_of : Awaited → ℕ → ℕ → ℕ → Progress
progress_of awaited csts elapsed_ms timeout_ms =
    if csts == gone then Removed
    else (if is_fatal awaited csts then Fatal
    else (if is_reached awaited csts then Reached
    else (if nat_lt elapsed_ms timeout_ms then Waits else TimedOut)))
