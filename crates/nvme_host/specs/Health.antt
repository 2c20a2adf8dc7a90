-- The status of a controller that is up, for C (Base Specification 2.0, Controller Status).
use Rattle.std.specs.Prelude.{ℕ, ◌==◌, if◌then◌else◌}
use Rattle.nvme_device.specs.declared.status.Awaited.TheVariants.{Ready}
use Rattle.nvme_device.specs.Status.{gone, is_fatal, is_reached}

-- 48: the device was removed; 49: CFS; 23: RDY is 0, so the controller has reset itself
abbrev pub health : ℕ → ℕ
health csts =
    if csts == gone then 48
    else (if is_fatal Ready csts then 49
    else (if is_reached Ready csts then 0 else 23))
