-- For `mailbox_fleets.rt`: raw hosts, preempting commands, drivers of a configuration, and results that never occur.
use Rattle.std.specs.Prelude.{[], ◌∷◌, ◌≡◌, ℕ, Bool, false, Some, Err, slice_get}
use Rattle.nvme_spec.specs.declared.command.Command.TheVariants.{ReservationAcquire}
use Rattle.nvme_spec.specs.declared.config.ControllerConfig.{ControllerConfig}
use Rattle.nvme_spec.specs.Configuration.{Configuration}
use Rattle.nvme_machine.specs.declared.seen.Executed.TheVariants.{NoSuch}
use Rattle.nvme_driver.specs.declared.faults.UpFault.TheVariants as up_fault
use Rattle.nvme_event.specs.declared.seen.FleetSeen.TheVariants.{Executed, Up}
use Rattle.nvme_mailbox.specs.Fleets.{Fleet}
use Rattle.nvme_mailbox.specs.Fencing.{IsOn}
use Rattle.nvme_mailbox.specs.IoCommands.{IoCommand}
use Rattle.nvme_mailbox.specs.Preempting.{Preempts}
use Rattle.nvme_mailbox.specs.SinceUp.{HasDriver}
use Rattle.nvme_mailbox.specs.Unseen.{IsUnseen}

pub mailbox_preempting_command : (tells : Bool) → (n k i : ℕ) → (before after : Fleet) → (c : IoCommand)
    → Preempts tells n before k i c after → IsOn n (ReservationAcquire ∷ []) c
mailbox_preempting_command tells n k i before after c x = x.is

pub mailbox_drivers_controller : (c : Configuration) → (i : ℕ) → (x : HasDriver c i) → slice_get c.controllers i
    ≡ Some x.0
mailbox_drivers_controller c i x = x.1

pub mailbox_drivers_not_raw : (c : Configuration) → (i : ℕ) → (x : HasDriver c i) → x.0.raw ≡ false
mailbox_drivers_not_raw c i x = x.2

pub mailbox_drivers_enough : (c : Configuration) → (i : ℕ) → (k : ControllerConfig) → slice_get c.controllers i
    ≡ Some k → k.raw ≡ false → HasDriver c i
mailbox_drivers_enough c i k there not_raw = (k, there, not_raw)

pub mailbox_unseen_results_up_already : IsUnseen (Up (Err up_fault.AlreadyUp)) → ⊥
mailbox_unseen_results_up_already x = x

pub mailbox_unseen_results_no_command : IsUnseen (Executed NoSuch) → ⊥
mailbox_unseen_results_no_command x = x
