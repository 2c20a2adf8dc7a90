-- Statements of the law on bringing up: each call of the port is an event of the controller, a turn is a fetch from its
-- admin queue and an execution of its first fetched command, and looks and loads are no events.
use Rattle.std.specs.Prelude.{◌≡◌, ◌+◌, Bool, length, slice_range, Result, Ok}
use Rattle.nvme_spec.specs.Registers.{value_at}
use Rattle.nvme_driver.specs.declared.state.State.TheVariants.{Down}
use Rattle.nvme_driver.specs.declared.faults.UpFault.{UpFault}
use Rattle.nvme_driver.specs.Calls.{Call, Stores, Writes, Reads, Turns, Sees, Loads}
use Rattle.nvme_driver.specs.Drivers.{Driver}
use Rattle.nvme_driver.specs.Polls.{seen_in}
use Rattle.nvme_driver.specs.Rises.{Rises}
use Rattle.nvme_machine.specs.declared.seen.Executed.{Executed}
use Rattle.nvme_machine.specs.Controllers.{Controller, after_store, after_write32, after_fetch}
use Rattle.nvme_machine.specs.Executing.{Setting, ExecutesNth}
use Rattle.nvme_mailbox.specs.Deliveries.{brought_up}
use Rattle.nvme_refinement.specs.Sound.{Sound, mailbox}

abbrev pub with_controller : Setting → Controller → Setting
with_controller s c = record s { controller = c }

-- the effect of a call of the port on a controller, with the access state and the medium
abbrev pub LinkStep : Bool → Setting → Call → Setting → Type 0
LinkStep tells old (Stores address bytes) new =
    new ≡ with_controller old (after_store address bytes old.controller).controller
LinkStep tells old (Writes offset v) new = new ≡ with_controller old (after_write32 offset v old.controller)
LinkStep tells old (Reads offset v) new = (v ≡ value_at old.controller.registers offset) × (new ≡ old)
LinkStep tells old Turns new =
    (executed : Executed)
    × ExecutesNth tells 0 (with_controller old (after_fetch 0 old.controller).controller) executed new
LinkStep tells old (Sees lane head expected seen) new =
    (seen ≡ seen_in lane head expected old.controller.window) × (new ≡ old)
LinkStep tells old (Loads at part) new =
    (part ≡ slice_range old.controller.window at (at + length part)) × (new ≡ old)

-- It came up: the mailbox is up, it is the same controller, and access state and medium are unchanged.
pub record HasComeUp (d : Driver) (old : Setting) (result : Result (Unit {0}) UpFault) (d' : Driver)
    (new : Setting) : Type 0 where
  pub answered : result ≡ Ok tt
  pub sound : Sound d' new.controller
  pub mail : (brought_up (mailbox d old.controller)).mailbox ≡ mailbox d' new.controller
  pub cntlid : new.controller.cntlid ≡ old.controller.cntlid
  pub world : new.world ≡ old.world
  pub device : new.device ≡ old.device

-- A driver that is down always comes up, by a step of the mailbox.
abbrev pub BringUpIsAStep : Type 0
BringUpIsAStep =
    (tells : Bool) (d d' : Driver) (old new : Setting) (result : Result (Unit {0}) UpFault) → Sound d old.controller
    → d.state ≡ Down → Rises (LinkStep tells) d old result d' new → HasComeUp d old result d' new
