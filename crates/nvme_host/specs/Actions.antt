-- The actions of a placing: no store of the driver is lost on the way to the device.
use Rattle.std.specs.Prelude.{◌≡◌, ℕ, [], map}
use Rattle.nvme_driver.specs.declared.request.Request.{Request}
use Rattle.nvme_driver.specs.Calls.{Call, Stores, Writes, Reads, Turns, Sees, Loads}
use Rattle.nvme_driver.specs.Drivers.{IsPlaced, stores_of}
use Rattle.nvme_host.specs.declared.open_driver.OpenDriver.{OpenDriver}
use Rattle.nvme_host.specs.declared.recording_port.Action.{Action}
use Rattle.nvme_host.specs.Recording.{Records, storing, writing}

-- the action of a call
abbrev pub action_of : Call → Action
action_of (Stores at part) = storing at part
action_of (Writes offset v) = writing offset v
action_of (Reads offset v) = writing offset v
action_of Turns = writing 0 0
action_of (Sees lane head expected seen) = writing 0 0
action_of (Loads at part) = writing 0 0

-- A program that has performed all actions gets those of a placing: the stores of the request in its slot, in order.
abbrev pub PlacingRecordsItsStores : Type 0
PlacingRecordsItsStores =
    (old new : OpenDriver) (request : Request) → old.port.actions.items ≡ []
    → IsPlaced Records old.driver request old.port new.driver new.port
    → (slot : ℕ) × (new.port.actions.items ≡ map action_of (stores_of old.driver request slot))
