-- The texts of a driver's faults, which are their names.
use Rattle.std.specs.Prelude.{ℕ, List, ◌++◌, codes}
use Rattle.nvme_wire.specs.StatusNames.{status_text}
use Rattle.nvme_driver.specs.declared.faults.UpFault.{UpFault}
use Rattle.nvme_driver.specs.declared.faults.UpFault.TheVariants as up
use Rattle.nvme_driver.specs.declared.faults.PlaceRefusal.{PlaceRefusal}
use Rattle.nvme_driver.specs.declared.faults.PlaceRefusal.TheVariants as place
use Rattle.nvme_driver.specs.declared.faults.PollFault.{PollFault}
use Rattle.nvme_driver.specs.declared.faults.PollFault.TheVariants as poll

abbrev pub up_fault_text : UpFault → List ℕ
up_fault_text up.AlreadyUp = codes "AlreadyUp"
up_fault_text up.NotReady = codes "NotReady"
up_fault_text up.NoAnswer = codes "NoAnswer"
up_fault_text (up.Refused status) = codes "Refused " ++ status_text status

abbrev pub refusal_text : PlaceRefusal → List ℕ
refusal_text place.NotReady = codes "NotReady"
refusal_text place.BadRequest = codes "BadRequest"
refusal_text place.NoSlot = codes "NoSlot"
refusal_text place.RingFull = codes "RingFull"
refusal_text place.TicketsExhausted = codes "TicketsExhausted"

abbrev pub poll_fault_text : PollFault → List ℕ
poll_fault_text poll.NotUp = codes "NotUp"
poll_fault_text poll.UnknownCommand = codes "UnknownCommand"
