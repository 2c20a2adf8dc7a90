-- The bytes of a payload, for the contracts of `payload.rt`.
use Rattle.std.specs.Prelude.{ℕ, ◌≤◌, List, [], length}
use Rattle.nvme_spec.specs.Limits.{longest_controller_list}
use Rattle.nvme_driver.specs.declared.payload.Payload.{Payload}
use Rattle.nvme_driver.specs.declared.payload.Payload.TheVariants.{Nothing, Given, Key, Keys, Identifiers}
use Rattle.nvme_driver.specs.Requests.{controller_list}

abbrev pub bytes_of : Payload → List ℕ
bytes_of Nothing = []
bytes_of (Given bytes) = bytes.now
bytes_of (Key bytes) = bytes
bytes_of (Keys bytes) = bytes
bytes_of (Identifiers list) = controller_list list.now

-- its identifiers, if it has some, fit a Controller List
abbrev pub IsSpelled : Payload → Type 0
IsSpelled (Identifiers list) = length list.now ≤ longest_controller_list
IsSpelled other = Unit {0}
