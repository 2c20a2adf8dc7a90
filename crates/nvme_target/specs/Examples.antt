-- What the worked examples of causes use: connections 7 and 8 are the Admin Queue and an I/O queue of controller 1, of
-- host 0xa1, and no connection is one of controller 2, of host 0xb2.
use Rattle.std.specs.Prelude.{ℕ, false, List, [], ◌∷◌}
use Rattle.nvme_machine.specs.declared.event.Event.{Event}
use Rattle.nvme_machine.specs.declared.event.Event.TheVariants.{Write32, Execute}
use Rattle.nvme_fabrics.specs.Examples.{hosts, entry, any_of, judged, two_queues}
use Rattle.nvme_fabrics.specs.Runs.{Input, Connects, Closes, Ends}
use Rattle.nvme_target.specs.Causes.{Cause, Connecting, MayCause}

-- a cause may make an event happen after these inputs, if hosts have no keys
abbrev pub May : List Input → Cause → Event → Type 0
May inputs cause event = MayCause hosts false inputs cause event

-- the I/O queue's connection has closed, and the association of controller 1 has ended
abbrev pub closed : List Input
closed = Closes 8 ∷ two_queues

abbrev pub ended : List Input
ended = Ends 0 ∷ two_queues

-- connection 7 waits for its host to authenticate itself
abbrev pub asked : List Input
asked = Connects 7 (entry 0 31) (any_of 0xa1) judged ∷ []

-- connection 9 asks for the Admin Queue of any controller of this host
abbrev pub connecting : ℕ → Cause
connecting host = Connecting 9 (entry 0 31) (any_of host) judged

-- a controller is disabled, and executes its first fetched command
abbrev pub resets : ℕ → Event
resets k = Write32 k 0x14 0

abbrev pub executes : ℕ → Event
executes k = Execute k 0

-- the entries of a Read and of a command of Fabrics, as far as their destination goes
abbrev pub read : List ℕ
read = 2 ∷ []

abbrev pub of_fabrics : List ℕ
of_fabrics = 127 ∷ []
